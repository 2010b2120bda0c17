-- `answer_line::line::append_plan` meets its contract. Each arm of the match is given the outcome that it is for.
use mathlib.Core.Path.{ap, sym}
use native.Mathlib.Omega.{arith}
use Rattle.report.specs.Line.{fields}
use Rattle.text.proofs.Adding.{spelt, roomier}
use Rattle.answer_line.proofs.line.append_plan.Goals as goal

pub returns-in-Infeasible : goal.returns-in-Infeasible
unfolding fields
returns-in-Infeasible c = spelt (ap (fields c.args.naming c.args.plan) (sym c.in-Infeasible.is)) c.append_impossible.ensures

pub returns-in-Unbounded : goal.returns-in-Unbounded
unfolding fields
returns-in-Unbounded c =
    spelt (ap (fields c.args.naming c.args.plan) (sym c.in-Unbounded.is)) (roomier (omega arith) c.append_unlimited.ensures)

pub returns-in-Optimal : goal.returns-in-Optimal
unfolding fields
returns-in-Optimal c =
    spelt (ap (fields c.args.naming c.args.plan) (sym c.in-Optimal.is)) (roomier (omega arith) c.append_best.ensures)
