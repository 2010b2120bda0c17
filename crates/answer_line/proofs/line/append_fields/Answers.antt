-- `answer_line::line::append_fields` meets its contract. Each arm of the match is given the answer that it is for.
use mathlib.Core.Path.{ap, sym}
use native.Mathlib.Omega.{arith}
use Rattle.report.specs.Line.{answer_fields}
use Rattle.text.proofs.Adding.{fits, spelt, roomier}
use Rattle.answer_line.proofs.line.append_fields.Goals as goal

pub returns-in-Err : goal.returns-in-Err
unfolding answer_fields
returns-in-Err c =
    spelt (ap (answer_fields c.args.naming) (sym c.in-Err.is)) (roomier (omega arith) (fits (omega arith) c.append_refused.ensures))

pub returns-in-Ok : goal.returns-in-Ok
unfolding answer_fields
returns-in-Ok c = spelt (ap (answer_fields c.args.naming) (sym c.in-Ok.is)) c.append_plan.ensures
