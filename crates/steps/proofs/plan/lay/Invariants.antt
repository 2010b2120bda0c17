-- `steps::plan::lay` meets its contract: after i turns the first i rules are laid out.
use mathlib.Core.Path.{◌≡◌}
use lib.ListN.{length}
use Rattle.sessions.specs.Laying.{laid_from}
use Rattle.steps.proofs.plan.lay.Given as goal

abbrev pub invariant-loop-i : goal.invariant-loop-i
invariant-loop-i l = (length l.run ≡ 198) × (l.run ≡ laid_from l.initial.run l.fn.session.rules l.i)
