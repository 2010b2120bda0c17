-- `steps::plan::places` meets its contract: after i turns the first i places are named.
use mathlib.Core.Path.{◌≡◌}
use Rattle.sessions.specs.Laying.{named_to}
use Rattle.steps.proofs.plan.places.Given as goal

abbrev pub invariant-loop-i : goal.invariant-loop-i
invariant-loop-i l = l.name-items ≡ named_to l.i
