-- `region::range::rules_in_range` meets its contract.
use Rattle.region.proofs.Testing.{Ranged}
use Rattle.region.proofs.range.rules_in_range.Given as goal

abbrev pub invariant-loop-i : goal.invariant-loop-i
invariant-loop-i l = Ranged l.run l.n l.i
