-- `finding::passed` meets its contract: no record before the place is wanted.
use Prim.Native.Nat.{◌-◌}
use lib.ListN.{length}
use Rattle.finding.specs.Place.{Passed}
use Rattle.finding.proofs.passed.Given as goal

abbrev pub invariant-loop-i : goal.invariant-loop-i
invariant-loop-i l = Passed l.records l.wanted l.i

abbrev pub decreases-loop-i : goal.decreases-loop-i
decreases-loop-i l = length l.records - l.i
