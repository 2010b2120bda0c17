-- `region::insert::seek` meets its contract: the ring is turned to the place of a constraint.
use Rattle.region.proofs.Loops.{Seek}
use Rattle.region.proofs.insert.seek.Given as goal

abbrev pub invariant-loop-left : goal.invariant-loop-left
invariant-loop-left l = Seek l.run l.initial.ring l.size l.h l.fn.arc.lo l.fn.arc.n l.ring l.at l.left

abbrev pub decreases-loop-left : goal.decreases-loop-left
decreases-loop-left l = l.left
