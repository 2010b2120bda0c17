-- `engine::turning::backwards` meets its contract: the ring is turned until edge k is its last.
use Rattle.engine.proofs.Turns.{Backed}
use Rattle.engine.proofs.turning.backwards.Given as goal

abbrev pub invariant-loop-at : goal.invariant-loop-at
invariant-loop-at l = Backed l.initial.ring l.arc.lo l.arc.n l.k l.at l.ring

abbrev pub decreases-loop-at : goal.decreases-loop-at
decreases-loop-at l = l.at
