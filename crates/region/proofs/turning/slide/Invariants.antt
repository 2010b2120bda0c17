-- `region::turning::slide` meets its contract: the ring is moved to the start of its run.
use Rattle.region.proofs.Loops.{Slide}
use Rattle.region.proofs.turning.slide.Given as goal

abbrev pub invariant-loop-i : goal.invariant-loop-i
invariant-loop-i l = Slide l.initial.ring l.arc.lo l.arc.n l.ring l.i
