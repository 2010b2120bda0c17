-- `region::grow::enter` meets its contract: the entries that the order names enter the ring.
use Rattle.region.proofs.Growth.{Enter}
use Rattle.region.proofs.grow.enter.Given as goal

abbrev pub invariant-loop-h : goal.invariant-loop-h
invariant-loop-h l = Enter l.run l.order l.initial.ring l.size l.fn.arc l.ring l.next l.h-index
