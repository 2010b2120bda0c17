-- `region::list::list` meets its contract: the corners of a ring, in its order.
use Rattle.region.proofs.Listings.{Walk}
use Rattle.region.proofs.list.list.Given as goal

abbrev pub invariant-loop-i : goal.invariant-loop-i
invariant-loop-i l = Walk l.run l.ring l.arc l.initial.out l.out l.k l.i
