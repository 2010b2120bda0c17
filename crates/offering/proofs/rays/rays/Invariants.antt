-- `offering::rays::rays` meets its contract: each rule in turn narrows the quadrant.
use Rattle.offering.proofs.Passes.{Narrowed}
use Rattle.offering.proofs.rays.rays.Given as goal

abbrev pub invariant-loop-i : goal.invariant-loop-i
invariant-loop-i l = Narrowed l.run l.n l.cone l.i
