-- `engine::seeking::first_place` meets its contract: a place of the constraint, or none.
use Prim.Native.Nat.{◌<◌}
use Rattle.engine.proofs.seeking.first_place.Given as goal

abbrev pub invariant-loop-k : goal.invariant-loop-k
invariant-loop-k l = l.k < l.arc.n
