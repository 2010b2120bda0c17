-- `engine::seeking::halved` meets its contract: an edge of the ring.
use Prim.Native.Nat.{◌-◌, ◌≤◌, ◌<◌}
use Rattle.engine.proofs.seeking.halved.Given as goal

abbrev pub invariant-loop-from : goal.invariant-loop-from
invariant-loop-from l = (l.from < l.to) × (l.to ≤ l.arc.n)

abbrev pub decreases-loop-from : goal.decreases-loop-from
decreases-loop-from l = l.to - l.from
