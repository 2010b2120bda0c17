-- `engine::grow::grow` meets its contract: the ring of the first m entries.
use mathlib.Core.Path.{◌≡◌}
use Prim.Native.Nat.{◌≤◌}
use lib.ListN.{length}
use Rattle.engine.specs.Rings.{Carries}
use Rattle.engine.proofs.grow.grow.Given as goal

abbrev pub invariant-loop-k : goal.invariant-loop-k
invariant-loop-k l = Carries l.run l.ring l.size l.k l.held × (length l.ring ≡ length l.initial.ring) × (l.k ≤ l.m)
