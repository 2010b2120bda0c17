-- `engine::carry::carry_in` meets its contract: the walk from some rule on, with the ring carried along.
use mathlib.Core.Path.{◌≡◌}
use lib.ListN.{length}
use Rattle.engine.specs.Rings.{Carries}
use Rattle.engine.proofs.Carried.{Onward}
use Rattle.engine.proofs.carry.carry_in.Given as goal

abbrev pub invariant-loop-k : goal.invariant-loop-k
invariant-loop-k l =
    Onward l.objective l.run l.n l.initial.walk l.i l.walk l.k
    × Carries l.run l.ring l.size l.k l.held
    × (length l.ring ≡ length l.initial.ring)
