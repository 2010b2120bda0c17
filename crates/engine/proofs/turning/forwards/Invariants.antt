-- `engine::turning::forwards` meets its contract: the ring is turned until edge k is its last.
use Rattle.engine.proofs.Turns.{Forth}
use Rattle.engine.proofs.turning.forwards.Given as goal

abbrev pub invariant-loop-at : goal.invariant-loop-at
invariant-loop-at l = Forth l.initial.ring l.arc.lo l.arc.n l.k l.at l.ring
