-- `engine::walk::walk_rules` meets its contract: the walk along n rules, which stand after the floors.
use Rattle.engine.proofs.Walks.{Walked}
use Rattle.engine.proofs.walk.walk_rules.Given as goal

abbrev pub invariant-loop-i : goal.invariant-loop-i
invariant-loop-i l = Walked l.objective l.run l.n l.initial.walk l.walk l.i
