-- `arranging::keep_distinct` meets its contract: after each turn, those before place i are kept or dropped.
use Rattle.arranging.proofs.Steps.{Keeping}
use Rattle.arranging.proofs.keep_distinct.Given as goal

abbrev pub invariant-loop-i : goal.invariant-loop-i
invariant-loop-i g l = Keeping (g.O.Order.comes l.order) l.initial.run l.run l.i l.k
