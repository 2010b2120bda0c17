-- `offering::picks::best` meets its contract: one pass over the listed corners.
use Rattle.lp.specs.Outcome.{gain_order}
use Rattle.lp.specs.Document as document
use Rattle.offering.proofs.Passes.{Picked}
use Rattle.offering.proofs.picks.best.Given as goal

abbrev pub invariant-loop-i : goal.invariant-loop-i
invariant-loop-i l = Picked (gain_order l.f document.tie) l.corners l.count l.v l.i
