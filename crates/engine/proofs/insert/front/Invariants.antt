-- `engine::insert::front` meets its contract: the edges at the front are dropped whose later corner is broken.
use Rattle.engine.specs.Row.{named}
use Rattle.engine.proofs.Dropping.{Front}
use Rattle.engine.proofs.insert.front.Given as goal

abbrev pub invariant-loop-i : goal.invariant-loop-i
invariant-loop-i l = Front (named l.run) l.ring l.arc.lo l.arc.n l.h l.i
