-- `region::insert::back` meets its contract: the edges at the back are dropped whose earlier corner is broken.
use Rattle.engine.specs.Entries.{entry}
use Rattle.engine.proofs.Dropping.{Back}
use Rattle.region.proofs.insert.back.Given as goal

abbrev pub invariant-loop-k : goal.invariant-loop-k
invariant-loop-k l = Back (entry l.run) l.ring l.arc.lo l.arc.n l.h l.k

abbrev pub decreases-loop-k : goal.decreases-loop-k
decreases-loop-k l = l.k
