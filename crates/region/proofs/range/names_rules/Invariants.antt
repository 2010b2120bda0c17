-- `region::range::names_rules` meets its contract.
use Rattle.region.proofs.Testing.{Names}
use Rattle.region.proofs.range.names_rules.Given as goal

abbrev pub invariant-loop-k : goal.invariant-loop-k
invariant-loop-k l = Names l.n l.order l.k-index
