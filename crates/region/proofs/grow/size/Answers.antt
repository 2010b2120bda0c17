-- `region::grow::size` meets its contract.
use Rattle.engine.proofs.Rows.{size-c-first, size-c-second, size-read}
use Rattle.region.proofs.grow.size.Goals as goal

pub overflow_sub-result : goal.overflow_sub-result
overflow_sub-result c = size-c-first c.requires

pub overflow_sub-result-2 : goal.overflow_sub-result-2
overflow_sub-result-2 c = size-c-second c.requires

pub returns : goal.returns
returns c = size-read c.requires
