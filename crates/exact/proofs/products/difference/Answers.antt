-- `exact::products::difference` meets its contract: p·q − s·t.
use Rattle.ints.proofs.Machine.{sizes}
use Rattle.exact.proofs.products.difference.Goals as goal

pub overflow_sub-result : goal.overflow_sub-result
overflow_sub-result c = search sizes depth 8

pub returns : goal.returns
returns c = search sizes depth 8
