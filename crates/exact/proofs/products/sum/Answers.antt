-- `exact::products::sum` meets its contract: p·q + s·t.
use Rattle.ints.proofs.Machine.{sizes}
use Rattle.exact.proofs.products.sum.Goals as goal

pub overflow_add-result : goal.overflow_add-result
overflow_add-result c = search sizes depth 8

pub returns : goal.returns
returns c = search sizes depth 8
