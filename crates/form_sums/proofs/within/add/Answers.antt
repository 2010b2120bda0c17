-- `form_sums::within::add` meets its contract.
use Rattle.ints.proofs.Machine.{sizes}
use Rattle.form_sums.proofs.within.add.Goals as goal

pub overflow_add-result : goal.overflow_add-result
overflow_add-result c =
    search sizes depth 8

pub returns : goal.returns
returns c =
    search sizes depth 8
