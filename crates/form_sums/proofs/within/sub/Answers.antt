-- `form_sums::within::sub` meets its contract.
use Rattle.ints.proofs.Machine.{sizes}
use Rattle.form_sums.proofs.within.sub.Goals as goal

pub overflow_sub-result : goal.overflow_sub-result
overflow_sub-result c =
    search sizes depth 8

pub returns : goal.returns
returns c =
    search sizes depth 8
