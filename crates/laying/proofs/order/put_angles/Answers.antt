-- `laying::order::put_angles` meets its contract: sorting keeps the members.
use lib.ListN.{length}
use Rattle.sorting.specs.Keys.{earlier_at}
use Rattle.laying.proofs.Orders.{sorted-names}
use Rattle.laying.proofs.order.put_angles.Goals as goal

pub returns : goal.returns
returns c =
    let a = c.args in
    sorted-names (earlier_at c.frame.result a.run.now) (length a.order.now) c.count_rules.ensures c.sort.ensures
