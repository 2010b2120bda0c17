-- `laying::lay_sampled` meets its contract: the order is put in, and the corners are listed.
use Rattle.laying.proofs.Layouts.{lays-listed}
use Rattle.laying.proofs.lay_sampled.Goals as goal

pub returns : goal.returns
returns c =
    let a = c.args in
    lays-listed a.floors a.run.now a.order.now a.ring.now a.corners.now c.is_ready.ensures c.if-not-is_ready.false
    c.put_order.ensures c.put_order.auto.order c.corners.ensures
