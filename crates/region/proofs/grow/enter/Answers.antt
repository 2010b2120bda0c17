-- `region::grow::enter` meets its contract: the entries that the order names enter the ring.
use Rattle.region.proofs.Growth.{enter-start, enter_inserting, enter_step, enter-end}
use Rattle.region.proofs.grow.enter.Goals as goal

pub loop-h-init : goal.loop-h-init
loop-h-init c = enter-start c.requires

pub insert-next-requires : goal.insert-next-requires
insert-next-requires c =
    enter_inserting c.requires c.loop-h.invariant
    c.loop-h-test.true

pub loop-h-preserved : goal.loop-h-preserved
loop-h-preserved c =
    enter_step c.requires
    c.loop-h.invariant c.loop-h-test.true
    c.insert-next.ensures

pub shape_of-ring : goal.shape_of-ring
shape_of-ring c = c.loop-h.invariant.same

pub returns : goal.returns
returns c = enter-end c.requires c.loop-h.invariant c.loop-h-test.false
