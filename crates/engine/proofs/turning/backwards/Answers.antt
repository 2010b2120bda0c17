-- `engine::turning::backwards` meets its contract: the ring is turned until edge k is its last.
use native.Mathlib.Omega.{arith}
use Rattle.engine.proofs.Turns.{backed_start, backed_room, backed_step, backed_end}
use Rattle.engine.proofs.turning.backwards.Goals as goal

pub overflow_add-end : goal.overflow_add-end
overflow_add-end c = omega (arith, c.requires.fits, c.requires.inside)

pub overflow_add-end-2 : goal.overflow_add-end-2
overflow_add-end-2 c = omega (arith, c.requires.fits, c.requires.inside)

pub overflow_sub-end : goal.overflow_sub-end
overflow_sub-end c = omega (arith, c.requires.room)

pub loop-at-init : goal.loop-at-init
loop-at-init c = backed_start c.requires

pub overflow_add-i : goal.overflow_add-i
overflow_add-i c = omega (arith, backed_room c.requires c.loop-at.invariant)

pub bounds-ring-at : goal.bounds-ring-at
bounds-ring-at c =
    omega (arith, backed_room c.requires c.loop-at.invariant, c.loop-at-test.true)

pub bounds-ring-at-in-loop-at : goal.bounds-ring-at-in-loop-at
bounds-ring-at-in-loop-at c =
    omega (arith, backed_room c.requires c.loop-at.invariant, c.loop-at-test.true)

pub loop-at-preserved : goal.loop-at-preserved
loop-at-preserved c = backed_step c.requires c.loop-at.invariant c.loop-at-test.true

pub shape_of-ring : goal.shape_of-ring
shape_of-ring c = c.loop-at.invariant.turned.same

pub returns : goal.returns
returns c = backed_end c.requires c.loop-at.invariant c.loop-at-test.false
