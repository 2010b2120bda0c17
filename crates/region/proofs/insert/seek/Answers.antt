-- `region::insert::seek` meets its contract: the ring is turned to the place of a constraint.
use mathlib.Core.Path.{sym, ◌∙◌}
use native.Mathlib.Omega.{arith}
use Rattle.region.proofs.Loops.{seek-start, seek-place, seek-turning, seek_stop, seek-step, seek-end}
use Rattle.region.proofs.insert.seek.Goals as goal

pub loop-left-init : goal.loop-left-init
loop-left-init c = seek-start c.requires

pub overflow_add-at : goal.overflow_add-at
overflow_add-at c =
    omega (arith, c.loop-left.invariant.fits, c.loop-left.invariant.same, c.requires.two)

pub at_place-requires : goal.at_place-requires
at_place-requires c = seek-place c.requires c.loop-left.invariant

pub shape_of-ring-then-at_place : goal.shape_of-ring-then-at_place
shape_of-ring-then-at_place c = c.loop-left.invariant.same

pub returns-then-at_place : goal.returns-then-at_place
returns-then-at_place c =
    seek_stop c.requires c.loop-left.invariant
    c.loop-left-test.true (sym c.at_place.ensures ∙ c.if-at_place.true)

pub turn-at-requires : goal.turn-at-requires
turn-at-requires c =
    seek-turning c.requires c.loop-left.invariant

pub loop-left-preserved : goal.loop-left-preserved
loop-left-preserved c =
    seek-step c.requires
    c.loop-left.invariant
    c.loop-left-test.true
    (sym c.at_place.ensures ∙ c.if-at_place.false)
    c.turn-at.ensures

pub shape_of-ring : goal.shape_of-ring
shape_of-ring c = c.loop-left.invariant.same

pub returns : goal.returns
returns c = seek-end c.requires c.loop-left.invariant c.loop-left-test.false
