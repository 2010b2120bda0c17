-- `region::list::list` meets its contract: the corners of a ring, in its order.
use mathlib.Core.Path.{◌∙◌}
use Prim.Native.Nat.{◌+◌}
use native.Mathlib.Omega.{arith}
use Rattle.region.proofs.Rows.{ring-at}
use Rattle.region.proofs.Listings.{walk_start, walk_at, walk-noting, walk_step, walk-last, walk_first}
use Rattle.region.proofs.Listings.{walk-closing, walk_end}
use Rattle.region.proofs.list.list.Goals as goal

pub loop-i-init : goal.loop-i-init
loop-i-init c = walk_start c.requires

pub overflow_add-at : goal.overflow_add-at
overflow_add-at c = omega (arith, c.requires.ring.fits)

pub overflow_sub-at : goal.overflow_sub-at
overflow_sub-at c = omega (arith, c.loop-i.invariant.begun)

pub edge-p-requires : goal.edge-p-requires
edge-p-requires c = walk_at c.requires c.loop-i.invariant (omega arith)

pub edge-requires : goal.edge-requires
edge-requires c =
    let a = c.args.arc in
    ring-at c.requires.ring (a.lo + c.loop-i.i) (omega arith) (omega arith)

pub note-k-requires : goal.note-k-requires
note-k-requires c =
    walk-noting c.requires c.loop-i.invariant
    c.loop-i-test.true c.edge-p.ensures c.edge.ensures

pub loop-i-preserved : goal.loop-i-preserved
loop-i-preserved c =
    walk_step c.requires
    c.loop-i.invariant c.loop-i-test.true
    c.edge-p.ensures c.edge.ensures c.note-k.ensures

pub overflow_add-arc : goal.overflow_add-arc
overflow_add-arc c = omega (arith, c.requires.ring.fits)

pub overflow_sub-arc : goal.overflow_sub-arc
overflow_sub-arc c = omega (arith, c.requires.some)

pub edge-p-requires-2 : goal.edge-p-requires-2
edge-p-requires-2 c = walk-last c.requires c.loop-i.invariant c.loop-i-test.false

pub edge-requires-2 : goal.edge-requires-2
edge-requires-2 c =
    walk_first c.requires c.loop-i.invariant c.loop-i-test.false

pub note-requires : goal.note-requires
note-requires c =
    walk-closing c.requires c.loop-i.invariant
    c.loop-i-test.false c.edge-p-2.ensures c.edge-2.ensures

pub shape_of-out : goal.shape_of-out
shape_of-out c = c.note.ensures.same ∙ c.loop-i.invariant.same

pub returns : goal.returns
returns c =
    walk_end c.requires
    c.loop-i.invariant c.loop-i-test.false
    c.edge-p-2.ensures c.edge-2.ensures c.note.ensures
