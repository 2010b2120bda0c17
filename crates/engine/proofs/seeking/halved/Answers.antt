-- `engine::seeking::halved` meets its contract: an edge of the ring.
use Prim.Native.Nat.{◌+◌, ◌-◌, ◌/◌}
use native.Mathlib.Omega.{arith}
use Rattle.engine.proofs.Rows.{meet-small, read_small, ring-at, ring-small}
use Rattle.engine.proofs.seeking.halved.Goals as goal

pub edge-first-requires : goal.edge-first-requires
edge-first-requires c =
    let p = c.requires.seeking in
    ring-at p.ring c.args.arc.lo (omega arith) (omega (arith, p.two))

pub loop-from-init : goal.loop-from-init
loop-from-init c = (omega (arith, c.requires.seeking.two), omega arith)

pub overflow_add-from : goal.overflow_add-from
overflow_add-from c = omega (arith, c.loop-from.invariant.0, c.loop-from.invariant.1, c.requires.seeking.ring.fits)

pub overflow_sub-middle : goal.overflow_sub-middle
overflow_sub-middle c = omega (arith, c.loop-from.invariant.0)

pub overflow_add-middle : goal.overflow_add-middle
overflow_add-middle c =
    let p = c.requires.seeking in
    omega (arith, c.loop-from.invariant.0, c.loop-from.invariant.1, p.ring.fits)

pub overflow_add-arc : goal.overflow_add-arc
overflow_add-arc c =
    let p = c.requires.seeking in
    omega (arith, c.loop-from.invariant.0, c.loop-from.invariant.1, p.ring.fits)

pub edge-x-requires : goal.edge-x-requires
edge-x-requires c =
    let l = c.loop-from in
    ring-at c.requires.seeking.ring (c.args.arc.lo + (l.from + (l.to - l.from) / 2)) (omega arith)
    (omega (arith, l.invariant.0, l.invariant.1))

pub comes_before-requires : goal.comes_before-requires
comes_before-requires c =
    let p = c.requires.seeking in
    let l = c.loop-from in
    let first = ring-small p.ring c.args.arc.lo (omega arith) (omega (arith, p.two)) in
    record {
      v-small =
          meet-small c.requires.size_small (read_small first c.edge-first.ensures)
          c.meet-v.ensures;
      x-small =
          read_small
          (ring-small p.ring (c.args.arc.lo + (l.from + (l.to - l.from) / 2)) (omega arith) (omega (arith, l.invariant.0, l.invariant.1)))
          c.edge-x.ensures;
      w-small = p.w-small;
    }

pub loop-from-smaller-then-comes_before : goal.loop-from-smaller-then-comes_before
loop-from-smaller-then-comes_before c = omega (arith, c.loop-from-test.true, c.loop-from.invariant.0)

pub loop-from-preserved-then-comes_before : goal.loop-from-preserved-then-comes_before
loop-from-preserved-then-comes_before c =
    (omega (arith, c.loop-from-test.true, c.loop-from.invariant.0), c.loop-from.invariant.1)

pub loop-from-smaller : goal.loop-from-smaller
loop-from-smaller c = omega (arith, c.loop-from-test.true, c.loop-from.invariant.0)

pub loop-from-preserved : goal.loop-from-preserved
loop-from-preserved c = (
  omega (arith, c.loop-from-test.true, c.loop-from.invariant.0),
  omega
      (arith, c.loop-from.invariant.0, c.loop-from.invariant.1),
)

pub returns : goal.returns
returns c = omega (arith, c.loop-from.invariant.0, c.loop-from.invariant.1)
