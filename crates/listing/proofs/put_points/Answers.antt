-- `listing::put_points` meets its contract: after i turns the first i points are written.
use native.Mathlib.Omega.{arith}
use Rattle.listing.proofs.Written.{putting_start, putting_on, putting_end}
use Rattle.listing.proofs.put_points.Goals as goal

pub loop-i-init : goal.loop-i-init
loop-i-init c = putting_start c.args.keys.now c.args.run.now c.args.n c.requires

pub overflow_mul-i : goal.overflow_mul-i
overflow_mul-i c =
    let p = c.loop-i.invariant in
    let s = p.same in
    let r = p.asked.room in
    let t = c.loop-i-test.true in
    omega arith

pub bounds-run-i : goal.bounds-run-i
bounds-run-i c =
    let a = c.loop-i.invariant.asked.all in
    omega (arith, c.loop-i-test.true)

pub loop-i-preserved : goal.loop-i-preserved
loop-i-preserved c =
    let a = c.args in
    let put = c.put_point in
    putting_on a.keys.now a.run.now a.n c.loop-i.invariant c.loop-i-test.true
    c.point_at.ensures
    put.ensures put.auto.out

pub shape_of-out : goal.shape_of-out
shape_of-out c = c.loop-i.invariant.same

pub returns : goal.returns
returns c =
    let a = c.args in
    putting_end a.keys.now a.run.now a.n c.loop-i.invariant c.loop-i-test.false
