-- `joining::read::rename` meets its contract: the loop's invariant is `Halfway`.
use native.Mathlib.Omega.{arith}
use Rattle.joining.proofs.Renames.{halfway_start, halfway_step, halfway_end}
use Rattle.joining.proofs.read.rename.Goals as goal

pub loop-i-init : goal.loop-i-init
loop-i-init c = halfway_start c.args.names.now c.args.n

pub bounds-names-i : goal.bounds-names-i
bounds-names-i c = omega (arith, c.loop-i.invariant.same_length, c.requires.room, c.loop-i-test.true)

pub overflow_add-names : goal.overflow_add-names
overflow_add-names c =
    let l = c.loop-i in
    omega (arith, l.invariant.rest l.i (omega arith), c.requires.small l.i (omega arith) (omega (arith, c.loop-i-test.true)))

pub loop-i-preserved : goal.loop-i-preserved
loop-i-preserved c =
    let a = c.args in
    let l = c.loop-i in
    halfway_step a.names.now a.n l.i l.names l.invariant (omega arith)
    (omega (arith, c.requires.room, c.loop-i-test.true))

pub returns : goal.returns
returns c =
    let a = c.args in
    let l = c.loop-i in
    halfway_end a.names.now a.n a.m l.i l.names l.invariant c.loop-i-test.false
