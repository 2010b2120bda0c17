-- `engine::seeking::first_place` meets its contract: a place of the constraint, or none.
use mathlib.Core.Path.{◌∙◌, sym}
use Prim.Native.Nat.{◌+◌}
use native.Mathlib.Omega.{arith}
use Rattle.engine.proofs.Places.{sought-inner}
use Rattle.engine.proofs.Rows.{ring-place}
use Rattle.engine.proofs.seeking.first_place.Goals as goal

pub loop-k-init : goal.loop-k-init
loop-k-init c = omega (arith, c.requires.two)

pub overflow_sub-k-end : goal.overflow_sub-k-end
overflow_sub-k-end c = omega (arith, c.requires.two)

pub overflow_add-p : goal.overflow_add-p
overflow_add-p c = omega (arith, c.loop-k.invariant, c.requires.ring.fits)

pub overflow_add-p-in-loop-k : goal.overflow_add-p-in-loop-k
overflow_add-p-in-loop-k c = omega (arith, c.loop-k.invariant, c.requires.ring.fits)

pub is_between-requires : goal.is_between-requires
is_between-requires c =
    let p = c.requires in
    let lo = c.args.arc.lo in
    let k = c.loop-k.k in
    ring-place p.ring p.w-small (lo + k) (lo + k + 1) (omega arith) (omega (arith, c.loop-k.invariant)) (omega arith) (omega arith)

pub returns-then-is_between : goal.returns-then-is_between
returns-then-is_between c = sought-inner (omega arith) (sym c.is_between.ensures ∙ c.if-is_between.true)
