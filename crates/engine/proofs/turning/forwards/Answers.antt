-- `engine::turning::forwards` meets its contract: the ring is turned until edge k is its last.
use mathlib.Core.Path.{subst}
use Prim.Native.Nat.{ℕ}
use native.Mathlib.Omega.{arith}
use Rattle.engine.specs.Rings.{Faces}
use Rattle.engine.proofs.Turns.{forth_start, forth_room, forth_step, forth_end}
use Rattle.engine.proofs.turning.forwards.Goals as goal

pub overflow_add-end : goal.overflow_add-end
overflow_add-end c = omega (arith, c.requires.room)

pub overflow_add-end-2 : goal.overflow_add-end-2
overflow_add-end-2 c = omega (arith, c.requires.room)

pub loop-at-init : goal.loop-at-init
loop-at-init c = forth_start c.requires

pub bounds-ring-at : goal.bounds-ring-at
bounds-ring-at c = omega (arith, forth_room c.requires c.loop-at.invariant c.loop-at-test.true)

pub overflow_add-ring : goal.overflow_add-ring
overflow_add-ring c = omega (arith, forth_room c.requires c.loop-at.invariant c.loop-at-test.true)

pub bounds-ring-at-in-loop-at : goal.bounds-ring-at-in-loop-at
bounds-ring-at-in-loop-at c = forth_room c.requires c.loop-at.invariant c.loop-at-test.true

pub loop-at-preserved : goal.loop-at-preserved
loop-at-preserved c = forth_step c.requires c.loop-at.invariant c.loop-at-test.true

pub shape_of-ring : goal.shape_of-ring
shape_of-ring c = c.loop-at.invariant.turned.same

pub returns : goal.returns
returns c =
    let a = c.args in
    subst (λ (at : ℕ). Faces a.ring.now a.arc.lo a.arc.n a.k at c.loop-at.ring) (omega (arith, c.loop-at.invariant.inside))
    (forth_end c.requires c.loop-at.invariant c.loop-at-test.false)
