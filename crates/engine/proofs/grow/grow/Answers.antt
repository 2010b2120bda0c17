-- `engine::grow::grow` meets its contract: the ring of the first m entries.
use mathlib.Core.Path.{refl, ◌∙◌}
use Prim.Native.Nat.{◌/◌}
use native.Mathlib.Omega.{arith}
use lib.ListN.{length, length-set}
use Rattle.engine.proofs.Carried.{seeded-length, grow-start, grow-size, grow-taken, grow-end}
use Rattle.engine.proofs.Carried.{holding_inserting, holding-next}
use Rattle.engine.proofs.grow.grow.Goals as goal

pub bounds-ring-lo : goal.bounds-ring-lo
bounds-ring-lo c = omega (arith, c.requires.room)

pub overflow_add-ring : goal.overflow_add-ring
overflow_add-ring c = omega (arith, c.requires.room)

pub bounds-ring-lo-2 : goal.bounds-ring-lo-2
bounds-ring-lo-2 c = simp length-set (omega (arith, c.requires.room))

pub overflow_add-ring-2 : goal.overflow_add-ring-2
overflow_add-ring-2 c = omega (arith, c.requires.room)

pub bounds-ring-lo-3 : goal.bounds-ring-lo-3
bounds-ring-lo-3 c = simp length-set (omega (arith, c.requires.room))

pub loop-k-init : goal.loop-k-init
loop-k-init c = (grow-start c.requires (length c.args.ring.now / 2) refl, refl, c.requires.two)

pub overflow_add-i : goal.overflow_add-i
overflow_add-i c = omega (arith, c.loop-k-test.true, c.requires.few)

pub overflow_cast-i : goal.overflow_cast-i
overflow_cast-i c = omega (arith, c.loop-k-test.true, c.requires.few)

pub entry-requires : goal.entry-requires
entry-requires c = record { room = omega (arith, c.loop-k-test.true, c.requires.entries.room) }

pub insert-held-requires : goal.insert-held-requires
insert-held-requires c =
    holding_inserting c.loop-k.k c.loop-k.invariant.0
    (grow-taken c.requires c.loop-k-test.true)
    (grow-size c.requires) c.entry.ensures

pub loop-k-preserved : goal.loop-k-preserved
loop-k-preserved c = (
  holding-next c.loop-k.k c.loop-k.invariant.0 c.entry.ensures
      c.insert-held.ensures,
  c.insert-held.ensures.same ∙ c.loop-k.invariant.1,
  omega (arith, c.loop-k-test.true),
)

pub shape_of-ring : goal.shape_of-ring
shape_of-ring c =
    c.loop-k.invariant.1 ∙ seeded-length c.requires
    (length c.args.ring.now / 2) refl

pub returns : goal.returns
returns c = grow-end c.requires c.loop-k.invariant.0 c.loop-k.invariant.2 c.loop-k-test.false
    (c.loop-k.invariant.1 ∙ seeded-length c.requires
    (length c.args.ring.now / 2) refl)
