-- `offering::rays::rays` meets its contract: each rule in turn narrows the quadrant.
use native.Mathlib.Omega.{arith}
use Rattle.offering.proofs.Passes.{narrowed-start, narrowed-room, narrowing, narrowed-step, narrowed-end}
use Rattle.offering.proofs.rays.rays.Goals as goal

pub overflow_add-end : goal.overflow_add-end
overflow_add-end c = omega (arith, c.requires.room)

pub loop-i-init : goal.loop-i-init
loop-i-init c = narrowed-start c.requires

pub entry-h-requires : goal.entry-h-requires
entry-h-requires c = narrowed-room c.loop-i.invariant c.loop-i-test.true c.requires

pub invariant_of-narrow : goal.invariant_of-narrow
invariant_of-narrow c =
    record { small = ∣ narrowing c.loop-i.invariant c.loop-i-test.true c.entry-h.ensures ∣₁ }

pub loop-i-preserved : goal.loop-i-preserved
loop-i-preserved c = narrowed-step c.loop-i.invariant c.loop-i-test.true c.entry-h.ensures c.narrow-cone.ensures

pub returns : goal.returns
returns c = narrowed-end c.loop-i.invariant c.loop-i-test.false
