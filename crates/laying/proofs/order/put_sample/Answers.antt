-- `laying::order::put_sample` meets its contract: no more rules are taken than there are.
use native.Mathlib.Omega.{arith}
use Prim.Native.Nat.{◌+◌}
use mathlib.Core.Path.{refl, ◌∙◌}
use lib.ListN.{length-set}
use Rattle.laying.proofs.order.put_sample.Goals as goal

pub overflow_add-step : goal.overflow_add-step
overflow_add-step c = omega (arith, c.requires)

pub loop-at-init : goal.loop-at-init
loop-at-init c = (omega arith, omega arith, refl, refl, c.requires)

pub loop-at-preserved : goal.loop-at-preserved
loop-at-preserved c =
    let l = c.loop-at in (
      omega arith,
      omega arith,
      refl,
      length-set l.order l.k (l.at + 2) ∙ l.invariant.3,
      l.invariant.4,
    )

pub shape_of-order : goal.shape_of-order
shape_of-order c = c.loop-at.invariant.3

pub returns : goal.returns
returns c = c.loop-at.invariant.1
