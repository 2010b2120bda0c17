-- `laying::order::put_sample` meets its contract: no more rules are taken than there are.
use Prim.Native.Nat.{◌-◌, ◌+◌, ◌/◌, ◌≤◌}
use mathlib.Core.Path.{◌≡◌}
use lib.ListN.{length}
use Rattle.laying.proofs.order.put_sample.Given as goal

abbrev pub invariant-loop-at : goal.invariant-loop-at
invariant-loop-at l =
    (l.k ≤ l.at) × (l.k ≤ length l.initial.order) × (l.step ≡ length l.initial.order / 64 + 1) × (length l.order ≡ length l.initial.order) × (length l.initial.order ≤ 65533)

abbrev pub decreases-loop-at : goal.decreases-loop-at
decreases-loop-at l = length l.initial.order - l.at
