-- What corners earn is compared exactly, and the corners and rays of rules that are in range are within their bounds; an i64 that a call
-- took or handed back is read from its bits.
use Rattle.std.specs.Prelude.{Option}
use mathlib.Core.Path.{◌≡◌, sym, ◌∙◌, subst}
use mathlib.Core.Bool.{Bool, true, ◌&&◌}
use mathlib.Core.List.{List, [], ◌∷◌, Memᴰ}
use Prim.Native.Nat.{◌^◌, ◌<◌}
use lib.IntN.{ℤ, pos, negsuc}
use lib.Signed.{mag, le_z, le_z_yes}
use Rattle.ints.specs.Order.{◌≤ᶻ◌, ◌<ᶻ◌}
use Rattle.ints.specs.Within.{Within}
use Rattle.ints.proofs.Bits.{read}
use Rattle.ints.proofs.Machine.{within_le, weaken}
use Rattle.lp.specs.declared.Constraint.{Constraint}
use Rattle.lp.specs.declared.Floors.{Floors}
use Rattle.lp.specs.declared.Functional.{Functional}
use Rattle.lp.specs.declared.Point.{Point}
use Rattle.lp.specs.declared.Ray.{Ray}
use Rattle.lp.specs.Program.{gain, system}
use Rattle.lp.specs.Corners.{less}
use Rattle.lp.specs.Range.{SmallConstraint, SmallFloors, SmallSystem}
use Rattle.model.specs.Step.{narrow}
use Rattle.model.specs.Bounds.{SmallPoint, SmallCone}
use Rattle.model.proofs.Bounds.{floorX-small, floorY-small, meet-small, reduce-small, narrow-small, axes-small}
use Rattle.theory.proofs.Vertex.{Vertex}
use Rattle.batch_theory.specs.Rays.{narrow_all, axes, rays_of}
use Rattle.compare.specs.Comparing.{is_denominator, less_in}
use Rattle.compare.proofs.Points.{less-exact}
use Rattle.fraction.proofs.Quotients.{unread}
use Rattle.amounts.proofs.Sizes.{within-unread}
use Rattle.amounts.proofs.Tests.{is_true}
use Rattle.laying.proofs.Layouts.{small-member}
use Rattle.offering.specs.Asked.{Weighing}

-- ---- the comparison of what two corners earn

denominator : {v : Point} → SmallPoint v → is_denominator v.d ≡ true
denominator {v} h =
    λ i. is_true (le_z (pos 1) v.d) (least h.d-proper).le i && is_true (le_z v.d (pos 2147483647)) (within_le most).le i
  where
    least : {d : ℤ} → pos 0 <ᶻ d → pos 1 ≤ᶻ d
    least {d = pos n} k = le_z_yes k.lt
    least {d = negsuc n} k = absurd k.lt

    most : Within 2147483647 v.d
    most = weaken tt h.d_small

pub weighed : {f : Functional} {w v : Point} →
    Weighing f w v →
    {y z : ℤ} →
    mag y < 2 ^ 63 →
    mag z < 2 ^ 63 →
    y ≡ gain f v →
    z ≡ gain f w →
    {t : Bool} →
    t ≡ less_in (read y) (read v.d) (read z) (read w.d) →
    t ≡ less (gain f v) v.d (gain f w) w.d
weighed {f} {w} {v} h fy fz ey ez e =
    e
    ∙ (λ i. less_in ((unread fy ∙ ey) i) (within-unread h.points.second.d_small tt i) ((unread fz ∙ ez) i)
    (within-unread h.points.first.d_small tt i))
    ∙ less-exact (gain f v) v.d (gain f w) w.d
    (record { first = denominator h.points.second; second = denominator h.points.first })

-- ---- the corners and rays of a system whose rules are in range

module _ {floors : Floors} (rules : List Constraint) (low : SmallFloors floors) (small : SmallSystem rules) where
  entry-small : (r : Constraint) → Memᴰ r (system floors rules) → SmallConstraint r
  entry-small = small-member (system floors rules) (floorX-small low, (floorY-small low, small))

  pub vertex-small : (v : Point) → Vertex (system floors rules) v → SmallPoint v
  vertex-small v x =
      subst SmallPoint (sym x.lowest)
      (reduce-small (meet-small (entry-small x.one x.one-member) (entry-small x.other x.other-member) x.crosses))

narrowed-small :
    (rules : List Constraint) → SmallSystem rules → (rays : Option (Ray × Ray)) → SmallCone rays → SmallCone (narrow_all rules rays)
narrowed-small [] h rays c = c
narrowed-small (r ∷ rules) h rays c = narrowed-small rules h.1 (narrow r rays) (narrow-small h.0 rays c)

pub rays-small : (rules : List Constraint) → SmallSystem rules → SmallCone (rays_of rules)
rays-small rules h = narrowed-small rules h axes axes-small
