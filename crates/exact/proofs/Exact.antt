-- Sums and differences of two products, as 64 bits leave them: to wrap on the way changes nothing. Numbers that fit are left as they are,
-- so that of numbers within document 01's bounds each function hands back the exact number.
use Rattle.std.specs.Prelude.{Option, None, Some}
use mathlib.Core.Path.{◌≡◌, refl, ◌∙◌, ap}
use mathlib.Core.Bool.{Bool, true, false}
use Prim.Native.Nat.{ℕ, ◌+◌, ◌*◌, ◌-◌, ◌%◌, ◌^◌, ◌<◌}
use native.Mathlib.Omega.{arith}
use native.Mathlib.Nat.{mod-lt}
use lib.Dec.{T, ltb}
use lib.IntN.{ℤ, pos, neg_ℤ, ◌+ℤ◌, ◌-ℤ◌, ◌*ℤ◌}
use lib.Signed.{le_z, lt_z}
use mir.Syntax.{w64}
use mir.Val.{SFits, of_z, to_z}
use Rattle.std.specs.Int.{int_wrap}
use Rattle.std.proofs.lemmas.Int.{int_wrap_fits, wrapping_add-bits, wrapping_sub-bits, wrapping_mul_is, int_wrap-add_left, int_wrap-add_right, int_wrap-sub_right}
use Rattle.ints.specs.Within.{Within}
use Rattle.ints.proofs.Machine.{within_neg, within-fits, within-add, within-sub, within-mul}
use Rattle.lp.specs.declared.Constraint.{Constraint}
use Rattle.lp.specs.declared.Functional.{Functional}
use Rattle.lp.specs.declared.Point.{Point}
use Rattle.lp.specs.declared.Ray.{Ray}
use Rattle.lp.specs.Range.{SmallConstraint, SmallFunctional}
use Rattle.lp.specs.Program.{slack, rise, along, gain, ray}
use Rattle.lp.specs.Outcome.{det, meet, keeps}
use Rattle.lp.specs.Certificate.{is_zero}
use Rattle.exact.specs.Turned.{facing, direction}
use Rattle.exact.specs.Cone.{narrowed, narrow, gaining}
use Rattle.exact.specs.Wrapped.{keeps_corner, wrapped_point, wrapped_ray, wrapped_constraint, narrowed_to, wrapped_narrow, gained_by, wrapped_gaining}
use Rattle.exact.specs.Sizes.{SmallPoint, Factors, Distance, Lines, Meeting, Risen, Gained, Narrowing, Gaining}
pub use Rattle.exact.proofs.Sizes.{det-factors, x-factors, y-factors, dot-factors, rise-factors, along-factors, at_corner, kept-distance}

-- the bits of a product
abbrev product : ℤ → ℤ → ℕ
product p q = of_z w64 p * of_z w64 q % 2 ^ 64

small : (p q : ℤ) → product p q < 2 ^ 64
small p q = mod-lt (of_z w64 p * of_z w64 q) (omega arith)

module _ {p q s t : ℤ} (hp : SFits w64 p) (hq : SFits w64 q) (hs : SFits w64 s) (ht : SFits w64 t) where
  first : to_z w64 (product p q) ≡ int_wrap w64 (p *ℤ q)
  first = wrapping_mul_is w64 p q hp hq

  second : to_z w64 (product s t) ≡ int_wrap w64 (s *ℤ t)
  second = wrapping_mul_is w64 s t hs ht

  pub sum-wraps :
      to_z w64 ((of_z w64 p * of_z w64 q % 2 ^ 64 + of_z w64 s * of_z w64 t % 2 ^ 64) % 2 ^ 64) ≡ int_wrap w64 (p *ℤ q +ℤ s *ℤ t)
  sum-wraps =
      wrapping_add-bits w64 (product p q) (product s t) (small p q) (small s t)
      ∙ (λ i. int_wrap w64 (first i +ℤ second i))
      ∙ int_wrap-add_left w64 (p *ℤ q) (int_wrap w64 (s *ℤ t))
      ∙ int_wrap-add_right w64 (p *ℤ q) (s *ℤ t)

  pub difference-wraps :
      to_z w64 ((of_z w64 p * of_z w64 q % 2 ^ 64 + (2 ^ 64 - of_z w64 s * of_z w64 t % 2 ^ 64)) % 2 ^ 64)
      ≡ int_wrap w64 (p *ℤ q -ℤ s *ℤ t)
  difference-wraps =
      wrapping_sub-bits w64 (product p q) (product s t) (small p q) (small s t)
      ∙ (λ i. int_wrap w64 (first i -ℤ second i))
      ∙ int_wrap-add_left w64 (p *ℤ q) (neg_ℤ (int_wrap w64 (s *ℤ t)))
      ∙ int_wrap-sub_right w64 (p *ℤ q) (s *ℤ t)

-- ---- numbers within the bounds

-- a number that is small is what is left of it
kept : {n : ℕ} {z : ℤ} → Within n z → T (ltb n (2 ^ 63)) → int_wrap w64 z ≡ z
kept {n} {z} h t = int_wrap_fits w64 z (within-fits h t)

module _ {p q s t : ℤ} (f : Factors p q s t) where
  pub sum-exact : int_wrap w64 (p *ℤ q +ℤ s *ℤ t) ≡ p *ℤ q +ℤ s *ℤ t
  sum-exact = kept (within-add (within-mul f.p-small f.q-small) (within-mul f.s-small f.t-small)) tt

  pub difference-exact : int_wrap w64 (p *ℤ q -ℤ s *ℤ t) ≡ p *ℤ q -ℤ s *ℤ t
  difference-exact = kept (within-sub (within-mul f.p-small f.q-small) (within-mul f.s-small f.t-small)) tt

-- what constraints, rays and functionals give to products
module _ {r s : Constraint} (h : Lines r s) where
  pub det-exact : int_wrap w64 (det r s) ≡ det r s
  det-exact = difference-exact (det-factors h)

  pub dot-exact : int_wrap w64 (r.a *ℤ s.a +ℤ r.b *ℤ s.b) ≡ r.a *ℤ s.a +ℤ r.b *ℤ s.b
  dot-exact = sum-exact (dot-factors h)

  pub meet-exact : wrapped_point (meet r s) ≡ meet r s
  meet-exact =
      λ i. record { x = difference-exact (x-factors h) i; y = difference-exact (y-factors h) i; d = difference-exact (det-factors h) i }

pub rise-exact : {r : Constraint} {d : Ray} → Risen r d → int_wrap w64 (rise r d) ≡ rise r d
rise-exact h = sum-exact (rise-factors h)

pub stays-exact : {r : Constraint} {d : Ray} → Risen r d → le_z (int_wrap w64 (rise r d)) (pos 0) ≡ le_z (rise r d) (pos 0)
stays-exact h = ap (λ (z : ℤ). le_z z (pos 0)) (rise-exact h)

pub along-exact : {f : Functional} {d : Ray} → Gained f d → int_wrap w64 (along f d) ≡ along f d
along-exact h = sum-exact (along-factors h)

pub gains-exact : {f : Functional} {d : Ray} → Gained f d → lt_z (pos 0) (int_wrap w64 (along f d)) ≡ lt_z (pos 0) (along f d)
gains-exact h = ap (lt_z (pos 0)) (along-exact h)

pub loses-exact : {f : Functional} {d : Ray} → Gained f d → lt_z (int_wrap w64 (along f d)) (pos 0) ≡ lt_z (along f d) (pos 0)
loses-exact h = ap (λ (z : ℤ). lt_z z (pos 0)) (along-exact h)

pub slack-exact : {r : Constraint} {v : Point} → Distance r.a v.x r.b v.y r.c v.d → int_wrap w64 (slack r v) ≡ slack r v
slack-exact f =
    kept
    (within-sub (within-mul f.c-small f.d_small) (within-add (within-mul f.a_small f.x-small) (within-mul f.b-small f.y-small)))
    tt

pub earns-exact : {f : Functional} {v : Point} → SmallFunctional f → SmallPoint v → int_wrap w64 (gain f v) ≡ gain f v
earns-exact h k = kept (within-add (within-mul h.p-small k.x-small) (within-mul h.q-small k.y-small)) tt

module _ (r : Constraint) (v : Point) (f : Distance r.a v.x r.b v.y r.c v.d) where
  pub keeps-exact : le_z (pos 0) (int_wrap w64 (slack r v)) ≡ keeps r v
  keeps-exact = ap (le_z (pos 0)) (slack-exact f)

  pub tight-exact : is_zero (int_wrap w64 (slack r v)) ≡ is_zero (slack r v)
  tight-exact = ap is_zero (slack-exact f)

  pub reaches-exact : le_z (int_wrap w64 (slack r v)) (pos 0) ≡ le_z (slack r v) (pos 0)
  reaches-exact = ap (λ (z : ℤ). le_z z (pos 0)) (slack-exact f)

-- a corner at a third constraint
module _ {h p q : Constraint} (m : Meeting h p q) where
  pub corner-exact : keeps_corner h p q ≡ keeps h (meet p q)
  corner-exact =
      ap (λ (v : Point). le_z (pos 0) (int_wrap w64 (slack h v))) (meet-exact (record { first = m.p-small; second = m.q-small }))
      ∙ keeps-exact h (meet p q) (at_corner m)

-- a constraint turned round, and the two directions of its line
module _ {r : Constraint} (h : SmallConstraint r) where
  pub direction-exact : wrapped_ray (direction r) ≡ direction r
  direction-exact = λ i. record { dx = kept h.b-small tt i; dy = kept (within_neg h.a_small) tt i }

  pub backward-exact : wrapped_ray (ray (neg_ℤ r.b) r.a) ≡ ray (neg_ℤ r.b) r.a
  backward-exact = λ i. record { dx = kept (within_neg h.b-small) tt i; dy = kept h.a_small tt i }

  pub facing-exact : (side : Bool) → wrapped_constraint (facing side r) ≡ facing side r
  facing-exact true = λ i. record { a = kept h.a_small tt i; b = kept h.b-small tt i; c = kept h.c-small tt i }
  facing-exact false =
      λ i. record { a = kept (within_neg h.a_small) tt i; b = kept (within_neg h.b-small) tt i; c = kept (within_neg h.c-small) tt i }

-- ---- the rays of a cone

narrowed-exact : (h : Constraint) → SmallConstraint h → (lo hi : Ray) (s t : Bool) → narrowed_to h lo hi s t ≡ narrowed h lo hi s t
narrowed-exact h k lo hi true true = refl
narrowed-exact h k lo hi true false = ap (λ (d : Ray). Some (lo, d)) (direction-exact k)
narrowed-exact h k lo hi false true = ap (λ (d : Ray). Some (d, hi)) (backward-exact k)
narrowed-exact h k lo hi false false = refl

pub narrow-exact : (h : Constraint) (cone : Option (Ray × Ray)) → Narrowing h cone → wrapped_narrow h cone ≡ narrow h cone
narrow-exact h None s = refl
narrow-exact h (Some (lo, hi)) s =
    (λ i. narrowed_to h lo hi (stays-exact (record { constraint = s.constraint; ray = s.rays.0 }) i)
    (stays-exact (record { constraint = s.constraint; ray = s.rays.1 }) i))
    ∙ narrowed-exact h s.constraint lo hi (le_z (rise h lo) (pos 0)) (le_z (rise h hi) (pos 0))

gained : (f : Functional) (lo hi : Ray) (s t : Bool) →
    gained_by lo hi s t ≡ elim s [ true ↦ Some lo | false ↦ elim t [ true ↦ Some hi | false ↦ None ] ]
gained f lo hi true t = refl
gained f lo hi false true = refl
gained f lo hi false false = refl

pub gaining-exact : (f : Functional) (cone : Option (Ray × Ray)) → Gaining f cone → wrapped_gaining f cone ≡ gaining f cone
gaining-exact f None s = refl
gaining-exact f (Some (lo, hi)) s =
    (λ i. gained_by lo hi (gains-exact (record { functional = s.functional; ray = s.rays.0 }) i)
    (gains-exact (record { functional = s.functional; ray = s.rays.1 }) i))
    ∙ gained f lo hi (lt_z (pos 0) (along f lo)) (lt_z (pos 0) (along f hi))
