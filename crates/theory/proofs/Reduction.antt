-- A point in lowest terms is the same point: every sign and every comparison is as it was.
use mathlib.Core.Path.{◌≡◌, refl, sym, ◌∙◌, ap, subst}
use mathlib.Core.List.{[], ◌∷◌}
use lib.IntN.{ℤ, pos, ◌-ℤ◌, ◌*ℤ◌, +ℤ_idr}
use Rattle.ints.specs.Order.{◌≤ᶻ◌, ◌<ᶻ◌}
use Rattle.ints.specs.Gcd.{gcd3, Reduced}
use Rattle.ints.proofs.Ring.{◌⊕◌, ◌⊖◌, ◌⊗◌, ◌≐◌}
use Rattle.ints.proofs.Order.{nn_cancel}
use Rattle.ints.proofs.Divides.{pos_of_lt}
use Rattle.ints.proofs.Gcd.{gcd3-pos}
use Rattle.ints.proofs.Reduced.{reduce-first, reduce-second, reduce-third, reduce-pos, reduce_reduced, reduced-unique, SameTriple}
use Rattle.lp.specs.declared.Constraint.{Constraint}
use Rattle.lp.specs.declared.Point.{Point}
use Rattle.lp.specs.declared.Ray.{Ray}
use Rattle.lp.specs.Program.{point, slack, Keeps, between}
use Rattle.lp.specs.Outcome.{reduce}
use Rattle.theory.proofs.Solver.{equal, C, P, Z, slackᵖ, betweenᵖ}
use Rattle.theory.proofs.Direction.{Upward, AtMost, Null, ray_path}

pub point_path : {v w : Point} → v.x ≡ w.x → v.y ≡ w.y → v.d ≡ w.d → v ≡ w
point_path p q r = λ i. record { x = p i; y = q i; d = r i }

-- v is k times w
pub record Multiple (k : ℤ) (w v : Point) : Type 0 where
  pub positive : pos 0 <ᶻ k
  pub on-x : k *ℤ w.x ≡ v.x
  pub on-y : k *ℤ w.y ≡ v.y
  pub on-d : k *ℤ w.d ≡ v.d

abbrev scaled : ℤ → Point → Point
scaled k w = point (k *ℤ w.x) (k *ℤ w.y) (k *ℤ w.d)

module _ (k : ℤ) (w v : Point) (m : Multiple k w v) where
  whole : scaled k w ≡ v
  whole = point_path m.on-x m.on-y m.on-d

  pub multiple-slack : (r : Constraint) → k *ℤ slack r w ≡ slack r v
  multiple-slack r =
      equal (Z ∷ C ∷ P ∷ []) (λ k r w. k ⊗ slackᵖ r w ≐ r.c ⊗ (k ⊗ w.d) ⊖ (r.a ⊗ (k ⊗ w.x) ⊕ r.b ⊗ (k ⊗ w.y))) refl k r w
      ∙ ap (slack r) whole

  pub keeps-lowest : (r : Constraint) → Keeps r v → Keeps r w
  keeps-lowest r h = nn_cancel m.positive (subst (λ z. pos 0 ≤ᶻ z) (sym (multiple-slack r)) h)

  pub at-most-lowest : (Up : Ray → Type 0) → Upward Up → (z : Point) → AtMost Up z v → AtMost Up z w
  at-most-lowest Up O z h = O.cancel k (between z w) m.positive (subst Up (sym (ray_path on-dx on-dy)) h)
    where
      on-dx : k *ℤ (between z w).dx ≡ (between z v).dx
      on-dx =
          equal (Z ∷ P ∷ P ∷ []) (λ k z w. k ⊗ (betweenᵖ z w).dx ≐ k ⊗ w.x ⊗ z.d ⊖ z.x ⊗ (k ⊗ w.d)) refl k z w
          ∙ ap (λ u. (between z u).dx) whole

      on-dy : k *ℤ (between z w).dy ≡ (between z v).dy
      on-dy =
          equal (Z ∷ P ∷ P ∷ []) (λ k z w. k ⊗ (betweenᵖ z w).dy ≐ k ⊗ w.y ⊗ z.d ⊖ z.y ⊗ (k ⊗ w.d)) refl k z w
          ∙ ap (λ u. (between z u).dy) whole

module _ (v : Point) (h : pos 0 <ᶻ v.d) where
  pub reduced-multiple : Multiple (pos (gcd3 v.x v.y v.d)) (reduce v) v
  reduced-multiple =
      record {
        positive = pos_of_lt (gcd3-pos v.x v.y v.d h);
        on-x = reduce-first v.x v.y v.d;
        on-y = reduce-second v.x v.y v.d;
        on-d = reduce-third v.x v.y v.d;
      }

  pub reduced-proper : pos 0 <ᶻ (reduce v).d
  reduced-proper = reduce-pos v.x v.y v.d h

abbrev pub LowestTerms : Point → Type 0
LowestTerms v = Reduced v.x v.y v.d

pub reduced-lowest : (v : Point) → pos 0 <ᶻ v.d → LowestTerms (reduce v)
reduced-lowest v h = reduce_reduced v.x v.y v.d h

-- the same fractions in lowest terms are the same point
pub lowest-unique :
    (v w : Point) →
    pos 0 <ᶻ v.d →
    pos 0 <ᶻ w.d →
    LowestTerms v →
    LowestTerms w →
    Null (between v w) →
    v ≡ w
lowest-unique v w hv hw lv lw n = point_path same.first same.second same.third
  where
    cross-equal : (s t : ℤ) → t -ℤ s ≡ pos 0 → s ≡ t
    cross-equal s t e =
        equal (Z ∷ Z ∷ []) (λ s t. s ≐ t ⊖ (t ⊖ s)) refl s t ∙ ap (λ z. t -ℤ z) e ∙ +ℤ_idr t

    same : SameTriple v.x v.y v.d w.x w.y w.d
    same =
        reduced-unique v.x v.y v.d hv w.x w.y w.d hw
        (cross-equal (v.x *ℤ w.d) (w.x *ℤ v.d) n.no_dx) (cross-equal (v.y *ℤ w.d) (w.y *ℤ v.d) n.no_dy) lv lw
