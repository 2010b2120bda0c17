-- Inequalities that are sums of products of known signs. `by_le n f refl x₁ .. xₙ h` proves left ≤ right where f writes right − left as a
-- polynomial s and h says that s is not negative; h is often `search signs`. `by-lt` is the strict form, `clash` shows that a sum which
-- is identically 0 is not positive, and the forms with a factor prove k·(right − left) and cancel k > 0.
use mathlib.Core.Path.{◌≡◌, sym, ◌∙◌, ap, subst}
use mathlib.Core.List.{[]}
use Prim.Native.Nat.{ℕ}
use lib.IntN.{ℤ, pos, ◌-ℤ◌, ◌*ℤ◌, +ℤ_invr, *ℤ-zero}
use lib.Signed.{clash_ℤ}
use Rattle.ints.specs.Order.{◌≤ᶻ◌, ◌<ᶻ◌}
use Rattle.ints.proofs.Ring.{Poly, eval, normal, Fun, body, ForAll, for_all, ring-sound, ◌⊖◌, ◌⊗◌, con}
use Rattle.ints.proofs.Order.{nn_add, nn_mul, nn_zero, pos_nn, pos-add_nn, nn_add_pos, pos-mul, nn_sub, pos-sub, sub_nn, sub-pos}
use Rattle.ints.proofs.Order.{nn_cancel, pos-cancel, le_of_eq}

-- what proves a sum of products not negative, or positive, from the signs of its parts
pub ruleset signs = (pos-add_nn, nn_add_pos, pos-mul, nn_add, nn_mul, pos_nn, sub_nn, sub-pos)

-- an equation may be used with any factor
pub nn_equal : (k : ℤ) {a b : ℤ} → a ≡ b → pos 0 ≤ᶻ k *ℤ (a -ℤ b)
nn_equal k {a} {b} e = nn_zero (ap (λ z. k *ℤ (z -ℤ b)) e ∙ ap (λ z. k *ℤ z) (+ℤ_invr b) ∙ *ℤ-zero k)

-- left is at most right, because right − left is the sum
pub record Bound : Type 0 where
  pub left : Poly
  pub right : Poly
  pub sum : Poly

-- the same with right − left multiplied by a factor
pub record Scaled : Type 0 where
  pub factor : Poly
  pub left : Poly
  pub right : Poly
  pub sum : Poly

infix 3 ◌≼◌by◌ ◌·⟨◌≼◌⟩by◌
abbrev pub ◌≼◌by◌ : Poly → Poly → Poly → Bound
l ≼ r by s = record { left = l; right = r; sum = s }

abbrev pub ◌·⟨◌≼◌⟩by◌ : Poly → Poly → Poly → Poly → Scaled
k ·⟨ l ≼ r ⟩by s = record { factor = k; left = l; right = r; sum = s }

module _ (n : ℕ) (f : Fun n Bound) where
  abbrev bound : Bound
  bound = body Bound n f

  pub by_le :
      normal (bound.right ⊖ bound.left) ≡ normal bound.sum →
      ForAll n (λ ρ. pos 0 ≤ᶻ eval ρ bound.sum → eval ρ bound.left ≤ᶻ eval ρ bound.right) []
  by_le e =
      for_all n (λ ρ. pos 0 ≤ᶻ eval ρ bound.sum → eval ρ bound.left ≤ᶻ eval ρ bound.right)
      (λ ρ h. nn_sub (subst (λ z. pos 0 ≤ᶻ z) (sym (ring-sound ρ (bound.right ⊖ bound.left) bound.sum e)) h)) []

  pub by_lt :
      normal (bound.right ⊖ bound.left) ≡ normal bound.sum →
      ForAll n (λ ρ. pos 0 <ᶻ eval ρ bound.sum → eval ρ bound.left <ᶻ eval ρ bound.right) []
  by_lt e =
      for_all n (λ ρ. pos 0 <ᶻ eval ρ bound.sum → eval ρ bound.left <ᶻ eval ρ bound.right)
      (λ ρ h. pos-sub (subst (λ z. pos 0 <ᶻ z) (sym (ring-sound ρ (bound.right ⊖ bound.left) bound.sum e)) h)) []

module _ (n : ℕ) (f : Fun n Scaled) where
  abbrev scaled : Scaled
  scaled = body Scaled n f

  pub by_le_of :
      normal (scaled.factor ⊗ (scaled.right ⊖ scaled.left)) ≡ normal scaled.sum →
      ForAll n (λ ρ. pos 0 <ᶻ eval ρ scaled.factor → pos 0 ≤ᶻ eval ρ scaled.sum → eval ρ scaled.left ≤ᶻ eval ρ scaled.right)
      []
  by_le_of e =
      for_all n (λ ρ. pos 0 <ᶻ eval ρ scaled.factor → pos 0 ≤ᶻ eval ρ scaled.sum → eval ρ scaled.left ≤ᶻ eval ρ scaled.right)
      (λ ρ k h. nn_sub (nn_cancel k
      (subst (λ z. pos 0 ≤ᶻ z) (sym (ring-sound ρ (scaled.factor ⊗ (scaled.right ⊖ scaled.left)) scaled.sum e)) h))) []

  pub by_lt_of :
      normal (scaled.factor ⊗ (scaled.right ⊖ scaled.left)) ≡ normal scaled.sum →
      ForAll n (λ ρ. pos 0 <ᶻ eval ρ scaled.factor → pos 0 <ᶻ eval ρ scaled.sum → eval ρ scaled.left <ᶻ eval ρ scaled.right)
      []
  by_lt_of e =
      for_all n (λ ρ. pos 0 <ᶻ eval ρ scaled.factor → pos 0 <ᶻ eval ρ scaled.sum → eval ρ scaled.left <ᶻ eval ρ scaled.right)
      (λ ρ k h. pos-sub (pos-cancel k
      (subst (λ z. pos 0 <ᶻ z) (sym (ring-sound ρ (scaled.factor ⊗ (scaled.right ⊖ scaled.left)) scaled.sum e)) h))) []

-- a sum that is identically 0 is not positive
module _ (n : ℕ) (f : Fun n Poly) where
  pub clash : normal (body Poly n f) ≡ [] → ForAll n (λ ρ. pos 0 <ᶻ eval ρ (body Poly n f) → ⊥) []
  clash e =
      for_all n (λ ρ. pos 0 <ᶻ eval ρ (body Poly n f) → ⊥)
      (λ ρ h. clash_ℤ h (le_of_eq (ring-sound ρ (body Poly n f) (con (pos 0)) e))) []
