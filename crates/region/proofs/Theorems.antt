-- What the listed corners are, where the order names every rule and nothing else: the feasible vertices of the system, and none exactly
-- when it is infeasible.
use mathlib.Core.Path.{◌≡◌, refl, sym, ap, subst}
use mathlib.Core.List.Memᴰ
use mathlib.Core.List.{List, [], ◌∷◌, Memᴰ}
use mathlib.Core.Logic.{◌↔◌}
use mathlib.Core.Bool.{true, ◌&&◌}
use Prim.Native.Nat.{ℕ, zero, suc, ◌+◌, ◌-◌, ◌≤◌, ◌<◌}
use native.Mathlib.Omega.{arith}
use borrow.Author.Tests.{le-leb, lt-ltb}
use lib.Dec.{T}
use lib.ListN.{length}
use lib.IntN.{ℤ}
use Rattle.lp.specs.declared.Constraint.{Constraint}
use Rattle.lp.specs.declared.Floors.{Floors}
use Rattle.lp.specs.declared.Point.{Point}
use Rattle.lp.specs.Program.{system}
use Rattle.lp.specs.Outcome.{every}
use Rattle.lp.specs.Textbook.{Infeasible}
use Rattle.theory.proofs.Lists.{for-members, every_of}
use Rattle.theory.proofs.Enumeration.{allowed_vertices}
use Rattle.engine.specs.Entries.{entry, entries}
use Rattle.amounts.proofs.Tests.{is_true}
use Rattle.boundary.proofs.Theorems.{ring-corners, ring-infeasible}
use Rattle.boundary.proofs.Count.{corners-at-most}
use Rattle.region.specs.Listing.{chosen, is_rule, corners_of}

-- n indices from i on
abbrev pub places : ℕ → ℕ → List ℕ
places i zero = []
places i (suc n) = i ∷ places (suc i) n

places-within : (i n k : ℕ) → Memᴰ k (places i n) → (i ≤ k) × (k < i + n)
places-within i zero = λ k m. absurd (Memᴰ.not-nil m)
places-within i (suc n) =
    for-members (λ (k : ℕ). (i ≤ k) × (k < i + suc n)) i (places (suc i) n) (omega arith, omega arith)
    (λ k m. later k (places-within (suc i) n k m))
  where
    later : (k : ℕ) → (suc i ≤ k) × (k < suc i + n) → (i ≤ k) × (k < i + suc n)
    later k (a, b) = (omega arith, omega arith)

module _ (e : List ℤ) where
  chosen-places : (i n : ℕ) → chosen e (places i n) ≡ entries e i n
  chosen-places i zero = refl
  chosen-places i (suc n) = ap (λ l. entry e i ∷ l) (chosen-places (suc i) n)

  chosen_at : (order : List ℕ) (k : ℕ) → Memᴰ k order → Memᴰ (entry e k) (chosen e order)
  chosen_at [] = λ k m. absurd (Memᴰ.not-nil m)
  chosen_at (x ∷ order) =
      for-members (λ (k : ℕ). Memᴰ (entry e k) (chosen e (x ∷ order))) x order (Memᴰ.head refl)
      (λ k m. Memᴰ.tail (chosen_at order k m))

  -- whatever names the same entries chooses the same constraints
  chosen-members :
      (l m : List ℕ) →
      ((k : ℕ) → Memᴰ k l → Memᴰ k m) →
      (r : Constraint) →
      Memᴰ r (chosen e l) →
      Memᴰ r (chosen e m)
  chosen-members [] m to = λ r i. absurd (Memᴰ.not-nil i)
  chosen-members (x ∷ l) m to =
      for-members (λ (r : Constraint). Memᴰ r (chosen e m)) (entry e x) (chosen e l) (chosen_at m x (to x (Memᴰ.head refl)))
      (chosen-members l m (λ k i. to k (Memᴰ.tail i)))

-- ---- an order of all n rules

module _ (n : ℕ) (order : List ℕ) (to : (k : ℕ) → Memᴰ k (places 2 n) → Memᴰ k order)
    (from : (k : ℕ) → Memᴰ k order → Memᴰ k (places 2 n)) where
  -- it names rules alone, as `corners` asks
  pub order-names-rules : every (is_rule n) order ≡ true
  order-names-rules = is_true (every (is_rule n) order) (every_of (is_rule n) order (λ k m. rule k (places-within 2 n k (from k m))))
    where
      rule : (k : ℕ) → (2 ≤ k) × (k < 2 + n) → T (is_rule n k)
      rule k (a, b) = subst T (sym (λ i. le-leb 2 k a i && lt-ltb (k - 2) n (omega arith) i)) tt

  module _ (f : Floors) (e : List ℤ) where
    pub rules-enter : (r : Constraint) → Memᴰ r (entries e 2 n) → Memᴰ r (chosen e order)
    rules-enter r i =
        chosen-members e (places 2 n) order to r (subst (λ (l : List Constraint). Memᴰ r l) (sym (chosen-places e 2 n)) i)

    pub only-rules : (r : Constraint) → Memᴰ r (chosen e order) → Memᴰ r (entries e 2 n)
    only-rules r i =
        subst (λ (l : List Constraint). Memᴰ r l) (chosen-places e 2 n) (chosen-members e order (places 2 n) from r i)

    -- a point is listed exactly when it is a feasible vertex of the system
    pub listed-exactly : (v : Point) → Memᴰ v (corners_of f e order) ↔ Memᴰ v (allowed_vertices (system f (entries e 2 n)))
    listed-exactly = ring-corners f (entries e 2 n) (chosen e order) rules-enter only-rules

    -- nothing is listed exactly when the system is infeasible
    pub none-listed : (corners_of f e order ≡ []) ↔ Infeasible (system f (entries e 2 n))
    none-listed = ring-infeasible f (entries e 2 n) (chosen e order) rules-enter only-rules

-- ---- in any order

chosen-length : (e : List ℤ) (order : List ℕ) → length (chosen e order) ≡ length order
chosen-length e [] = refl
chosen-length e (x ∷ order) = ap suc (chosen-length e order)

-- the horizon begins no corner
pub listed-at-most : (f : Floors) (e : List ℤ) (order : List ℕ) → length (corners_of f e order) ≤ length order + 2
listed-at-most f e order = go (corners-at-most f (chosen e order)) (chosen-length e order)
  where
    go : {c : ℕ} → length (corners_of f e order) ≤ c + 2 → c ≡ length order → length (corners_of f e order) ≤ length order + 2
    go a b = omega arith
