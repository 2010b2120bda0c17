-- Records passed: one by one, and by eight.
use mathlib.Core.Path.{◌≡◌, refl, sym, ◌∙◌, ap, subst}
use mathlib.Core.List.{List}
use mathlib.Core.Bool.{Bool, true, false, ◌||◌}
use Prim.Native.Nat.{ℕ, zero, suc, ◌+◌, ◌-◌, ◌≤◌, ◌<◌}
use native.Mathlib.Omega.{arith}
use native.Mathlib.Decide.{dec_lt}
use borrow.Author.Tests.{eq-eqb}
use lib.Dec.{T, eqb}
use lib.ListN.{length, get_or}
use Rattle.finding.specs.Place.{some_of, Passed}

neither : (s t : Bool) → (s || t) ≡ false → (s ≡ false) × (t ≡ false)
neither true t e = absurd (subst T e tt)
neither false t e = (refl, e)

-- a test that failed for some records failed for each
none_of : (l : List ℕ) (i n wanted : ℕ) → some_of l i n wanted ≡ false → (k : ℕ) → k ≤ n → get_or l (i + k) 0 ≡ wanted → ⊥
none_of l i zero wanted e k h q = subst T (sym (eq-eqb (get_or l i 0) wanted (ap (λ j. get_or l j 0) (only i k h) ∙ q)) ∙ e) tt
  where
    only : (i k : ℕ) → k ≤ 0 → i ≡ i + k
    only i k h = omega arith
none_of l i (suc n) wanted e k h q = go (dec_lt k (suc n)) (λ b. none_of l i n wanted tests.0 k b q)
  where
    tests : (some_of l i n wanted ≡ false) × (eqb (get_or l (i + suc n) 0) wanted ≡ false)
    tests = neither (some_of l i n wanted) (eqb (get_or l (i + suc n) 0) wanted) e

    last : (k n : ℕ) → k ≤ suc n → (k < suc n → ⊥) → suc n ≡ k
    last k n h b = omega arith

    go : Dec (k < suc n) → (k ≤ n → ⊥) → ⊥
    go (yes b) before = before (omega arith)
    go (no b) before =
        subst T
        (sym (eq-eqb (get_or l (i + suc n) 0) wanted (ap (λ j. get_or l (i + j) 0) (last k n h b) ∙ q)) ∙ tests.1)
        tt

module _ {l : List ℕ} {wanted : ℕ} where
  pub passed_start : Passed l wanted 0
  passed_start = record { inside = omega arith; none = λ k b. absurd (below-zero k b) }
    where
      below-zero : (k : ℕ) → k < 0 → ⊥
      below-zero k b = omega arith

  -- by eight
  pub passed_eight : {i : ℕ} → Passed l wanted i → 8 ≤ length l - i → some_of l i 7 wanted ≡ false → Passed l wanted (i + 8)
  passed_eight {i} p room e = record { inside = omega (arith, p.inside); none = λ k b. go k b (dec_lt k i) }
    where
      beyond : (k : ℕ) → (k < i → ⊥) → k ≡ i + (k - i)
      beyond k b = omega arith

      go : (k : ℕ) → k < i + 8 → Dec (k < i) → get_or l k 0 ≡ wanted → ⊥
      go k b (yes c) q = p.none k c q
      go k b (no c) q = none_of l i 7 wanted e (k - i) (omega arith) (ap (λ j. get_or l j 0) (sym (beyond k c)) ∙ q)

  -- one more
  pub passed-one : {i : ℕ} → Passed l wanted i → i < length l → (get_or l i 0 ≡ wanted → ⊥) → Passed l wanted (i + 1)
  passed-one {i} p b d = record { inside = omega arith; none = λ k h. go k h (dec_lt k i) }
    where
      here : (k : ℕ) → k < i + 1 → (k < i → ⊥) → i ≡ k
      here k h c = omega arith

      go : (k : ℕ) → k < i + 1 → Dec (k < i) → get_or l k 0 ≡ wanted → ⊥
      go k h (yes c) q = p.none k c q
      go k h (no c) q = d (ap (λ j. get_or l j 0) (here k h c) ∙ q)
