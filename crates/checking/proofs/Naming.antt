-- The rule in a record stands at the place of the record among the chain's.
use mathlib.Core.Path.{◌≡◌, refl, sym, ◌∙◌, ap}
use mathlib.Core.List.{List, [], ◌∷◌}
use mathlib.Core.Bool.{Bool, true, false}
use Prim.Native.Nat.{ℕ, zero, suc, ◌+◌, ◌≤◌, ◌<◌}
use native.Mathlib.Omega.{arith}
use lib.Dec.{eqb}
use lib.ListN.{length, take, get_or}
use lib.IntN.{ℤ}
use Rattle.lp.specs.declared.Constraint.{Constraint}
use Rattle.std.specs.Prelude.{Option, Some, None, option_map}
use Rattle.std.proofs.lemmas.Option.{same_Some, none-some}
use Rattle.slip.specs.Facts.{rule_in}
use Rattle.slip.specs.Runs.{entry, entries, indices}
use Rattle.finding.specs.Place.{place_of}

-- ---- the first records of a run

behind : (x : ℕ) (l : List ℕ) (i n : ℕ) → indices (x ∷ l) (suc i) n ≡ indices l i n
behind x l i zero = refl
behind x l i (suc n) = ap (λ (y : List ℕ). get_or l i 0 ∷ y) (behind x l (suc i) n)

taken : (l : List ℕ) (n : ℕ) → n ≤ length l → take n l ≡ indices l 0 n
taken l zero b = refl
taken [] (suc n) b = absurd (beyond n b)
  where
    beyond : (n : ℕ) → suc n ≤ 0 → ⊥
    beyond n b = omega arith
taken (x ∷ l) (suc n) b = ap (λ (y : List ℕ). x ∷ y) (taken l n (omega arith) ∙ sym (behind x l 0 n))

-- ---- the rule at a place

module _ (records : List ℕ) (rules : List ℤ) (wanted : ℕ) where
  -- the place among the n records from i on
  abbrev place-from : ℕ → ℕ → Option ℕ
  place-from i n = place_of (indices records i n) wanted

  named-from : (i n : ℕ) →
      option_map (λ (p : ℕ). entry rules (i + p)) (place-from i n) ≡ rule_in (indices records i n) (entries rules i n) wanted
  named-from i zero = refl
  named-from i (suc n) = go (eqb (get_or records i 0) wanted) (named-from (suc i) n)
    where
      onward : (o : Option ℕ) →
          option_map (λ (p : ℕ). entry rules (i + p)) (option_map suc o) ≡ option_map (λ (p : ℕ). entry rules (suc i + p)) o
      onward None = refl
      onward (Some p) = ap (λ (k : ℕ). Some (entry rules k)) (further i p)
        where
          further : (i p : ℕ) → i + suc p ≡ suc i + p
          further i p = omega arith

      here : (i : ℕ) → i + 0 ≡ i
      here i = omega arith

      go : (s : Bool) →
          option_map (λ (p : ℕ). entry rules (suc i + p)) (place-from (suc i) n)
          ≡ rule_in (indices records (suc i) n) (entries rules (suc i) n) wanted →
          option_map (λ (p : ℕ). entry rules (i + p)) (elim s [ true ↦ Some 0 | false ↦ option_map suc (place-from (suc i) n) ])
          ≡ elim s [ true ↦ Some (entry rules i) | false ↦ rule_in (indices records (suc i) n) (entries rules (suc i) n) wanted ]
      go true h = ap (λ (k : ℕ). Some (entry rules k)) (here i)
      go false h = onward (place-from (suc i) n) ∙ h

  placed-below : (i n p : ℕ) → place-from i n ≡ Some p → p < n
  placed-below i zero p e = absurd (none-some p e)
  placed-below i (suc n) p e = go (eqb (get_or records i 0) wanted) (placed-below (suc i) n) e
    where
      further : (o : Option ℕ) → place-from (suc i) n ≡ o → ((k : ℕ) → place-from (suc i) n ≡ Some k → k < n) →
          option_map suc o ≡ Some p → p < suc n
      further None q below e = absurd (none-some p e)
      further (Some k) q below e = omega (arith, same_Some (suc k) p e, below k q)

      go : (s : Bool) → ((k : ℕ) → place-from (suc i) n ≡ Some k → k < n) →
          elim s [ true ↦ Some 0 | false ↦ option_map suc (place-from (suc i) n) ] ≡ Some p → p < suc n
      go true below e = omega (arith, same_Some 0 p e)
      go false below e = further (place-from (suc i) n) refl below e

  module _ (n : ℕ) (room : n ≤ length records) {o : Option ℕ} (e : o ≡ place_of (take n records) wanted) where
    at : o ≡ place-from 0 n
    at = e ∙ ap (λ (l : List ℕ). place_of l wanted) (taken records n room)

    pub place-below : {p : ℕ} → o ≡ Some p → p < n
    place-below {p} q = placed-below 0 n p (sym at ∙ q)

    pub named-at : {p : ℕ} → o ≡ Some p → {r : Constraint} → r ≡ entry rules p →
        Some r ≡ rule_in (indices records 0 n) (entries rules 0 n) wanted
    named-at {p} q er =
        ap Some er
        ∙ ap (λ (k : ℕ). Some (entry rules k)) (from_start p)
        ∙ ap (option_map (λ (p : ℕ). entry rules (0 + p))) (sym q ∙ at)
        ∙ named-from 0 n
      where
        from_start : (p : ℕ) → p ≡ 0 + p
        from_start p = omega arith

    pub named-nowhere : o ≡ None → None ≡ rule_in (indices records 0 n) (entries rules 0 n) wanted
    named-nowhere q = ap (option_map (λ (p : ℕ). entry rules (0 + p))) (sym q ∙ at) ∙ named-from 0 n
