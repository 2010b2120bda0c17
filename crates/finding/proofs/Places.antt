-- A place before which nothing is wanted is the place of the wanted number, if that stands there; if the run ends there, it stands nowhere.
-- A number of more than sixteen bits is in no record.
use Rattle.std.proofs.Common.{◌≡◌, refl, sym, ◌∙◌, ap, subst, ℕ, zero, suc, ◌≤◌, ◌<◌, Bool, true, false, List, [], ◌∷◌, length, get_or, arith}
use Rattle.std.specs.Prelude.{Option, Some, None, option_map, Result, Ok, Err}
use Rattle.std.specs.Result.{OkIff, result_ok}
use Rattle.std.proofs.lemmas.Option.{same_Some, none-some}
use borrow.Author.Tests.{eq-eqb, ne_eqb}
use Rattle.finding.specs.Place.{place_of, Passed}

by-test : (is : List ℕ) (wanted : ℕ) → Bool → Option ℕ
by-test is wanted s = elim s [ true ↦ Some 0 | false ↦ option_map suc (place_of is wanted) ]

stands : (l : List ℕ) (wanted p : ℕ) → ((k : ℕ) → k < p → get_or l k 0 ≡ wanted → ⊥) → p < length l → get_or l p 0 ≡ wanted →
    Some p ≡ place_of l wanted
unfolding by-test
stands [] wanted p before b e = absurd (nothing p b)
  where
    nothing : (p : ℕ) → p < 0 → ⊥
    nothing p b = omega arith
stands (i ∷ is) wanted zero before b e = sym (ap (by-test is wanted) (eq-eqb i wanted e))
stands (i ∷ is) wanted (suc p) before b e =
    ap (option_map suc) (stands is wanted p (λ k h. before (suc k) (omega arith)) (omega arith) e)
    ∙ sym (ap (by-test is wanted) (ne_eqb i wanted (before 0 (omega arith))))

nowhere : (l : List ℕ) (wanted : ℕ) → ((k : ℕ) → k < length l → get_or l k 0 ≡ wanted → ⊥) → None ≡ place_of l wanted
unfolding by-test
nowhere [] wanted before = refl
nowhere (i ∷ is) wanted before =
    ap (option_map suc) (nowhere is wanted (λ k h. before (suc k) (omega arith)))
    ∙ sym (ap (by-test is wanted) (ne_eqb i wanted (before 0 (omega arith))))

-- ---- a number as sixteen bits, or as none

narrowed : {E : Type 0} (r : Result ℕ E) (wanted x : ℕ) → OkIff r (wanted < 65536) wanted → result_ok r ≡ Some x → x ≡ wanted
narrowed (Ok y) wanted x h e = same_Some x y (sym e) ∙ h.1
narrowed (Err e) wanted x h q = absurd (none-some x q)

not_narrow : {E : Type 0} (r : Result ℕ E) (wanted : ℕ) → OkIff r (wanted < 65536) wanted → result_ok r ≡ None → wanted < 65536 → ⊥
not_narrow (Ok y) wanted h e b = absurd (none-some y (sym e))
not_narrow (Err e) wanted h q b = h b

module _ {E : Type 0} (r : Result ℕ E) (wanted : ℕ) (narrow : OkIff r (wanted < 65536) wanted) where
  pub place-wide : (l : List ℕ) → ((k : ℕ) → get_or l k 0 < 65536) → result_ok r ≡ None → None ≡ place_of l wanted
  place-wide l small e =
      nowhere l wanted (λ k h q. not_narrow r wanted narrow e (subst (λ z. z < 65536) q (small k)))

  pub place-stands :
      {l : List ℕ} {i x : ℕ} → result_ok r ≡ Some x → Passed l x i → i < length l → get_or l i 0 ≡ x → Some i ≡ place_of l wanted
  place-stands {l} {i} {x} n p b e = stands l x i p.none b e ∙ ap (place_of l) (narrowed r wanted x narrow n)

  pub place-ends : {l : List ℕ} {i x : ℕ} → result_ok r ≡ Some x → Passed l x i → length l ≤ i → None ≡ place_of l wanted
  place-ends {l} {i} {x} n p b = nowhere l x (λ k h. p.none k (omega arith)) ∙ ap (place_of l) (narrowed r wanted x narrow n)
