-- The numbers of runs. A number that stops growing beyond a limit is told from others as the whole number is.
use mathlib.Core.Path.{◌≡◌, refl, ap, sym, ◌∙◌}
use mathlib.Core.Bool.{Bool, true, false, cond}
use mathlib.Core.List.{List, [], ◌∷◌}
use Prim.Native.Nat.{ℕ, ◌+◌, ◌*◌, ◌-◌, ◌<◌}
use native.Mathlib.Omega.{arith}
use lib.Dec.{leb}
use borrow.Author.Tests.{leb-false, lt-leb}
use Rattle.text.specs.Number.{value_from}
use Rattle.scanning.specs.Runs.{capped}

-- a reader of numbers that reads all beyond the limit alike reads a run's number as the whole number
module _ {A : Type 0} (f : ℕ → A) (limit : ℕ) (x : A) (beyond : (n : ℕ) → limit < n → f n ≡ x) where
  value-beyond : (n : ℕ) (s : List ℕ) → limit < n → f (value_from n s) ≡ x
  unfolding value_from
  value-beyond n [] h = beyond n h
  value-beyond n (d ∷ s) h = value-beyond (n * 10 + (d - 48)) s (omega arith)

  capped-beyond : (n : ℕ) (s : List ℕ) → limit < n → f (capped limit n s) ≡ x
  unfolding capped
  capped-beyond n [] h = beyond n h
  capped-beyond n (d ∷ s) h =
      ap (λ m. f (capped limit m s)) (ap (λ t. cond t (n * 10 + (d - 48)) n) (lt-leb n limit h)) ∙ capped-beyond n s h

  pub capped-alike : (n : ℕ) (s : List ℕ) → f (capped limit n s) ≡ f (value_from n s)
  unfolding value_from capped
  capped-alike n [] = refl
  capped-alike n (d ∷ s) = go (leb n limit) refl (capped-alike (n * 10 + (d - 48)) s)
    where
      go : (t : Bool) →
          leb n limit ≡ t →
          f (capped limit (n * 10 + (d - 48)) s) ≡ f (value_from (n * 10 + (d - 48)) s) →
          f (capped limit (cond t (n * 10 + (d - 48)) n) s) ≡ f (value_from (n * 10 + (d - 48)) s)
      go true e h = h
      go false e h =
          let k = leb-false n limit e in
          capped-beyond n s k ∙ sym (value-beyond (n * 10 + (d - 48)) s (omega (arith, k)))
