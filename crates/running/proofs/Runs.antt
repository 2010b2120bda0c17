-- A run over a book on each of its ways, from what reading it left in the lent runs and what the engine made of them. The run of entries
-- is split after six numbers, or at its end, if it has fewer.
use Rattle.std.specs.Prelude.{Option}
use mathlib.Core.Path.{◌≡◌, refl, sym, ◌∙◌, ap, ap₂}
use mathlib.Core.List.{List, [], ◌∷◌, ◌++◌, append-nil}
use Prim.Native.Nat.{ℕ, zero, suc, min, ◌-◌, ◌≤◌}
use native.Mathlib.Omega.{arith}
use lib.ListN.{length, take, drop, length-drop}
use lib.Seq.{take_all}
use lib.IntN.{ℤ}
use Rattle.std.proofs.Common.{Result, Ok, Err}
use Rattle.answers.specs.declared.Refusal.{Refusal}
use Rattle.records.specs.Layout.{Layout}
use Rattle.book.specs.declared.Head.{Head}
use Rattle.book.specs.Reading.{passed_of}
use Rattle.book.specs.Runs.{put_rules}
use Rattle.book.specs.Promises.{ReadInto}
use Rattle.flooring.specs.Floors.{with_floors}
use Rattle.engine.specs.declared.Solution.{Solution}
use Rattle.engine.specs.Solving.{solved_of, Solves}
use Rattle.running.specs.Running.{solution_in, read_into, found_by, left_by, Ran}

-- ---- the run of entries, split

drop_past : (n : ℕ) (l : List ℤ) → length l ≤ n → drop n l ≡ []
drop_past zero [] h = refl
drop_past zero (x ∷ l) h = absurd (let z : ⊥ = omega (arith, h) in z)
drop_past (suc n) [] h = refl
drop_past (suc n) (x ∷ l) h = drop_past n l (omega (arith, h))

least-none : (k : ℕ) → min 0 k ≡ 0
least-none k = omega arith

none-least : (k : ℕ) → min (suc k) 0 ≡ 0
none-least k = omega arith

least_more : (k m : ℕ) → min (suc k) (suc m) ≡ suc (min k m)
least_more k m = omega arith

take-least : (n : ℕ) (l : List ℤ) → take (min n (length l)) l ≡ take n l
take-least zero l = ap (λ m. take m l) (least-none (length l))
take-least (suc n) [] = ap (λ m. take m []) (none-least n)
take-least (suc n) (x ∷ l) = ap (λ m. take m (x ∷ l)) (least_more n (length l)) ∙ ap (λ (r : List ℤ). x ∷ r) (take-least n l)

drop-least : (n : ℕ) (l : List ℤ) → drop (min n (length l)) l ≡ drop n l
drop-least zero l = ap (λ m. drop m l) (least-none (length l))
drop-least (suc n) [] = ap (λ m. drop m []) (none-least n)
drop-least (suc n) (x ∷ l) = ap (λ m. drop m (x ∷ l)) (least_more n (length l)) ∙ drop-least n l

module _ (l : List ℤ) (m : ℕ) (em : m ≡ min 6 (length l)) where
  first_part : take m l ≡ take 6 l
  first_part = ap (λ i. take i l) em ∙ take-least 6 l

  rest : length (drop m l) ≤ length l - m
  rest = omega (arith, length-drop m l)

  second-part : take (length l - m) (drop m l) ≡ drop 6 l
  second-part = take_all (length l - m) (drop m l) rest ∙ ap (λ i. drop i l) em ∙ drop-least 6 l

  nothing-after : drop (length l - m) (drop m l) ≡ []
  nothing-after = drop_past (length l - m) (drop m l) rest

-- ---- the ways

module _
    (L : Layout) (s : List ℕ) (k : ℕ) (records : List ℕ) (l : List ℤ) (m : ℕ) (em : m ≡ min 6 (length l))
    (x : Result Head Refusal) (records' : List ℕ) (rules' : List ℤ)
    (read : ReadInto L s records (take (length l - m) (drop m l)) x records' rules') where
  abbrev lent : List ℤ
  lent = take m l ++ (rules' ++ drop (length l - m) (drop m l))

  lent_is : lent ≡ read_into L s l
  lent_is =
      ap₂ (λ (a b : List ℤ). a ++ (rules' ++ b)) (first_part l m em) (nothing-after l m em)
      ∙ ap (λ (r : List ℤ). take 6 l ++ r)
      (append-nil rules' ∙ read.ruled ∙ ap (λ (r : List ℤ). put_rules r 0 (passed_of L s)) (second-part l m em))

  -- a refused book is not planned
  pub refused-ran : {f : Refusal} → x ≡ Err f → Ran L s k records l (Err f) records' lent
  refused-ran e =
      let so = sym e ∙ read.answer in
      record {
        found = ap (λ (y : Result Head Refusal). found_by y k (read_into L s l)) so;
        recorded = read.recorded;
        left = lent_is ∙ ap (λ (y : Result Head Refusal). left_by y (read_into L s l)) so;
      }

  -- any other is, as far as the runs have room
  pub solved-ran : {h : Head} → x ≡ Ok h →
      {j : ℕ} →
      j ≡ min k h.n →
      {z : Option Solution} {l' : List ℤ} →
      Solves h.terms j lent z l' →
      {y : Solution} →
      y ≡ solution_in z →
      Ran L s k records l (Ok (record { n = h.n; solution = y })) records' l'
  solved-ran {h} e {j} ej {z} solves {y} ey =
      let so = sym e ∙ read.answer in
      record {
        found =
            ap (λ (y : Solution). Ok (record { n = h.n; solution = y }))
            (ey ∙ ap solution_in solves.answer ∙ ap₂ (λ (r : List ℤ) (i : ℕ). solution_in (solved_of h.terms r i)) lent_is ej)
            ∙ ap (λ (y : Result Head Refusal). found_by y k (read_into L s l)) so;
        recorded = read.recorded;
        left =
            solves.run
            ∙ ap (with_floors h.terms.floors) lent_is
            ∙ ap (λ (y : Result Head Refusal). left_by y (read_into L s l)) so;
      }
