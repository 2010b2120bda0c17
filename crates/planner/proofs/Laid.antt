-- The chain's rules in the engine's run of numbers: read into the part after the floors' six numbers, they stand there as entries 2 and
-- up, and a prefix of the entries is a prefix of the chain.
use mathlib.Core.Path.{◌≡◌, refl, sym, ◌∙◌, ap, ap₂}
use mathlib.Core.List.{List, [], ◌∷◌, ◌++◌}
use Prim.Native.Nat.{ℕ, zero, suc, min, ◌+◌, ◌*◌, ◌≤◌, ◌<◌}
use native.Mathlib.Omega.{arith}
use lib.ListN.{length, get_or, take, get_or-append}
use lib.Seq.{get_or-append-add}
use lib.IntN.{ℤ, pos}
use Rattle.lp.specs.declared.Constraint.{Constraint}
use Rattle.book.specs.Reading.{Entry, rules_of}
use Rattle.book.specs.Runs.{put_rules}
use Rattle.book.proofs.Runs.{rule-placed, rules-length}
use Rattle.engine.specs.Entries.{entry, entries}
use Rattle.planner.proofs.Chains.{none, length-rules}

-- what stands after six numbers
module _ (head part post : List ℤ) (six : length head ≡ 6) where
  abbrev whole : List ℤ
  whole = head ++ (part ++ post)

  at_part : (j : ℕ) → j < length part → get_or whole (6 + j) (pos 0) ≡ get_or part j (pos 0)
  at_part j h =
      ap (λ n. get_or whole (n + j) (pos 0)) (sym six)
      ∙ get_or-append-add head (part ++ post) j (pos 0)
      ∙ get_or-append part post (pos 0) j h

  pub entry-after : (k : ℕ) → 3 * k + 2 < length part → entry whole (k + 2) ≡ entry part k
  entry-after k h = λ i. record { a = first i; b = second i; c = third i }
    where
      place : (k j : ℕ) → 3 * (k + 2) + j ≡ 6 + (3 * k + j)
      place k j = omega arith

      plain : (k : ℕ) → 3 * (k + 2) ≡ 6 + 3 * k
      plain k = omega arith

      first : get_or whole (3 * (k + 2)) (pos 0) ≡ get_or part (3 * k) (pos 0)
      first = ap (λ n. get_or whole n (pos 0)) (plain k) ∙ at_part (3 * k) (omega arith)

      second : get_or whole (3 * (k + 2) + 1) (pos 0) ≡ get_or part (3 * k + 1) (pos 0)
      second = ap (λ n. get_or whole n (pos 0)) (place k 1) ∙ at_part (3 * k + 1) (omega arith)

      third : get_or whole (3 * (k + 2) + 2) (pos 0) ≡ get_or part (3 * k + 2) (pos 0)
      third = ap (λ n. get_or whole n (pos 0)) (place k 2) ∙ at_part (3 * k + 2) h

-- a run of entries is a list, if each entry is the list's
entries_are : (l : List ℤ) (i : ℕ) (rs : List Constraint) →
    ((k : ℕ) → k < length rs → entry l (k + i) ≡ get_or rs k none) →
    entries l i (length rs) ≡ rs
entries_are l i [] f = refl
entries_are l i (r ∷ rs) f =
    ap₂ (λ (x : Constraint) (y : List Constraint). x ∷ y) (ap (entry l) (first i) ∙ f 0 (omega arith))
    (entries_are l (suc i) rs (λ k h. ap (entry l) (shift k) ∙ f (suc k) (omega arith)))
  where
    first : (i : ℕ) → i ≡ 0 + i
    first i = omega arith

    shift : (k : ℕ) → k + suc i ≡ suc k + i
    shift k = omega arith

entries-take : (l : List ℤ) (i k n : ℕ) → entries l i (min k n) ≡ take k (entries l i n)
entries-take l i zero n = ap (entries l i) (least n)
  where
    least : (n : ℕ) → min 0 n ≡ 0
    least n = omega arith
entries-take l i (suc k) zero = ap (entries l i) (least k)
  where
    least : (k : ℕ) → min (suc k) 0 ≡ 0
    least k = omega arith
entries-take l i (suc k) (suc n) =
    ap (entries l i) (both k n) ∙ ap (λ (S : List Constraint). entry l i ∷ S) (entries-take l (suc i) k n)
  where
    both : (k n : ℕ) → min (suc k) (suc n) ≡ suc (min k n)
    both k n = omega arith

-- the rules that were read, as entries
module _ (head mid post : List ℤ) (six : length head ≡ 6) (es : List Entry) (room : 3 * length es ≤ length mid) where
  abbrev laid : List ℤ
  laid = head ++ (put_rules mid 0 es ++ post)

  pub chain-entries : entries laid 2 (length es) ≡ rules_of es
  chain-entries =
      ap (entries laid 2) (sym (length-rules es))
      ∙ entries_are laid 2 (rules_of es)
      (λ k h. entry-after head (put_rules mid 0 es) post six k (inside k h) ∙ placed k (less k h))
    where
      less : (k : ℕ) → k < length (rules_of es) → k < length es
      less k h = omega (arith, length-rules es)

      placed : (k : ℕ) → k < length es → entry (put_rules mid 0 es) k ≡ get_or (rules_of es) k none
      placed k h =
          let p = rule-placed mid es k room h in
          λ i. record { a = p.a i; b = p.b i; c = p.c i }

      inside : (k : ℕ) → k < length (rules_of es) → 3 * k + 2 < length (put_rules mid 0 es)
      inside k h = omega (arith, less k h, rules-length mid 0 es)

  -- those of a prefix
  pub prefix-entries : (k : ℕ) → entries laid 2 (min k (length es)) ≡ take k (rules_of es)
  prefix-entries k = entries-take laid 2 k (length es) ∙ ap (take k) chain-entries
