-- Rules counted over two lists in turn: alike in each, or the lists exchanged, they are alike together.
use mathlib.Core.Path.{◌≡◌, sym, ◌∙◌, ap, ap₂}
use mathlib.Core.Bool.{◌&&◌}
use mathlib.Core.List.{List, [], ◌∷◌, ◌++◌}
use Prim.Native.Nat.{ℕ, ◌+◌}
use native.Mathlib.Omega.{arith}
use Rattle.lp.specs.declared.Constraint.{Constraint}
use Rattle.lp.specs.Prefixes.{one_if}
use Rattle.lp.specs.Document.{same, count, AlikeInRules}

count_append : (r : Constraint) (R S : List Constraint) → count r (R ++ S) ≡ count r R + count r S
count_append r [] S = plain (count r S)
  where
    plain : (n : ℕ) → n ≡ 0 + n
    plain n = omega arith
count_append r (x ∷ R) S =
    ap (λ n. one_if (same r.a x.a && same r.b x.b && same r.c x.c) + n) (count_append r R S)
    ∙ grouped (one_if (same r.a x.a && same r.b x.b && same r.c x.c)) (count r R) (count r S)
  where
    grouped : (l m n : ℕ) → l + (m + n) ≡ l + m + n
    grouped l m n = omega arith

-- within each book
pub alike_within : (R R' S S' : List Constraint) → AlikeInRules R R' → AlikeInRules S S' → AlikeInRules (R ++ S) (R' ++ S')
alike_within R R' S S' h k r = count_append r R S ∙ ap₂ (λ m n. m + n) (h r) (k r) ∙ sym (count_append r R' S')

-- across the books
pub alike_across : (R S : List Constraint) → AlikeInRules (R ++ S) (S ++ R)
alike_across R S r = count_append r R S ∙ turned (count r R) (count r S) ∙ sym (count_append r S R)
  where
    turned : (m n : ℕ) → m + n ≡ n + m
    turned m n = omega arith
