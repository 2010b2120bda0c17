-- The parser on a whole rule, step by step: what it does at the relation, and at the right side.
use mathlib.Core.Path.{◌≡◌, ap}
use mathlib.Core.Bool.{false}
use mathlib.Core.List.{List}
use Prim.Native.Nat.{ℕ}
use lib.Dec.{eqb}
use Rattle.language.specs.Grammar.{Side, Relation, Rule, at_most, at_least}
use Rattle.scanning.specs.Bytes.{first, tail}
use Rattle.language.specs.Parser.{Parsed, fail, got, bind, lead, skip, next, beyond, side_of, ended, right_of, relation_of}

abbrev pub rule : Side → ℕ → Relation → Side → ℕ → Rule
rule a i k b j = record { left = a; gap = i; relation = k; right = b; end = j }

module _ (a : Side) (i : ℕ) (k : Relation) (s : List ℕ) where
  pub right-got : (b : Side) (q : List ℕ) →
      first s ≡ 61 →
      side_of (tail s) ≡ got b q →
      right_of a i k s ≡ ended (skip q) (rule a i k b (lead q))
  unfolding right_of
  right-got b q e p = rw e (ap (λ (z : Parsed Side). bind z (λ b r. ended (skip r) (rule a i k b (lead r)))) p)

  pub right-none : first s ≡ 61 → side_of (tail s) ≡ fail → right_of a i k s ≡ fail
  unfolding right_of
  right-none e p = rw e (ap (λ (z : Parsed Side). bind z (λ b r. ended (skip r) (rule a i k b (lead r)))) p)

  pub right-other : eqb (first s) 61 ≡ false → right_of a i k s ≡ fail
  unfolding right_of
  right-other e = rw e

module _ (a : Side) (s : List ℕ) where
  pub relation-most : next s ≡ 60 → relation_of a s ≡ right_of a (lead s) at_most (beyond s)
  unfolding relation_of
  relation-most e = rw e

  pub relation-least : next s ≡ 62 → relation_of a s ≡ right_of a (lead s) at_least (beyond s)
  unfolding relation_of
  relation-least e = rw e

  pub relation-other : eqb (next s) 60 ≡ false → eqb (next s) 62 ≡ false → relation_of a s ≡ fail
  unfolding relation_of
  relation-other e f = rw (e, f)
