-- What a partner adds up: each entry that a witness names is looked up, as it is planned, and multiplied by its weight. A code is a
-- floor's, 0 or 1, or one more than a rule's name; what it stands for is looked up where the rules come from, so that is a parameter
-- here.
use Rattle.std.specs.Prelude.{◌≡◌, ℕ, ◌+◌, ◌<◌, length, get_or, ℤ, pos, ◌+ℤ◌, ◌*ℤ◌}
use mathlib.Core.List.{List, [], ◌∷◌, Memᴰ}
use Rattle.ints.specs.Order.{◌≤ᶻ◌, ◌<ᶻ◌}
use Rattle.lp.specs.declared.Constraint.{Constraint}
use Rattle.lp.specs.declared.Certificate.{Certificate}
use Rattle.lp.specs.Certificate.{Weighted, named, greatest_weight}

-- a floor's code, or that of one of the first k rules
pub data Codes (names : List ℕ) (k : ℕ) : ℕ → Type 0 where
  floor-x : Codes names k 0
  floor-y : Codes names k 1
  rule : (i : ℕ) → i < k → i < length names → Codes names k (get_or names i 0 + 1)

module _ (look : ℕ → Constraint) where
  -- the sum over the named entries of weight times a, b or c
  abbrev pub sum_of : (Constraint → ℤ) → List Weighted → ℤ
  sum_of part [] = pos 0
  sum_of part (w ∷ l) = w.weight *ℤ part (look w.entry) +ℤ sum_of part l

  -- document 01's words for a witness, of the entries as they are handed over and printed
  pub record AddsUp (names : List ℕ) (k : ℕ) (w : Certificate) : Type 0 where
    pub entries : (x : Weighted) → Memᴰ x (named w) → Codes names k x.entry
    pub weights : (x : Weighted) → Memᴰ x (named w) → (pos 1 ≤ᶻ x.weight) × (x.weight ≤ᶻ greatest_weight)
    pub cancels_a : sum_of (λ r. r.a) (named w) ≡ pos 0
    pub cancels_b : sum_of (λ r. r.b) (named w) ≡ pos 0
    pub falls : sum_of (λ r. r.c) (named w) <ᶻ pos 0
