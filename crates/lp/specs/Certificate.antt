-- What makes a witness valid for a system, document 01's words for outcome 1, as a test; and that nothing in it is spare, document 02, #112,
-- over all pairs.
use Rattle.std.specs.Prelude.{◌≡◌, Bool, true, not, ◌&&◌, ℕ, zero, suc, eqb, leb, ltb, length, get_or, ℤ, pos, negsuc, ◌+ℤ◌, ◌*ℤ◌}
use mathlib.Core.List.{List, [], ◌∷◌, ◌++◌, Memᴰ}
use Rattle.std.specs.Int.Signed.{le_z, lt_z}
use Rattle.lp.specs.declared.Constraint.{Constraint}
use Rattle.lp.specs.declared.Certificate.{Certificate}
use Rattle.ints.specs.Order.{◌<ᶻ◌}
use Rattle.lp.specs.declared.Point.{Point}
use Rattle.lp.specs.Program.{constraint, Keeps}
use Rattle.lp.specs.Outcome.{every}

abbrev pub certificate : ℕ → ℤ → ℕ → ℤ → ℕ → ℤ → Certificate
certificate i u j v k w =
    record { first = i; first_weight = u; second = j; second_weight = v; third = k; third_weight = w }

-- an entry of a system, by index, and its weight
pub record Weighted : Type 0 where
  pub entry : ℕ
  pub weight : ℤ

abbrev pub weighted : ℕ → ℤ → List Weighted
weighted e (pos zero) = []
weighted e (pos (suc n)) = record { entry = e; weight = pos (suc n) } ∷ []
weighted e (negsuc n) = record { entry = e; weight = negsuc n } ∷ []

-- the entries that a certificate names: those whose weight is not 0
abbrev pub named : Certificate → List Weighted
named k =
    weighted k.first k.first_weight
    ++ (weighted k.second k.second_weight ++ weighted k.third k.third_weight)

-- the entry of a system at an index
abbrev pub entry_in : List Constraint → ℕ → Constraint
entry_in S e = get_or S e (constraint (pos 0) (pos 0) (pos 0))

-- the sum over the entries of weight times a, b or c
abbrev pub total : (Constraint → ℤ) → List Constraint → List Weighted → ℤ
total part S [] = pos 0
total part S (w ∷ l) = w.weight *ℤ part (entry_in S w.entry) +ℤ total part S l

abbrev pub distinct : List Weighted → Bool
distinct [] = true
distinct (w ∷ l) = every (λ u. not (eqb w.entry u.entry)) l && distinct l

-- document 01's greatest weight, 2 · 32,767²
abbrev pub greatest_weight : ℤ
greatest_weight = pos 2147352578

-- the equation of a sum with 0, as two tests
abbrev pub is_zero : ℤ → Bool
is_zero z = le_z z (pos 0) && le_z (pos 0) z

-- 1 to 3 distinct entries of the system with lawful weights, whose weighted sums of a and b are 0 and of c is below 0
abbrev pub certifies : List Constraint → List Weighted → Bool
certifies S l =
    ltb 0 (length l)
    && leb (length l) 3
    && distinct l
    && every (λ w. ltb w.entry (length S)) l
    && every (λ w. le_z (pos 1) w.weight && le_z w.weight greatest_weight) l
    && is_zero (total (λ r. r.a) S l)
    && is_zero (total (λ r. r.b) S l)
    && lt_z (total (λ r. r.c) S l) (pos 0)

-- ---- nothing spare

module _ (look : ℕ → Constraint) (l : List Weighted) where
  -- with entry x given up, the others together allow some pair of fractions, which may be negative: a floor counts only where it is named
  pub record GivenUp (x : Weighted) : Type 0 where
    pub pair : Point
    pub proper : pos 0 <ᶻ pair.d
    pub others-kept : (y : Weighted) → Memᴰ y l → (y.entry ≡ x.entry → ⊥) → Keeps (look y.entry) pair

  -- whichever of the named entries is given up, the others no longer clash; what an entry's code stands for is looked up
  abbrev pub NothingSpare : Type 0
  NothingSpare = (x : Weighted) → Memᴰ x l → GivenUp x
