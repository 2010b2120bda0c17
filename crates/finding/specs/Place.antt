-- The place of a number in a run of records, and what the private functions hand back.
use Rattle.std.specs.Prelude.{◌≡◌, List, [], ◌∷◌, Bool, true, false, ◌||◌, ℕ, zero, suc, ◌+◌, ◌≤◌, ◌<◌, eqb, length, get_or, Option, Some, None, option_map}

-- the first place of a number, if it stands in the run
abbrev pub place_of : List ℕ → ℕ → Option ℕ
place_of [] wanted = None
place_of (i ∷ is) wanted = elim (eqb i wanted) [ true ↦ Some 0 | false ↦ option_map suc (place_of is wanted) ]

-- whether one of the records from place i to place i + n is wanted
abbrev pub some_of : List ℕ → ℕ → ℕ → ℕ → Bool
some_of l i zero wanted = eqb (get_or l i 0) wanted
some_of l i (suc n) wanted = some_of l i n wanted || eqb (get_or l (i + suc n) 0) wanted

-- a place before which no record is wanted
pub record Passed (l : List ℕ) (wanted place : ℕ) : Type 0 where
  pub inside : place ≤ length l
  pub none : (k : ℕ) → k < place → get_or l k 0 ≡ wanted → ⊥
