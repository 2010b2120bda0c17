-- The objectives of a batch (request 109): four bytes each, p and then q, signed and little-endian, and what turns them back.
use Rattle.std.specs.Prelude.{ℕ, zero, suc, ◌+◌, ◌*◌, ◌/◌, ◌%◌, Bool, true, false, cond, not, ◌||◌, List, [], ◌∷◌, Option, Some, None, eqb, ltb, length, drop, pos}
use Rattle.std.specs.Int.{w16}
use Rattle.std.proofs.Common.{to_z}
use Rattle.lp.specs.declared.Functional.{Functional}
use Rattle.lp.specs.Program.{functional}
use Rattle.answers.specs.declared.Cause.{Cause}
use Rattle.answers.specs.declared.Cause.TheVariants as cause
use Rattle.records.specs.Number.{number}
use Rattle.records.specs.Record.{is_least}

module _ (s : List ℕ) where
  abbrev pub half_at : ℕ → ℕ
  half_at at = number 2 (drop at s)

  abbrev pub objective_at : ℕ → Functional
  objective_at i = functional (to_z w16 (half_at (4 * i))) (to_z w16 (half_at (4 * i + 2)))

  -- 0, 0 where there is none
  abbrev pub objective_in : ℕ → Functional
  objective_in i = cond (ltb i (length s / 4)) (objective_at i) (functional (pos 0) (pos 0))

  -- n objectives from index i on
  abbrev pub objectives_from : ℕ → ℕ → List Functional
  objectives_from i zero = []
  objectives_from i (suc n) = objective_at i ∷ objectives_from (suc i) n

  abbrev pub objectives_of : List Functional
  objectives_of = objectives_from 0 (length s / 4)

  -- 4 to 128 bytes in multiples of 4: 1 to 32 objectives
  abbrev pub bad_length : Bool
  bad_length = ltb (length s) 4 || ltb 128 (length s) || not (eqb (length s % 4) 0)

-- −32,768 is no p and no q
abbrev pub is_bad : Functional → Bool
is_bad f = is_least f.p || is_least f.q

abbrev pub some_bad : List Functional → Bool
some_bad [] = false
some_bad (f ∷ fs) = elim (is_bad f) [ true ↦ true | false ↦ some_bad fs ]

-- cause 16
abbrev pub bad_objectives : List ℕ → Bool
bad_objectives s = bad_length s || some_bad (objectives_of s)

-- 16, then 11 for an output with so many bytes, if anything. An answer has 32 bytes and an objective 4
abbrev pub cause_of : List ℕ → ℕ → Option Cause
cause_of objectives room =
    cond (bad_objectives objectives) (Some cause.Objectives) (cond (ltb room (8 * length objectives)) (Some cause.Room) None)
