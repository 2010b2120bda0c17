-- The exchange form of a slip, as a controller hands it over: a run of 14 signed numbers, outcome (1 best, 2 unlimited, 3 impossible),
-- count, X, Y, D, dx, dy, scale, and then three times code and weight. What is not used is 0. A run of another length, or with another
-- outcome, stands for a slip that is out of range for every book, and so gets 17.
use Rattle.std.specs.Prelude.{◌≡◌, List, [], ◌∷◌, Bool, true, false, cond, ◌&&◌, ℕ, suc, ◌≤◌, eqb, leb, length, get_or, set, ℤ, pos, Option, Some, None}
use Rattle.std.specs.Int.Signed.{lt_z}
use Rattle.lp.specs.declared.Point.{Point}
use Rattle.lp.specs.declared.Ray.{Ray}
use Rattle.lp.specs.declared.Outcome.{Outcome}
use Rattle.lp.specs.declared.Outcome.TheVariants as outcome
use Rattle.lp.specs.Program.{point, ray}
use Rattle.slip.specs.declared.Weights.{Weights}
use Rattle.slip.specs.declared.Slip.{Slip}
use Rattle.slip.specs.Facts.{ranges}
use Rattle.slip.specs.Numbers.{outcome_number}

-- ---- from numbers to a slip

abbrev pub at : List ℤ → ℕ → ℤ
at l k = get_or l k (pos 0)

abbrev pub pair_in : List ℤ → Point
pair_in l = point (at l 2) (at l 3) (at l 4)

abbrev pub ray_in : List ℤ → Ray
ray_in l = ray (at l 5) (at l 6)

-- the outcome's number is 1, 2 or 3
abbrev pub outcome_in : List ℤ → Outcome
outcome_in l =
    elim (lt_z (at l 0) (pos 2)) [
      | true ↦ outcome.Optimal (pair_in l)
      | false ↦ elim (lt_z (at l 0) (pos 3)) [ true ↦ outcome.Unbounded (pair_in l) (ray_in l) | false ↦ outcome.Infeasible ]
    ]

abbrev pub weights_in : List ℤ → Weights
weights_in l =
    record {
      scale = at l 7;
      count = at l 1;
      first = at l 8;
      first_weight = at l 9;
      second = at l 10;
      second_weight = at l 11;
      third = at l 12;
      third_weight = at l 13;
    }

-- no entry at all, where an impossible book's slip must have one
abbrev pub out_of_range : Slip
out_of_range =
    record {
      outcome = outcome.Infeasible;
      weights = record {
        scale = pos 0;
        count = pos 0;
        first = pos 0;
        first_weight = pos 0;
        second = pos 0;
        second_weight = pos 0;
        third = pos 0;
        third_weight = pos 0;
      };
    }

abbrev pub is_slip : List ℤ → Bool
is_slip l = eqb (length l) 14 && ranges (pos 1) (at l 0) (pos 3)

-- the slip, if the run is one's
abbrev pub slip_in : List ℤ → Option Slip
slip_in l = cond (is_slip l) (Some (record { outcome = outcome_in l; weights = weights_in l })) None

abbrev pub slip_of : List ℤ → Slip
slip_of l = cond (is_slip l) (record { outcome = outcome_in l; weights = weights_in l }) out_of_range

-- ---- from a slip to numbers

abbrev pub pair_of : Outcome → Point
pair_of outcome.Infeasible = point (pos 0) (pos 0) (pos 0)
pair_of (outcome.Unbounded v d) = v
pair_of (outcome.Optimal v) = v

abbrev pub ray_of : Outcome → Ray
ray_of outcome.Infeasible = ray (pos 0) (pos 0)
ray_of (outcome.Unbounded v d) = d
ray_of (outcome.Optimal v) = ray (pos 0) (pos 0)

abbrev pub parts : ℤ → Point → Ray → Weights → List ℤ
parts outcome v d w =
    outcome
    ∷ w.count
    ∷ v.x
    ∷ v.y
    ∷ v.d
    ∷ d.dx
    ∷ d.dy
    ∷ w.scale
    ∷ w.first
    ∷ w.first_weight
    ∷ w.second
    ∷ w.second_weight
    ∷ w.third
    ∷ w.third_weight
    ∷ []

abbrev pub numbers_of : Slip → List ℤ
numbers_of s = parts (outcome_number s.outcome) (pair_of s.outcome) (ray_of s.outcome) s.weights

-- numbers put into a run from place k on
abbrev pub puts : List ℤ → ℕ → List ℤ → List ℤ
puts l k [] = l
puts l k (x ∷ xs) = puts (set l k x) (suc k) xs

-- the promise of laying a slip out: 14 numbers at the start of a run that has room, else nothing
pub record Laid (s : Slip) (before : List ℤ) (r : ℕ) (after : List ℤ) : Type 0 where
  pub count : r ≡ cond (leb 14 (length before)) 14 0
  pub run : after ≡ cond (leb 14 (length before)) (puts before 0 (numbers_of s)) before

-- what the private functions ask
pub record Fourteen (l : List ℤ) : Type 0 where
  pub room : 14 ≤ length l
