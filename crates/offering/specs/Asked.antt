-- What private functions ask of numbers and runs, one record for each, and what they hand back.
use Rattle.std.specs.Prelude.{◌≡◌, false, List, ◌++◌, ℕ, ◌+◌, ◌*◌, ◌≤◌, ◌<◌, length, drop, ℤ, Option, None, Some, Result, Ok, Err}
use Rattle.lp.specs.declared.Functional.{Functional}
use Rattle.lp.specs.declared.Point.{Point}
use Rattle.lp.specs.Outcome.{tie_order}
use Rattle.lp.specs.Document.{tie}
use Rattle.lp.specs.Range.{SmallFunctional, SmallSystem}
use Rattle.lp.specs.declared.Ray.{Ray}
use Rattle.model.specs.Bounds.{SmallPoint, SmallCone}
use Rattle.engine.specs.Entries.{entries}
use Rattle.batch_theory.specs.Rays.{rays_of}
use Rattle.objectives.specs.Objectives.{objectives_of, bad_objectives}
use Rattle.offering.specs.declared.Unanswered.{Unanswered}
use Rattle.offering.specs.declared.Unanswered.TheVariants as unanswered
use Rattle.offering.specs.Listed.{point_at, points_from, first_by, offer_in, answers_by}

-- ---- numbers

-- two corners in the order of the tie, and of an objective
pub record Tying (w v : Point) : Type 0 where
  pub first : SmallPoint w
  pub second : SmallPoint v

pub record Weighing (f : Functional) (w v : Point) : Type 0 where
  pub functional : SmallFunctional f
  pub points : Tying w v

-- ---- runs

-- n rules after the floors' places, each within its range
pub record Ruled (n : ℕ) (l : List ℤ) : Type 0 where
  pub room : 3 * (n + 2) ≤ length l
  pub rules-small : SmallSystem (entries l 2 n)

-- n corners, each within the bounds
pub record Points (l : List ℤ) (n : ℕ) : Type 0 where
  pub room : 3 * n ≤ length l
  pub small : (k : ℕ) → k < n → SmallPoint (point_at l k)

pub record Picking (f : Functional) (l : List ℤ) (n : ℕ) : Type 0 where
  pub functional : SmallFunctional f
  pub points : Points l n

-- the start pair is the first corner by the tie alone
pub record Offering (f : Functional) (cone : Option (Ray × Ray)) (start : Point) (l : List ℤ) (n : ℕ) : Type 0 where
  pub functional : SmallFunctional f
  pub rays : SmallCone cone
  pub points : Points l n
  pub first : start ≡ first_by (tie_order tie) (points_from l 0 n)

pub record Filling (cone : Option (Ray × Ray)) (l : List ℤ) (n : ℕ) (objectives out : List ℕ) : Type 0 where
  pub rays : SmallCone cone
  pub points : Points l n
  pub sound : bad_objectives objectives ≡ false
  pub room : 8 * length objectives ≤ length out

-- ---- what was listed

-- rules and corners that were listed are within their ranges
pub record Listing (n k : ℕ) (run corners : List ℤ) : Type 0 where
  pub ruled : Ruled n run
  pub points : Points corners k

pub record Filled (l : Option ℕ) (n : ℕ) (run corners : List ℤ) (objectives out : List ℕ) : Type 0 where
  pub inside : (k : ℕ) → l ≡ Some k → Listing n k run corners
  pub sound : bad_objectives objectives ≡ false
  pub room : 8 * length objectives ≤ length out

abbrev pub answered_of : Option ℕ → ℕ → Result ℕ Unanswered
answered_of None filled = Err unanswered.Outside
answered_of (Some k) filled = Ok filled

-- the answers by the corners and the rays, and then what was there
abbrev pub filled_of : Option ℕ → ℕ → List ℤ → List ℤ → List ℕ → List ℕ → List ℕ
filled_of None n run corners objectives out = out
filled_of (Some k) n run corners objectives out =
    answers_by (offer_in (rays_of (entries run 2 n)) (points_from corners 0 k)) (objectives_of objectives) ++ drop (8 * length objectives) out

pub record Fills
    (l : Option ℕ) (n : ℕ) (run corners : List ℤ) (objectives out : List ℕ) (r : Result ℕ Unanswered) (out' : List ℕ) : Type 0 where
  pub answer : r ≡ answered_of l (8 * length objectives)
  pub output : out' ≡ filled_of l n run corners objectives out
