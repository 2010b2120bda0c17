-- The promise of `answer`: the causes that turn objectives back after the book's own, and else the answers for the rules that stand in a
-- run. The runs are the ring's and the corners' own: what they hold afterwards is what `laying::lay` leaves in them.
use Rattle.std.specs.Prelude.{ℕ, ◌*◌, ◌≡◌, cond, List, ◌++◌, length, drop, ℤ, Option, Some, None, Result, Ok, Err}
use Rattle.lp.specs.declared.Floors.{Floors}
use Rattle.answers.specs.declared.Cause.{Cause}
use Rattle.engine.specs.Entries.{entries}
use Rattle.laying.specs.Laying.{within, Lays}
use Rattle.objectives.specs.Objectives.{objectives_of, cause_of}
use Rattle.offering.specs.declared.Unanswered.{Unanswered}
use Rattle.offering.specs.declared.Unanswered.TheVariants as unanswered
use Rattle.offering.specs.Offers.{answers_for}

-- objectives that are turned back by a cause leave everything as it was
pub record Declined
    (cause : Cause) (e : List ℤ) (order ring : List ℕ) (corners : List ℤ) (out : List ℕ)
    (r : Result ℕ Unanswered) (e' : List ℤ) (order' ring' : List ℕ) (corners' : List ℤ) (out' : List ℕ) : Type 0 where
  pub answer : r ≡ Err (unanswered.Declined cause)
  pub output : out' ≡ out
  pub run : e' ≡ e
  pub same-order : order' ≡ order
  pub same-ring : ring' ≡ ring
  pub same-corners : corners' ≡ corners

-- all others are answered, if the rules and floors are within their ranges and the runs have room
pub record Done
    (f : Floors) (e : List ℤ) (order ring : List ℕ) (corners : List ℤ) (objectives out : List ℕ)
    (r : Result ℕ Unanswered) (e' : List ℤ) (order' ring' : List ℕ) (corners' : List ℤ) (out' : List ℕ) : Type 0 where
  pub listed : Option ℕ
  pub laid : Lays f e order ring corners listed e' order' ring' corners'
  pub answer :
      r
      ≡ cond (within f e (length order) (length ring) (length corners)) (Ok (8 * length objectives)) (Err unanswered.Outside)
  pub output :
      out'
      ≡ cond (within f e (length order) (length ring) (length corners))
      (answers_for f (entries e 2 (length order)) (objectives_of objectives) ++ drop (8 * length objectives) out) out

pub record Answers
    (f : Floors) (e : List ℤ) (order ring : List ℕ) (corners : List ℤ) (objectives out : List ℕ)
    (r : Result ℕ Unanswered) (e' : List ℤ) (order' ring' : List ℕ) (corners' : List ℤ) (out' : List ℕ) : Type 0 where
  pub declined :
      (cause : Cause) → cause_of objectives (length out) ≡ Some cause → Declined cause e order ring corners out r e' order' ring' corners' out'
  pub done : cause_of objectives (length out) ≡ None → Done f e order ring corners objectives out r e' order' ring' corners' out'
