-- What an objective is answered: the outcome and the pair of a plan, without its direction, witness and counts; and the answers as bytes.
use Rattle.std.specs.Prelude.{ℕ, List, [], ◌∷◌, ◌++◌, pos}
use Rattle.lp.specs.declared.Constraint.{Constraint}
use Rattle.lp.specs.declared.Functional.{Functional}
use Rattle.lp.specs.declared.Floors.{Floors}
use Rattle.lp.specs.declared.Outcome.{Outcome}
use Rattle.lp.specs.declared.Outcome.TheVariants.{Infeasible, Unbounded, Optimal}
use Rattle.lp.specs.Program.{point}
use Rattle.lp.specs.Outcome.{outcome}
use Rattle.lp.specs.Document.{tie}
use Rattle.cells.specs.Cells.{answer_bytes}
use Rattle.offering.specs.declared.offers.Offer.{Offer}
use Rattle.offering.specs.declared.offers.Offer.TheVariants.{Best, Unlimited, Impossible}

-- the pair of a plan, the start pair of one without limit, or that nothing is allowed
abbrev pub offer_of : Outcome → Offer
offer_of (Optimal v) = Best v
offer_of (Unbounded s d) = Unlimited s
offer_of Infeasible = Impossible

-- an answer's 32 bytes. Request 109: 1 best, 2 unlimited with the start pair, 3 impossible with zeros
abbrev pub offer_bytes : Offer → List ℕ
offer_bytes (Best v) = answer_bytes 1 v
offer_bytes (Unlimited v) = answer_bytes 2 v
offer_bytes Impossible = answer_bytes 3 (point (pos 0) (pos 0) (pos 0))

module _ (floors : Floors) (rules : List Constraint) where
  -- what a plan of these rules under these floors would give
  abbrev pub offer_for : Functional → Offer
  offer_for f = offer_of (outcome tie floors f rules)

  -- in the objectives' order
  unfoldable pub answers_for : List Functional → List ℕ
  answers_for [] = []
  answers_for (f ∷ fs) = offer_bytes (offer_for f) ++ answers_for fs
