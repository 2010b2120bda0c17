-- The ten class examples marked * in document 01, the mistakes that it warns of, and examples with floors other than zero; and slacks. In
-- a witness 0 is floor x, 1 floor y, and 2 the first rule.
use Rattle.std.specs.Prelude.{List, [], ◌∷◌, ℕ, ℤ, pos, negsuc, neg_ℤ}
use Rattle.lp.specs.declared.Constraint.{Constraint}
use Rattle.lp.specs.declared.Outcome.{Outcome}
use Rattle.lp.specs.declared.Outcome.TheVariants.{Infeasible, Unbounded, Optimal}
use Rattle.lp.specs.declared.Point.{Point}
use Rattle.lp.specs.declared.Amount.{Amount}
use Rattle.lp.specs.Program.{constraint, functional, point, ray}
use Rattle.lp.specs.Slack.{amount}
use Rattle.lp.specs.Certificate.{Weighted}
use Rattle.lp.specs.Document.{Example, zero_floors}

-- at most, and at least, which is turned round
abbrev at_most : ℤ → ℤ → ℤ → Constraint
at_most a b c = constraint a b c

abbrev at_least : ℤ → ℤ → ℤ → Constraint
at_least a b c = constraint (neg_ℤ a) (neg_ℤ b) (neg_ℤ c)

abbrev example : List Constraint → ℤ → ℤ → Outcome → ℕ → ℕ → Example
example rules p q answer moved opened =
    record {
      floors = zero_floors;
      rules = rules;
      objective = functional p q;
      answer = answer;
      moved = moved;
      opened = opened;
      placed = 0;
      witness = [];
    }

abbrev impossible : List Constraint → ℤ → ℤ → ℕ → List Weighted → ℕ → ℕ → Example
impossible rules p q placed witness moved opened =
    record {
      floors = zero_floors;
      rules = rules;
      objective = functional p q;
      answer = Infeasible;
      moved = moved;
      opened = opened;
      placed = placed;
      witness = witness;
    }

-- an example under other floors
abbrev under : ℤ → ℤ → Example → Example
under lx ly e =
    record {
      floors = record { lx = lx; ly = ly };
      rules = e.rules;
      objective = e.objective;
      answer = e.answer;
      moved = e.moved;
      opened = e.opened;
      placed = e.placed;
      witness = e.witness;
    }

abbrev once : ℕ → Weighted
once e = record { entry = e; weight = pos 1 }

abbrev pub class_examples : List Example
class_examples =
    example [] (pos 0) (pos 0) (Optimal (point (pos 0) (pos 0) (pos 1))) 0 0
    ∷ example [] (pos 1) (pos 1) (Unbounded (point (pos 0) (pos 0) (pos 1)) (ray (pos 1) (pos 0))) 0 1
    ∷ example (at_most (pos 1) (pos 2) (pos 8) ∷ at_most (pos 3) (pos 1) (pos 9) ∷ []) (pos 1) (pos 1)
    (Optimal (point (pos 2) (pos 3) (pos 1))) 1 1
    ∷ example (at_most (pos 2) (pos 3) (pos 7) ∷ at_most (pos 3) (pos 2) (pos 7) ∷ []) (pos 1) (pos 1)
    (Optimal (point (pos 7) (pos 7) (pos 5))) 1 1
    ∷ example (at_most (pos 2) (pos 1) (pos 4) ∷ []) (pos 2) (pos 1) (Optimal (point (pos 2) (pos 0) (pos 1))) 0 1
    ∷ example (at_most (pos 1) (negsuc 0) (pos 2) ∷ []) (pos 1) (pos 0) (Unbounded (point (pos 0) (pos 0) (pos 1)) (ray (pos 1) (pos 1))) 0 2
    ∷ impossible (at_most (pos 1) (pos 1) (pos 3) ∷ at_least (pos 1) (pos 1) (pos 4) ∷ []) (pos 1) (pos 0) 2 (once 2 ∷ once 3 ∷ []) 1 1
    ∷ impossible (at_most (pos 1) (pos 0) (negsuc 0) ∷ []) (pos 0) (pos 0) 1 (once 0 ∷ once 2 ∷ []) 1 0
    ∷ impossible (at_most (pos 0) (pos 0) (negsuc 0) ∷ []) (pos 0) (pos 0) 1 (once 2 ∷ []) 1 0
    ∷ impossible (at_least (pos 1) (pos 1) (pos 4) ∷ at_most (pos 1) (pos 0) (pos 1) ∷ at_most (pos 0) (pos 1) (pos 1) ∷ [])
    (negsuc 0) (negsuc 0) 3 (once 2 ∷ once 3 ∷ once 4 ∷ []) 2 0
    ∷ []

-- a gaining direction where no pair is allowed; a parallel rule that is met after a move; a tie that the rule's own direction would break
-- the other way; a broken start pair of an unlimited prefix, which is no move; a rule after the place; a direction that is a multiple of
-- its lowest terms; a start pair of least total that has not least x; a rule that breaks the pair of least total and would keep the one of
-- least x, which is the best pair after it
abbrev pub pitfalls : List Example
pitfalls =
    impossible (at_most (pos 1) (pos 0) (negsuc 0) ∷ []) (pos 0) (pos 1) 1 (once 0 ∷ once 2 ∷ []) 0 1
    ∷ example (at_most (pos 1) (pos 0) (pos 5) ∷ at_most (pos 1) (pos 0) (pos 3) ∷ []) (pos 1) (pos 0)
    (Optimal (point (pos 3) (pos 0) (pos 1))) 1 1
    ∷ example (at_least (pos 2) (pos 1) (pos 4) ∷ []) (negsuc 1) (negsuc 0) (Optimal (point (pos 2) (pos 0) (pos 1))) 1 0
    ∷ example (at_least (pos 1) (pos 1) (pos 4) ∷ at_most (pos 1) (pos 1) (pos 6) ∷ []) (pos 1) (pos 1)
    (Optimal (point (pos 0) (pos 6) (pos 1))) 0 2
    ∷ impossible (at_most (pos 1) (pos 0) (negsuc 0) ∷ at_most (pos 0) (pos 1) (pos 5) ∷ []) (pos 0) (pos 0) 1 (once 0 ∷ once 2 ∷ []) 1 0
    ∷ example (at_most (pos 2) (negsuc 1) (pos 4) ∷ []) (pos 1) (pos 0) (Unbounded (point (pos 0) (pos 0) (pos 1)) (ray (pos 1) (pos 1))) 0 2
    ∷ example (at_least (pos 2) (pos 1) (pos 4) ∷ []) (pos 1) (pos 1) (Unbounded (point (pos 2) (pos 0) (pos 1)) (ray (pos 1) (pos 0))) 0 2
    ∷ example (at_most (pos 2) (pos 1) (pos 4) ∷ at_most (pos 1) (pos 0) (pos 0) ∷ []) (pos 2) (pos 1)
    (Optimal (point (pos 0) (pos 4) (pos 1))) 1 1
    ∷ []

-- floors that are not zero: their corner; two floors that a rule clashes with; one that a rule clashes with; a pair below zero on a rule's
-- line; gains without a top from a start pair below zero; the least and the greatest floor that a book can say
abbrev pub floor_examples : List Example
floor_examples =
    under (negsuc 1) (pos 3) (example [] (pos 0) (pos 0) (Optimal (point (negsuc 1) (pos 3) (pos 1))) 0 0)
    ∷ under (negsuc 4) (negsuc 6) (impossible (at_most (pos 1) (pos 1) (negsuc 19) ∷ []) (pos 1) (pos 1) 1 (once 0 ∷ once 1 ∷ once 2 ∷ []) 0 1)
    ∷ under (pos 4) (pos 0) (impossible (at_most (pos 1) (pos 0) (pos 3) ∷ []) (pos 0) (pos 0) 1 (once 0 ∷ once 2 ∷ []) 1 0)
    ∷ under (negsuc 2) (negsuc 1) (example (at_most (pos 1) (pos 2) (negsuc 4) ∷ []) (pos 0) (pos 1)
    (Optimal (point (negsuc 2) (negsuc 0) (pos 1))) 0 1)
    ∷ under (negsuc 4) (pos 2) (example (at_most (pos 1) (negsuc 0) (pos 2) ∷ []) (pos 1) (pos 0)
    (Unbounded (point (negsuc 4) (pos 2) (pos 1)) (ray (pos 1) (pos 1))) 0 2)
    ∷ under (negsuc 32767) (pos 32767) (example (at_most (pos 1) (pos 1) (pos 0) ∷ []) (pos 1) (pos 0)
    (Optimal (point (negsuc 32766) (pos 32767) (pos 1))) 0 1)
    ∷ []

-- ---- slacks: a rule, a pair and the amount

pub record Slack : Type 0 where
  pub rule : Constraint
  pub at : Point
  pub left : Amount

abbrev slack_row : Constraint → Point → Amount → Slack
slack_row r v a = record { rule = r; at = v; left = a }

-- spare; spare in lowest terms; tight; broken; a rule of kind 2 turned round, of which 9/5 is left; the same of a pair that is not
-- reduced; and the terms at their limits, which no pair where two lawful rules meet comes near: broken and spare, some 6.4·10¹⁸ over D
abbrev pub slacks : List Slack
slacks =
    slack_row (at_most (pos 1) (pos 0) (pos 4)) (point (pos 7) (pos 7) (pos 5)) (amount (pos 13) (pos 5))
    ∷ slack_row (at_most (pos 10) (pos 0) (pos 16)) (point (pos 7) (pos 7) (pos 5)) (amount (pos 2) (pos 1))
    ∷ slack_row (at_most (pos 2) (pos 3) (pos 7)) (point (pos 7) (pos 7) (pos 5)) (amount (pos 0) (pos 1))
    ∷ slack_row (at_most (pos 1) (pos 1) (pos 2)) (point (pos 7) (pos 7) (pos 5)) (amount (negsuc 3) (pos 5))
    ∷ slack_row (at_least (pos 1) (pos 1) (pos 1)) (point (pos 7) (pos 7) (pos 5)) (amount (pos 9) (pos 5))
    ∷ slack_row (at_least (pos 1) (pos 1) (pos 1)) (point (pos 14) (pos 14) (pos 10)) (amount (pos 9) (pos 5))
    ∷ slack_row (at_most (pos 32767) (pos 32767) (negsuc 999999999)) (point (pos 65533999999999) (pos 65534000000000)
    (pos 2147352577)) (amount (negsuc 6442057732999967232) (pos 2147352577))
    ∷ slack_row (at_most (negsuc 32766) (negsuc 32766) (pos 1000000000)) (point (pos 65533999999999) (pos 65534000000000)
    (pos 2147352577)) (amount (pos 6442057732999967233) (pos 2147352577))
    ∷ []
