-- The start pair of a list of rules, by enumeration and nothing else, and how often a chain breaks the start pair of the rules before.
use Rattle.std.specs.Prelude.{List, [], ◌∷◌, ◌++◌, Bool, false, not, ℕ, ◌+◌}
use Rattle.lp.specs.declared.Constraint.{Constraint}
use Rattle.lp.specs.declared.Floors.{Floors}
use Rattle.lp.specs.declared.Tie.{Tie}
use Rattle.lp.specs.declared.Point.{Point}
use Rattle.lp.specs.Program.{system}
use Rattle.lp.specs.Outcome.{keep, pick, vertices, keeps, allowed, better, tie_order}
use Rattle.lp.specs.Prefixes.{one_if}

-- none where no pair is allowed
pub data Start : Type 0 where
  none : Start
  at : Point → Start

-- of the allowed vertices, the first by the tie alone
abbrev pub first_of : Tie → List Point → Start
first_of t [] = none
first_of t (v ∷ vs) = at (pick (better (tie_order t)) v vs)

abbrev pub start_in : Tie → List Constraint → Start
start_in t S = first_of t (keep (allowed S) (vertices S))

abbrev pub start_of : Tie → Floors → List Constraint → Start
start_of t floors rules = start_in t (system floors rules)

-- a start pair that does not keep the next rule; where there is none, nothing is lost
abbrev pub is_lost : Start → Constraint → Bool
is_lost none r = false
is_lost (at s) r = not (keeps r s)

-- over the prefixes: the rules that the start pair before them does not keep. The rule that leaves no allowed pair is among them, and no
-- rule after it.
module _ (t : Tie) (floors : Floors) where
  abbrev pub restarts_from : List Constraint → List Constraint → ℕ
  restarts_from done [] = 0
  restarts_from done (r ∷ rest) = one_if (is_lost (start_of t floors done) r) + restarts_from (done ++ (r ∷ [])) rest

  abbrev pub restarts : List Constraint → ℕ
  restarts rules = restarts_from [] rules
