-- Place, moves and open: over the prefixes of a chain, each planned as a system of its own. `done` is the prefix so far, the last
-- argument what follows it.
use Rattle.std.specs.Prelude.{List, [], ◌∷◌, ◌++◌, Bool, true, false, not, ℕ, ◌+◌, length}
use Rattle.lp.specs.declared.Constraint.{Constraint}
use Rattle.lp.specs.declared.Functional.{Functional}
use Rattle.lp.specs.declared.Floors.{Floors}
use Rattle.lp.specs.declared.Tie.{Tie}
use Rattle.lp.specs.declared.Outcome.{Outcome}
use Rattle.lp.specs.declared.Outcome.TheVariants.{Infeasible, Unbounded, Optimal}
use Rattle.lp.specs.Outcome.{outcome, keeps}

abbrev pub one_if : Bool → ℕ
one_if true = 1
one_if false = 0

abbrev pub is_infeasible : Outcome → Bool
is_infeasible Infeasible = true
is_infeasible (Unbounded v d) = false
is_infeasible (Optimal v) = false

abbrev pub is_unbounded : Outcome → Bool
is_unbounded Infeasible = false
is_unbounded (Unbounded v d) = true
is_unbounded (Optimal v) = false

-- a best pair that does not keep the next rule
abbrev pub is_broken : Outcome → Constraint → Bool
is_broken Infeasible r = false
is_broken (Unbounded v d) r = false
is_broken (Optimal v) r = not (keeps r v)

module _ (t : Tie) (floors : Floors) (f : Functional) where
  abbrev pub moves_from : List Constraint → List Constraint → ℕ
  moves_from done [] = 0
  moves_from done (r ∷ rest) = one_if (is_broken (outcome t floors f done) r) + moves_from (done ++ (r ∷ [])) rest

  abbrev pub open_from : List Constraint → List Constraint → ℕ
  open_from done [] = one_if (is_unbounded (outcome t floors f done))
  open_from done (r ∷ rest) = one_if (is_unbounded (outcome t floors f done)) + open_from (done ++ (r ∷ [])) rest

  -- the length of the first infeasible prefix; 0 where every prefix is feasible
  abbrev pub place_from : List Constraint → List Constraint → ℕ
  place_from done [] = elim (is_infeasible (outcome t floors f done)) [ true ↦ length done | false ↦ 0 ]
  place_from done (r ∷ rest) =
      elim (is_infeasible (outcome t floors f done)) [ true ↦ length done | false ↦ place_from (done ++ (r ∷ [])) rest ]

  abbrev pub moves : List Constraint → ℕ
  moves rules = moves_from [] rules

  abbrev pub opens : List Constraint → ℕ
  opens rules = open_from [] rules

  abbrev pub place : List Constraint → ℕ
  place rules = place_from [] rules
