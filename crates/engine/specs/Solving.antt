-- The promise of `solve`. What `solve` hands back is the model's walk along the rules that stand in the run of numbers, if
-- all numbers are within their ranges and the run has room; what the run holds afterwards is the floors before the same rules.
use Rattle.std.specs.Prelude.{◌≡◌, List, Bool, cond, ◌&&◌, ℕ, ◌+◌, ◌*◌, leb, length, ℤ, Option, None, Some}
use Rattle.lp.specs.declared.Constraint.{Constraint}
use Rattle.lp.specs.declared.Functional.{Functional}
use Rattle.lp.specs.declared.Floors.{Floors}
use Rattle.lp.specs.declared.Terms.{Terms}
use Rattle.lp.specs.declared.Point.{Point}
use Rattle.lp.specs.declared.Certificate.{Certificate}
use Rattle.lp.specs.Outcome.{every}
use Rattle.lp.specs.Start.{Start, none, at}
use Rattle.lp.specs.Document.{tie}
use Rattle.witness.specs.Witness.{nobody}
use Rattle.model.specs.declared.State.{State}
use Rattle.model.specs.declared.State.TheVariants.{Ended, Going}
use Rattle.model.specs.declared.Walk.{Walk}
use Rattle.model.specs.Step.{walk, said, place_of, start_held}
use Rattle.engine.specs.declared.Solution.{Solution}
use Rattle.engine.specs.Entries.{entries}
use Rattle.flooring.specs.Floors.{with_floors}
use Rattle.amounts.specs.Tests.{rule_in_range, objective_in_range, floors_in_range}

-- ---- what a walk comes to

abbrev pub certificate_of : State → Certificate
certificate_of (Ended p k) = k
certificate_of (Going s rays b) = nobody

abbrev pub start_pair : Start → Option Point
start_pair none = None
start_pair (at s) = Some s

abbrev pub solution_of : Functional → Walk → Solution
solution_of f w =
    record {
      outcome = said f w.state;
      moves = w.moves;
      opened = w.opened;
      place = place_of w.state;
      certificate = certificate_of w.state;
      start = start_pair (start_held w.state);
      restarts = w.restarts;
    }

-- ---- the promise of `solve`

-- the rules alone, in a run that has room for them
abbrev pub rules_solved : Functional → Floors → List Constraint → Option Solution
rules_solved f floors rules = cond (every rule_in_range rules) (Some (solution_of f (walk tie floors f rules))) None

-- the run has room for n rules after the floors, and all numbers are within their ranges
abbrev pub in_range : Terms → List ℤ → ℕ → Bool
in_range t l n =
    leb (3 * (n + 2)) (length l)
    && objective_in_range t.objective
    && floors_in_range t.floors
    && every rule_in_range (entries l 2 n)

abbrev pub solved_of : Terms → List ℤ → ℕ → Option Solution
solved_of t l n = cond (in_range t l n) (Some (solution_of t.objective (walk tie t.floors t.objective (entries l 2 n)))) None

pub record Solves (t : Terms) (n : ℕ) (before : List ℤ) (r : Option Solution) (after : List ℤ) : Type 0 where
  pub answer : r ≡ solved_of t before n
  pub run : after ≡ with_floors t.floors before
