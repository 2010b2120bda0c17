-- The documents' own values: the tie, version 1's floors, and its class examples marked *, with the test that one theorem runs over them.
use Rattle.std.specs.Prelude.{◌≡◌, List, [], ◌∷◌, Bool, true, false, ◌&&◌, ℕ, ◌+◌, eqb, take, ℤ, pos, negsuc}
use Rattle.std.specs.Int.Signed.{le_z}
use Rattle.lp.specs.declared.Constraint.{Constraint}
use Rattle.lp.specs.declared.Functional.{Functional}
use Rattle.lp.specs.declared.Floors.{Floors}
use Rattle.lp.specs.declared.Tie.{Tie}
use Rattle.lp.specs.declared.Point.{Point}
use Rattle.lp.specs.declared.Outcome.{Outcome}
use Rattle.lp.specs.declared.Outcome.TheVariants.{Infeasible, Unbounded, Optimal}
use Rattle.lp.specs.Program.{functional, system}
use Rattle.lp.specs.Outcome.{outcome}
use Rattle.lp.specs.Prefixes.{one_if, place, moves, opens}
use Rattle.lp.specs.Certificate.{Weighted, certifies}

-- least x + y, then least x (document 02, #107): the tie of the certificate in force. Every promise and every law says `tie`; what it is
-- stands here alone
abbrev pub tie : Tie
tie = record { first = functional (negsuc 0) (negsuc 0); second = functional (negsuc 0) (pos 0) }

abbrev pub zero_floors : Floors
zero_floors = record { lx = pos 0; ly = pos 0 }

-- ---- alike in rules: each (a, b, c) stands as often in one chain as in the other

abbrev pub same : ℤ → ℤ → Bool
same y z = le_z y z && le_z z y

abbrev pub count : Constraint → List Constraint → ℕ
count r [] = 0
count r (s ∷ l) = one_if (same r.a s.a && same r.b s.b && same r.c s.c) + count r l

abbrev pub AlikeInRules : List Constraint → List Constraint → Type 0
AlikeInRules l m = (r : Constraint) → count r l ≡ count r m

-- ---- class examples: the floors, the rules and the objective, the answer, moves and open, and for an impossible one its place and a
-- witness by index

pub record Example : Type 0 where
  pub floors : Floors
  pub rules : List Constraint
  pub objective : Functional
  pub answer : Outcome
  pub moved : ℕ
  pub opened : ℕ
  pub placed : ℕ
  pub witness : List Weighted

abbrev pub same_point : Point → Point → Bool
same_point v w = same v.x w.x && same v.y w.y && same v.d w.d

abbrev pub same_outcome : Outcome → Outcome → Bool
same_outcome Infeasible Infeasible = true
same_outcome Infeasible (Unbounded v d) = false
same_outcome Infeasible (Optimal v) = false
same_outcome (Unbounded v d) Infeasible = false
same_outcome (Unbounded v d) (Unbounded w e) = same_point v w && same d.dx e.dx && same d.dy e.dy
same_outcome (Unbounded v d) (Optimal w) = false
same_outcome (Optimal v) Infeasible = false
same_outcome (Optimal v) (Unbounded w e) = false
same_outcome (Optimal v) (Optimal w) = same_point v w

-- a witness is judged by its property, over the floors and the first `placed` rules
abbrev witnessed : Example → Outcome → Bool
witnessed e Infeasible = certifies (system e.floors (take e.placed e.rules)) e.witness
witnessed e (Unbounded v d) = true
witnessed e (Optimal v) = true

abbrev pub holds : Example → Bool
holds e =
    same_outcome (outcome tie e.floors e.objective e.rules) e.answer
    && eqb (moves tie e.floors e.objective e.rules) e.moved
    && eqb (opens tie e.floors e.objective e.rules) e.opened
    && eqb (place tie e.floors e.objective e.rules) e.placed
    && witnessed e e.answer
