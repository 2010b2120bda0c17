-- The promise of `corners`: which runs and numbers it takes, and what it lists for them.
use Rattle.std.specs.Prelude.{◌≡◌, List, [], ◌∷◌, Bool, cond, ◌&&◌, ℕ, suc, ◌+◌, ◌*◌, ◌-◌, leb, ltb, length, set, ℤ, Option, None, Some}
use Rattle.lp.specs.declared.Constraint.{Constraint}
use Rattle.lp.specs.declared.Floors.{Floors}
use Rattle.lp.specs.declared.Point.{Point}
use Rattle.lp.specs.Program.{floor_x, floor_y}
use Rattle.lp.specs.Outcome.{every}
use Rattle.engine.specs.Entries.{entry, entries, put_entry}
use Rattle.amounts.specs.Tests.{rule_in_range, floors_in_range}
use Rattle.boundary.specs.Size.{horizon}
use Rattle.boundary.specs.Ring.{grown, corners}

-- ---- points in a run of numbers, three to a point: X, Y, D, X, Y, D, ..

abbrev pub put_point : List ℤ → ℕ → Point → List ℤ
put_point l k v = set (set (set l (3 * k) v.x) (3 * k + 1) v.y) (3 * k + 2) v.d

-- from the point at place k on; what stands before and after them stays
abbrev pub put_points : List ℤ → ℕ → List Point → List ℤ
put_points l k [] = l
put_points l k (v ∷ vs) = put_points (put_point l k v) (suc k) vs

-- ---- what is taken

-- the rules in the order in which they enter the ring, by their entries
abbrev pub chosen : List ℤ → List ℕ → List Constraint
chosen e [] = []
chosen e (k ∷ order) = entry e k ∷ chosen e order

-- entry k is one of n rules: entries 0 and 1 are the floors
abbrev pub is_rule : ℕ → ℕ → Bool
is_rule n k = leb 2 k && ltb (k - 2) n

-- runs of these lengths have room for n rules between the floors and the horizon, for a ring of all rules that enter, and for its corners
abbrev pub roomy : ℕ → ℕ → ℕ → ℕ → ℕ → Bool
roomy run n order ring out = leb n 65533 && leb (3 * (n + 3)) run && leb (order + 4) ring && leb (3 * (order + 3)) out

-- with the lengths of the ring's run and of the corners'
abbrev pub taken : Floors → List ℤ → ℕ → List ℕ → ℕ → ℕ → Bool
taken f e n order ring out =
    roomy (length e) n (length order) ring out && floors_in_range f && every rule_in_range (entries e 2 n) && every (is_rule n) order

-- ---- what is handed back

-- the floors before the rules, and the horizon after them
abbrev pub framed : Floors → List ℤ → ℕ → List ℤ
framed f e n = put_entry (put_entry (put_entry e 0 (floor_x f)) 1 (floor_y f)) (n + 2) horizon

-- the corners of the ring, in its order
abbrev pub corners_of : Floors → List ℤ → List ℕ → List Point
corners_of f e order = corners (grown f (chosen e order))

pub record Lists (f : Floors) (e : List ℤ) (n : ℕ) (order ring : List ℕ) (out : List ℤ) (r : Option ℕ) (e' : List ℤ) (ring' : List ℕ)
    (out' : List ℤ) : Type 0 where
  pub answer :
      r ≡ cond (taken f e n order (length ring) (length out)) (Some (length (corners_of f e order))) None
  pub listed : out' ≡ cond (taken f e n order (length ring) (length out)) (put_points out 0 (corners_of f e order)) out
  pub run : e' ≡ cond (taken f e n order (length ring) (length out)) (framed f e n) e
  pub scratch : length ring' ≡ length ring
