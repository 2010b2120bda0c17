-- What the engine's private functions ask of numbers, one record for each: that they are within document 01's bounds. No function that is
-- called from outside asks anything.
use Rattle.std.specs.Prelude.{◌≡◌, Bool, List, ℕ, ◌+◌, ◌*◌, ◌^◌, ◌≤◌, ◌<◌, length, ℤ, Option}
use Rattle.ints.specs.Within.{Within}
use Rattle.lp.specs.declared.Constraint.{Constraint}
use Rattle.lp.specs.declared.Functional.{Functional}
use Rattle.lp.specs.declared.Floors.{Floors}
use Rattle.lp.specs.declared.Tie.{Tie}
use Rattle.lp.specs.declared.Point.{Point}
use Rattle.lp.specs.declared.Ray.{Ray}
use Rattle.lp.specs.Program.{floor_x, floor_y}
use Rattle.model.specs.declared.Met.{Met}
use Rattle.model.specs.declared.Walk.{Walk}
use Rattle.model.specs.Step.{breaks}
use Rattle.model.specs.Bounds.{SmallPoint, SmallRay, SmallFound, SmallCone, SmallBest, SmallState}
use Rattle.lp.specs.Range.{SmallConstraint, SmallFunctional, SmallTie, SmallFloors}
pub use Rattle.exact.specs.Sizes.{Lines, Gaining}
use Rattle.engine.specs.Entries.{entry}

-- entry k is within the list
pub record Room (l : List ℤ) (k : ℕ) : Type 0 where
  pub room : 3 * k + 2 < length l

-- a point, or one at infinity
pub record SmallTriple (v : Point) : Type 0 where
  pub x-small : Within 65534000000000 v.x
  pub y-small : Within 65534000000000 v.y
  pub d_small : Within 2147352578 v.d

pub record Tightening (line m : Constraint) (t : Met) : Type 0 where
  pub line_small : SmallConstraint line
  pub m-small : SmallConstraint m
  pub point-small : SmallTriple t.point

-- n entries, each within the bounds
pub record Entries (l : List ℤ) (n : ℕ) : Type 0 where
  pub room : 3 * n ≤ length l
  pub small : (k : ℕ) → k < n → SmallConstraint (entry l k)

pub record Along (l : List ℤ) (n : ℕ) (line : Constraint) : Type 0 where
  pub entries : Entries l n
  pub line_small : SmallConstraint line

pub record Checking (l : List ℤ) (n : ℕ) (v : Point) : Type 0 where
  pub entries : Entries l n
  pub point : SmallPoint v

-- a ray in the order of points
pub record TieAlong (t : Tie) (d : Ray) : Type 0 where
  pub tie : SmallTie t
  pub ray : SmallRay d

pub record OrderAlong (f : Functional) (t : Tie) (d : Ray) : Type 0 where
  pub objective : SmallFunctional f
  pub tie : SmallTie t
  pub ray : SmallRay d

-- ---- a constraint h that arrives at index n

pub record Conflicting (h k m : Constraint) : Type 0 where
  pub h-small : SmallConstraint h
  pub k-small : SmallConstraint k
  pub m-small : SmallConstraint m

pub record Resettling (l : List ℤ) (n : ℕ) (h : Constraint) (found : Option Met) : Type 0 where
  pub entries : Entries l n
  pub h-small : SmallConstraint h
  pub found-small : SmallFound found

pub record Restarting (t : Tie) (l : List ℤ) (n : ℕ) (h : Constraint) : Type 0 where
  pub tie : SmallTie t
  pub entries : Entries l n
  pub h-small : SmallConstraint h

pub record Moving (f : Functional) (t : Tie) (l : List ℤ) (n : ℕ) (h : Constraint) : Type 0 where
  pub objective : SmallFunctional f
  pub restarting : Restarting t l n h

-- whether the best pair broke the constraint was found out before
pub record Improving (f : Functional) (t : Tie) (l : List ℤ) (n : ℕ) (h : Constraint) (cone : Option (Ray × Ray)) (b : Option Point)
    (broken : Bool) : Type 0 where
  pub moving : Moving f t l n h
  pub rays : SmallCone cone
  pub best : SmallBest b
  pub asked : broken ≡ breaks h b

pub record Breaking (h : Constraint) (b : Option Point) : Type 0 where
  pub h-small : SmallConstraint h
  pub best : SmallBest b

-- ---- the walk

-- room for one more
pub record Counting (n : ℕ) : Type 0 where
  pub room : n + 1 < 2 ^ 64

-- the counts stay below the number of entries
pub record Stepping (f : Functional) (t : Tie) (l : List ℤ) (n : ℕ) (h : Constraint) (w : Walk) : Type 0 where
  pub moving : Moving f t l n h
  pub state_small : SmallState w.state
  pub moves-room : w.moves < n
  pub opened-room : w.opened < n
  pub restarts-room : w.restarts < n

pub record Beginning (f : Functional) (floors : Floors) : Type 0 where
  pub objective : SmallFunctional f
  pub floors-small : SmallFloors floors

-- n rules after the floors; they are looked at as they are taken in
pub record Walking (f : Functional) (floors : Floors) (l : List ℤ) (n : ℕ) : Type 0 where
  pub objective : SmallFunctional f
  pub floors-small : SmallFloors floors
  pub room : 3 * (n + 2) ≤ length l
  pub first : entry l 0 ≡ floor_x floors
  pub second : entry l 1 ≡ floor_y floors

-- ---- the answer

pub record Answering (f : Functional) (w : Walk) : Type 0 where
  pub objective : SmallFunctional f
  pub state_small : SmallState w.state
