-- The textbook's meaning: what infeasible, unbounded and optimal are, over all points of any size; and the documents' words for the tie,
-- the floors and the directions.
use Rattle.std.specs.Prelude.{◌≡◌, ℤ, pos, ◌+ℤ◌, ◌*ℤ◌}
use mathlib.Core.List.{List, Memᴰ}
use Rattle.ints.specs.Order.{◌≤ᶻ◌, ◌<ᶻ◌}
use Rattle.lp.specs.declared.Constraint.{Constraint}
use Rattle.lp.specs.declared.Functional.{Functional}
use Rattle.lp.specs.declared.Floors.{Floors}
use Rattle.lp.specs.declared.Point.{Point}
use Rattle.lp.specs.declared.Ray.{Ray}
use Rattle.lp.specs.Program.{Feasible, gain, along, rise}

abbrev pub Infeasible : List Constraint → Type 0
Infeasible S = (v : Point) → Feasible S v → ⊥

-- allowed pairs exist
abbrev pub Possible : List Constraint → Type 0
Possible S = (v : Point) × Feasible S v

-- document 01: gains have no top: for every whole number some allowed pair gains more than it
abbrev pub NoTop : List Constraint → Functional → Type 0
NoTop S f = (m : ℤ) → (v : Point) × Feasible S v × (m *ℤ v.d <ᶻ gain f v)

-- gains have a top
abbrev pub Top : List Constraint → Functional → Type 0
Top S f = (m : ℤ) × ((v : Point) → Feasible S v → gain f v ≤ᶻ m *ℤ v.d)

pub record Unbounded (S : List Constraint) (f : Functional) : Type 0 where
  pub possible : Possible S
  pub no_top : NoTop S f

pub record Bounded (S : List Constraint) (f : Functional) : Type 0 where
  pub possible : Possible S
  pub top : Top S f

-- document 02, #107: least x + y, then least x. Of v and w, v is the one to take
pub record NoLater (v w : Point) : Type 0 where
  pub least-total : (v.x +ℤ v.y) *ℤ w.d ≤ᶻ (w.x +ℤ w.y) *ℤ v.d
  pub then-least-x : (v.x +ℤ v.y) *ℤ w.d ≡ (w.x +ℤ w.y) *ℤ v.d → v.x *ℤ w.d ≤ᶻ w.x *ℤ v.d

-- document 02, #106: a pair is not below the floors
pub record NotBelow (f : Floors) (v : Point) : Type 0 where
  pub x-not-below : f.lx *ℤ v.d ≤ᶻ v.x
  pub y-not-below : f.ly *ℤ v.d ≤ᶻ v.y

-- document 01: a lawful direction. That dx and dy are not both 0 follows, since it gains
pub record LawfulDirection (rules : List Constraint) (f : Functional) (d : Ray) : Type 0 where
  pub dx-not-negative : pos 0 ≤ᶻ d.dx
  pub dy-not-negative : pos 0 ≤ᶻ d.dy
  pub never_leaves : (r : Constraint) → Memᴰ r rules → rise r d ≤ᶻ pos 0
  pub gains : pos 0 <ᶻ along f d
