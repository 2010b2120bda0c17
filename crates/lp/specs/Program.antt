-- The words of a linear program in two variables, over integers of any size. Points are homogeneous: (x, y, d) is the pair x/d, y/d.
use mathlib.Core.List.{List, ◌∷◌, Memᴰ}
use Rattle.std.specs.Prelude.{ℤ, pos, negsuc, neg_ℤ, ◌+ℤ◌, ◌-ℤ◌, ◌*ℤ◌}
use Rattle.ints.specs.Order.{◌≤ᶻ◌, ◌<ᶻ◌}
use Rattle.lp.specs.declared.Constraint.{Constraint}
use Rattle.lp.specs.declared.Functional.{Functional}
use Rattle.lp.specs.declared.Floors.{Floors}
use Rattle.lp.specs.declared.Point.{Point}
use Rattle.lp.specs.declared.Ray.{Ray}

abbrev pub constraint : ℤ → ℤ → ℤ → Constraint
constraint a b c = record { a = a; b = b; c = c }

abbrev pub functional : ℤ → ℤ → Functional
functional p q = record { p = p; q = q }

abbrev pub point : ℤ → ℤ → ℤ → Point
point x y d = record { x = x; y = y; d = d }

abbrev pub ray : ℤ → ℤ → Ray
ray dx dy = record { dx = dx; dy = dy }

-- how far a point is from a constraint's line, times d: above 0 on the allowed side
abbrev pub slack : Constraint → Point → ℤ
slack r v = r.c *ℤ v.d -ℤ (r.a *ℤ v.x +ℤ r.b *ℤ v.y)

-- document 01: a pair keeps a rule
abbrev pub Keeps : Constraint → Point → Type 0
Keeps r v = pos 0 ≤ᶻ slack r v

-- document 01: allowed, by the constraints of a system, which has the floors among them
pub record Feasible (S : List Constraint) (v : Point) : Type 0 where
  pub proper : pos 0 <ᶻ v.d
  pub kept : (r : Constraint) → Memᴰ r S → Keeps r v

-- document 01: the floors as rules, and the rules and floors together
abbrev pub floor_x : Floors → Constraint
floor_x f = constraint (negsuc 0) (pos 0) (neg_ℤ f.lx)

abbrev pub floor_y : Floors → Constraint
floor_y f = constraint (pos 0) (negsuc 0) (neg_ℤ f.ly)

abbrev pub system : Floors → List Constraint → List Constraint
system f rules = floor_x f ∷ floor_y f ∷ rules

-- document 01: a pair's gain is gain f v / d
abbrev pub gain : Functional → Point → ℤ
gain f v = f.p *ℤ v.x +ℤ f.q *ℤ v.y

-- what a functional gains along a ray
abbrev pub along : Functional → Ray → ℤ
along f d = f.p *ℤ d.dx +ℤ f.q *ℤ d.dy

-- how a constraint's left side grows along a ray: at most 0 where the ray never leaves the constraint
abbrev pub rise : Constraint → Ray → ℤ
rise r d = r.a *ℤ d.dx +ℤ r.b *ℤ d.dy

-- the direction from v to w, times both denominators
abbrev pub between : Point → Point → Ray
between v w = ray (w.x *ℤ v.d -ℤ v.x *ℤ w.d) (w.y *ℤ v.d -ℤ v.y *ℤ w.d)
