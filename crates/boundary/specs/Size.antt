-- The size of a point: x + y + d measured from the floors. It is above 0 at every point and at every ray of the quadrant, so that the
-- line at infinity can be an edge like others, and an unbounded region needs no case of its own.
use Rattle.std.specs.Prelude.{ℤ, pos, negsuc, ◌+ℤ◌, ◌-ℤ◌, ◌*ℤ◌}
use Rattle.lp.specs.declared.Constraint.{Constraint}
use Rattle.lp.specs.declared.Floors.{Floors}
use Rattle.lp.specs.declared.Ray.{Ray}
use Rattle.lp.specs.Program.{constraint, ray, slack}
use Rattle.lp.specs.Outcome.{meet}

-- slack (size f) v is (x − lx·d) + (y − ly·d) + d
abbrev pub size : Floors → Constraint
size f = constraint (negsuc 0) (negsuc 0) (pos 1 -ℤ f.lx -ℤ f.ly)

-- the line at infinity: a point keeps it if d is not negative
abbrev pub horizon : Constraint
horizon = constraint (pos 0) (pos 0) (pos 1)

-- the direction in which r's left side grows, where points of size 1 are drawn in a plane; the angle of an edge is the angle of its normal
abbrev pub normal : Floors → Constraint → Ray
normal f r = let c = r.c -ℤ r.a *ℤ f.lx -ℤ r.b *ℤ f.ly in ray (r.a +ℤ c) (r.b +ℤ c)

-- above 0 where the way from the normal of r to that of s is a turn to the left by less than half a circle: the size of the point in
-- which the two lines meet
abbrev pub turn : Constraint → Constraint → Constraint → ℤ
turn D r s = slack D (meet r s)
