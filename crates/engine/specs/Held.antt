-- The tightest point as the loop holds it: with no tag, the point at infinity standing for none. A point at infinity has denominator 0,
-- and is the direction in which the line is walked.
use Rattle.std.specs.Prelude.{true, false, ℕ, pos, neg_ℤ, Option, None, Some}
use Rattle.std.specs.Int.Signed.{lt_z}
use Rattle.lp.specs.declared.Constraint.{Constraint}
use Rattle.lp.specs.declared.Point.{Point}
use Rattle.lp.specs.Program.{point}
use Rattle.lp.specs.Outcome.{det, meet, keeps}
use Rattle.model.specs.declared.Met.{Met}
use Rattle.model.specs.Scan.{met}

abbrev pub far : Constraint → Point
far l = point l.b (neg_ℤ l.a) (pos 0)

abbrev pub farthest : Constraint → Met
farthest l = met 0 l (far l)

abbrev pub tightened : Constraint → ℕ → Constraint → Met → Met
tightened l i m t =
    elim (keeps m t.point) [
      | true ↦ t
      | false ↦ elim (lt_z (pos 0) (det m l)) [ true ↦ met i m (meet m l) | false ↦ t ]
    ]

abbrev pub found_of : Met → Option Met
found_of t = elim (lt_z (pos 0) t.point.d) [ true ↦ Some t | false ↦ None ]
