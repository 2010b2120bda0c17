-- What is left of a point's, a ray's and a constraint's numbers in 64 bits, and what the rays of a cone come to by such numbers. Of numbers
-- that fit these are the numbers themselves.
use Rattle.std.specs.Prelude.{Bool, true, false, Option, None, Some, pos, neg_ℤ}
use Rattle.std.specs.Int.{int_wrap, w64}
use Rattle.std.specs.Int.Signed.{le_z, lt_z}
use Rattle.lp.specs.declared.Constraint.{Constraint}
use Rattle.lp.specs.declared.Point.{Point}
use Rattle.lp.specs.declared.Ray.{Ray}
use Rattle.lp.specs.declared.Functional.{Functional}
use Rattle.lp.specs.Program.{ray, rise, along, slack}
use Rattle.lp.specs.Outcome.{meet}
use Rattle.exact.specs.Turned.{direction}

abbrev pub wrapped_point : Point → Point
wrapped_point v = record { x = int_wrap w64 v.x; y = int_wrap w64 v.y; d = int_wrap w64 v.d }

abbrev pub wrapped_ray : Ray → Ray
wrapped_ray d = record { dx = int_wrap w64 d.dx; dy = int_wrap w64 d.dy }

abbrev pub wrapped_constraint : Constraint → Constraint
wrapped_constraint r = record { a = int_wrap w64 r.a; b = int_wrap w64 r.b; c = int_wrap w64 r.c }

-- whether a constraint keeps the corner of two others
abbrev pub keeps_corner : Constraint → Constraint → Constraint → Bool
keeps_corner h p q = le_z (pos 0) (int_wrap w64 (slack h (wrapped_point (meet p q))))

-- whether a constraint is never left along a ray, and whether a functional gains along one
abbrev pub stays_along : Constraint → Ray → Bool
stays_along r d = le_z (int_wrap w64 (rise r d)) (pos 0)

abbrev pub gains_along : Functional → Ray → Bool
gains_along f d = lt_z (pos 0) (int_wrap w64 (along f d))

-- what a constraint leaves of the rays from lo to hi, by whether it stays along each
abbrev pub narrowed_to : Constraint → Ray → Ray → Bool → Bool → Option (Ray × Ray)
narrowed_to h lo hi true true = Some (lo, hi)
narrowed_to h lo hi true false = Some (lo, wrapped_ray (direction h))
narrowed_to h lo hi false true = Some (wrapped_ray (ray (neg_ℤ h.b) h.a), hi)
narrowed_to h lo hi false false = None

abbrev pub wrapped_narrow : Constraint → Option (Ray × Ray) → Option (Ray × Ray)
wrapped_narrow h None = None
wrapped_narrow h (Some (lo, hi)) = narrowed_to h lo hi (stays_along h lo) (stays_along h hi)

-- the first of the two rays along which a functional gains
abbrev pub gained_by : Ray → Ray → Bool → Bool → Option Ray
gained_by lo hi true t = Some lo
gained_by lo hi false true = Some hi
gained_by lo hi false false = None

abbrev pub wrapped_gaining : Functional → Option (Ray × Ray) → Option Ray
wrapped_gaining f None = None
wrapped_gaining f (Some (lo, hi)) = gained_by lo hi (gains_along f lo) (gains_along f hi)
