-- The cone of rays along which no constraint is left, all between two or none: what a constraint leaves of it, and along which of the two a
-- functional gains.
use Rattle.std.specs.Prelude.{Bool, true, false, Option, None, Some, pos, neg_ℤ}
use Rattle.std.specs.Int.Signed.{le_z, lt_z}
use Rattle.lp.specs.declared.Constraint.{Constraint}
use Rattle.lp.specs.declared.Functional.{Functional}
use Rattle.lp.specs.declared.Ray.{Ray}
use Rattle.lp.specs.Program.{ray, along, rise}

abbrev pub narrowed : Constraint → Ray → Ray → Bool → Bool → Option (Ray × Ray)
narrowed h lo hi true true = Some (lo, hi)
narrowed h lo hi true false = Some (lo, ray h.b (neg_ℤ h.a))
narrowed h lo hi false true = Some (ray (neg_ℤ h.b) h.a, hi)
narrowed h lo hi false false = None

abbrev pub narrow : Constraint → Option (Ray × Ray) → Option (Ray × Ray)
narrow h None = None
narrow h (Some (lo, hi)) = narrowed h lo hi (le_z (rise h lo) (pos 0)) (le_z (rise h hi) (pos 0))

abbrev pub gaining : Functional → Option (Ray × Ray) → Option Ray
gaining f None = None
gaining f (Some (lo, hi)) =
    elim (lt_z (pos 0) (along f lo)) [
      | true ↦ Some lo
      | false ↦ elim (lt_z (pos 0) (along f hi)) [ true ↦ Some hi | false ↦ None ]
    ]
