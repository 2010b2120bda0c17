-- The passes over the entries of a system: the tightest point on a line, and the first entry that a point breaks.
use Rattle.std.specs.Prelude.{List, [], ◌∷◌, Bool, true, false, ℕ, suc, pos, Option, None, Some}
use Rattle.std.specs.Int.Signed.{lt_z}
use Rattle.lp.specs.declared.Constraint.{Constraint}
use Rattle.lp.specs.declared.Point.{Point}
use Rattle.lp.specs.Outcome.{det, meet, keeps}
pub use Rattle.exact.specs.Turned.{reversed, facing, direction}
use Rattle.model.specs.declared.Met.{Met}

abbrev pub met : ℕ → Constraint → Point → Met
met i m p = record { index = i; entry = m; point = p }

-- entry m, at index i, is met along the line of l, and before the point found so far
abbrev pub tighter : Constraint → ℕ → Constraint → Option Met → Option Met
tighter l i m None = elim (lt_z (pos 0) (det m l)) [ true ↦ Some (met i m (meet m l)) | false ↦ None ]
tighter l i m (Some found) =
    elim (lt_z (pos 0) (det m l)) [
      | true ↦ elim (keeps m found.point) [ true ↦ Some found | false ↦ Some (met i m (meet m l)) ]
      | false ↦ Some found
    ]

-- the tightest point on the line of l among entries that start at index i
abbrev pub tightest : Constraint → ℕ → List Constraint → Option Met → Option Met
tightest l i [] f = f
tightest l i (m ∷ S) f = tightest l (suc i) S (tighter l i m f)

abbrev pub first_broken : Point → ℕ → List Constraint → Option (ℕ × Constraint)
first_broken v i [] = None
first_broken v i (m ∷ S) = elim (keeps m v) [ true ↦ first_broken v (suc i) S | false ↦ Some (i, m) ]
