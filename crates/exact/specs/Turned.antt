-- A constraint turned round, and the direction in which its line is walked.
use Rattle.std.specs.Prelude.{Bool, true, false, neg_ℤ}
use Rattle.lp.specs.declared.Constraint.{Constraint}
use Rattle.lp.specs.declared.Ray.{Ray}
use Rattle.lp.specs.Program.{constraint, ray}

-- the same line, with the other side allowed
abbrev pub reversed : Constraint → Constraint
reversed h = constraint (neg_ℤ h.a) (neg_ℤ h.b) (neg_ℤ h.c)

-- h as it stands, or turned round
abbrev pub facing : Bool → Constraint → Constraint
facing true h = h
facing false h = reversed h

-- the direction in which the line of l is walked
abbrev pub direction : Constraint → Ray
direction l = ray l.b (neg_ℤ l.a)
