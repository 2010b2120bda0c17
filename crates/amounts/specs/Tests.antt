-- The ranges of lp's Range and of model's Bounds as tests, since a function that anybody may call must look before it computes. That each
-- test is its record is proved in proofs/Tests.antt.
use Rattle.std.specs.Prelude.{Bool, ◌&&◌, ℕ, leb, ℤ, pos, nat_abs}
use Rattle.std.specs.Int.Signed.{lt_z}
use Rattle.lp.specs.declared.Constraint.{Constraint}
use Rattle.lp.specs.declared.Functional.{Functional}
use Rattle.lp.specs.declared.Floors.{Floors}
use Rattle.lp.specs.declared.Point.{Point}

abbrev pub up_to : ℕ → ℤ → Bool
up_to n z = leb (nat_abs z) n

abbrev pub rule_in_range : Constraint → Bool
rule_in_range r = up_to 32767 r.a && up_to 32767 r.b && up_to 1000000000 r.c

abbrev pub objective_in_range : Functional → Bool
objective_in_range f = up_to 32767 f.p && up_to 32767 f.q

abbrev pub floors_in_range : Floors → Bool
floors_in_range f = up_to 32768 f.lx && up_to 32768 f.ly

abbrev pub point_in_range : Point → Bool
point_in_range v = up_to 65534000000000 v.x && up_to 65534000000000 v.y && up_to 2147352578 v.d && lt_z (pos 0) v.d
