-- A rule as it is planned, at most: kind 2, at least, is turned round. This is the one definition of it.
use Rattle.std.specs.Prelude.{cond, eqb, neg_ℤ}
use Rattle.lp.specs.declared.Constraint.{Constraint}
use Rattle.lp.specs.Program.{constraint}
use Rattle.records.specs.declared.Rule.{Rule}

abbrev pub planned_rule : Rule → Constraint
planned_rule r =
    cond (eqb r.kind 2) (constraint (neg_ℤ r.a) (neg_ℤ r.b) (neg_ℤ r.c)) (constraint r.a r.b r.c)
