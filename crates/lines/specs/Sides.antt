-- On which side of a line the corner of two others lies, for every constraint that is a struct: zero for those outside document 01's
-- ranges.
use Rattle.std.specs.Prelude.{cond, ◌&&◌, ℤ, pos}
use Rattle.lp.specs.declared.Constraint.{Constraint}
use Rattle.lp.specs.Program.{slack}
use Rattle.lp.specs.Outcome.{meet}
use Rattle.lp.specs.Range.{SmallConstraint}
use Rattle.amounts.specs.Tests.{rule_in_range}

abbrev pub side_of : Constraint → Constraint → Constraint → ℤ
side_of m p q = cond (rule_in_range m && rule_in_range p && rule_in_range q) (slack m (meet p q)) (pos 0)

pub record Three (m p q : Constraint) : Type 0 where
  pub m-small : SmallConstraint m
  pub p-small : SmallConstraint p
  pub q-small : SmallConstraint q
