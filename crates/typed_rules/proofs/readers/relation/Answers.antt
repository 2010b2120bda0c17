-- `typed_rules::readers::relation` meets its contract: the relation and the right side, after a left side whose value is v.
use native.Mathlib.Omega.{arith}
use Rattle.typed_rules.proofs.Rests.{item}
use Rattle.typed_rules.proofs.Whole.{judges-most, judges-least, judges-other}
use Rattle.typed_rules.proofs.readers.relation.Goals as goal

pub returns-in-60 : goal.returns-in-60
returns-in-60 c =
    judges-most (item c.skip-item.ensures c.byte_at.ensures) c.in-60.is c.after.ensures c.right.ensures

pub returns-in-62 : goal.returns-in-62
returns-in-62 c =
    judges-least (item c.skip-item.ensures c.byte_at.ensures) c.in-62.is c.after-in-62.ensures c.right-in-62.ensures

pub returns-in_default : goal.returns-in_default
returns-in_default c =
    judges-other (item c.skip-item.ensures c.byte_at.ensures) (λ e. omega arith) (λ e. omega arith)
