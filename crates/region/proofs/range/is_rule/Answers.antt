-- `region::range::is_rule` meets its contract.
use Rattle.region.proofs.Testing.{rule-below, rule-above}
use Rattle.region.proofs.range.is_rule.Goals as goal

pub returns-then-k-lt2 : goal.returns-then-k-lt2
returns-then-k-lt2 c = rule-below c.args.n c.args.k c.if-k-lt2.true

pub returns-else-k-lt2 : goal.returns-else-k-lt2
returns-else-k-lt2 c = rule-above c.args.n c.args.k c.if-k-lt2.false
