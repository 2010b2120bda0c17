-- The promise of `amount`: how far a point is from a constraint's line, in lowest terms, where both are within their ranges; else zero over
-- zero, which is no amount.
use Rattle.std.specs.Prelude.{cond, ◌&&◌, pos}
use Rattle.lp.specs.declared.Constraint.{Constraint}
use Rattle.lp.specs.declared.Point.{Point}
use Rattle.lp.specs.declared.Amount.{Amount}
use Rattle.lp.specs.Slack.{amount, slack_of}
use Rattle.amounts.specs.Tests.{rule_in_range, point_in_range}

abbrev pub amount_of : Constraint → Point → Amount
amount_of r v = cond (rule_in_range r && point_in_range v) (slack_of r v) (amount (pos 0) (pos 0))
