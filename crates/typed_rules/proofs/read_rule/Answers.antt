-- `typed_rules::read_rule` meets its contract: what a text reads as: the rule, or its flaw.
use borrow.Author.Tests.{le-leb, lt-leb}
use Rattle.language.specs.Parser.{answer}
use Rattle.typed_rules.proofs.read_rule.Goals as goal

pub returns-then-text-le120 : goal.returns-then-text-le120
unfolding answer
returns-then-text-le120 c =
    rw (le-leb _ 120 c.if-text-le120.true) c.read_text.ensures

pub returns-else-text-le120 : goal.returns-else-text-le120
unfolding answer
returns-else-text-le120 c =
    rw (lt-leb _ 120 c.if-text-le120.false)
