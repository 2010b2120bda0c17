-- `region::range::names_rules` meets its contract.
use Rattle.region.proofs.Testing.{names-start, names-step, names-stop, names-end}
use Rattle.region.proofs.range.names_rules.Goals as goal

pub loop-k-init : goal.loop-k-init
loop-k-init c = names-start c.args.n c.args.order.now

pub loop-k-preserved : goal.loop-k-preserved
loop-k-preserved c =
    names-step c.loop-k.invariant c.loop-k-test.true c.is_rule.ensures
    c.if-not-is_rule.false

pub returns-then-not-is_rule : goal.returns-then-not-is_rule
returns-then-not-is_rule c =
    names-stop c.loop-k.invariant c.loop-k-test.true c.is_rule.ensures
    c.if-not-is_rule.true

pub returns : goal.returns
returns c = names-end c.loop-k.invariant c.loop-k-test.false
