-- `region::range::rules_in_range` meets its contract.
use native.Mathlib.Omega.{arith}
use Rattle.region.proofs.Testing.{ranged-start, ranged-room, ranged-step, ranged-stop, ranged-end}
use Rattle.region.proofs.range.rules_in_range.Goals as goal

pub overflow_add-end : goal.overflow_add-end
overflow_add-end c = omega (arith, c.requires.few)

pub loop-i-init : goal.loop-i-init
loop-i-init c = ranged-start c.args.run.now c.args.n

pub entry-requires : goal.entry-requires
entry-requires c = ranged-room c.loop-i.invariant c.requires c.loop-i-test.true

pub loop-i-preserved : goal.loop-i-preserved
loop-i-preserved c =
    ranged-step c.loop-i.invariant c.loop-i-test.true
    c.entry.ensures c.rule_in_range.ensures c.if-not-rule_in_range.false

pub returns-then-not-rule_in_range : goal.returns-then-not-rule_in_range
returns-then-not-rule_in_range c =
    ranged-stop c.loop-i.invariant c.loop-i-test.true
    c.entry.ensures c.rule_in_range.ensures c.if-not-rule_in_range.true

pub returns : goal.returns
returns c = ranged-end c.loop-i.invariant c.loop-i-test.false
