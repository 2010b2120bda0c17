-- `lines::side` meets its contract.
use mathlib.Core.Path.{◌∙◌, ap}
use borrow.Author.Rules.{rules}
use Rattle.lp.specs.Program.{slack}
use Rattle.fraction.proofs.Quotients.{unread}
use Rattle.lines.specs.Sides.{Three}
use Rattle.lines.proofs.Sides.{three, side_in, side-out, distance_of}
use Rattle.lines.proofs.side.Goals as goal

pub invariant_of-meet : goal.invariant_of-meet
invariant_of-meet c =
    let a = c.args in
    let t : Three a.m a.p a.q =
    three a.m a.p a.q c.rule_in_range.ensures c.rule_in_range-2.ensures c.rule_in_range-3.ensures c.if-rule_in_range.true in
    record { small = record { first = search (rules, t); second = search (rules, t) } }

pub invariant_of-slack : goal.invariant_of-slack
invariant_of-slack c =
    let a = c.args in
    let t : Three a.m a.p a.q =
    three a.m a.p a.q c.rule_in_range.ensures c.rule_in_range-2.ensures c.rule_in_range-3.ensures c.if-rule_in_range.true in
    record { small = search (rules, distance_of, t, c.meet-v.ensures) }

pub returns-then-rule_in_range : goal.returns-then-rule_in_range
returns-then-rule_in_range c =
    let a = c.args in
    unread c.slack.type_inv
    ∙ side_in a.m a.p a.q c.rule_in_range.ensures c.rule_in_range-2.ensures c.rule_in_range-3.ensures c.slack.result
    (c.slack.ensures ∙ ap (slack a.m) c.meet-v.ensures) c.if-rule_in_range.true

pub returns-else-rule_in_range : goal.returns-else-rule_in_range
returns-else-rule_in_range c =
    let a = c.args in
    side-out a.m a.p a.q c.rule_in_range.ensures c.rule_in_range-2.ensures c.rule_in_range-3.ensures c.if-rule_in_range.false
