-- `amounts::amount` meets its contract: how far a point is from a constraint's line, in lowest terms.
use Rattle.exact.proofs.Sizes.{kept-distance}
use Rattle.amounts.proofs.Amounts.{amount-tests, amount_in, amount-out}
use Rattle.amounts.proofs.amount.Goals as goal

pub invariant_of-slack : goal.invariant_of-slack
invariant_of-slack c =
    let a = c.args in
    let t = amount-tests a.r a.v c.rule_in_range.ensures c.point_in_range.ensures c.if-rule_in_range-point_in_range.true in
    record { small = kept-distance t.0 t.1 }

pub returns-then-rule_in_range-point_in_range : goal.returns-then-rule_in_range-point_in_range
returns-then-rule_in_range-point_in_range c =
    let a = c.args in
    let z = c.slack in
    amount_in a.r a.v c.rule_in_range.ensures
    c.point_in_range.ensures c.if-rule_in_range-point_in_range.true z.type_inv z.ensures
    c.lowest.ensures

pub returns-else-rule_in_range-point_in_range : goal.returns-else-rule_in_range-point_in_range
returns-else-rule_in_range-point_in_range c =
    let a = c.args in
    amount-out a.r a.v c.rule_in_range.ensures c.point_in_range.ensures c.if-rule_in_range-point_in_range.false
