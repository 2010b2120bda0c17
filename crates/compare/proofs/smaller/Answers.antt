-- `compare::smaller` meets its contract: quotients decide, and where they are the same, remainders.
use Rattle.compare.proofs.Read.{divisible, product-fits, first-smaller, second-smaller, by-remainders}
use Rattle.compare.proofs.smaller.Goals as goal

pub nonzero_div-q : goal.nonzero_div-q
nonzero_div-q c = divisible c.args.x c.args.d c.ranges.x c.requires.first

pub nonzero_div-q2 : goal.nonzero_div-q2
nonzero_div-q2 c = divisible c.args.x2 c.args.d2 c.ranges.x2 c.requires.second

pub returns-then-q-q2 : goal.returns-then-q-q2
returns-then-q-q2 c =
    first-smaller c.args.x c.args.d c.args.x2 c.args.d2 c.ranges.x c.ranges.x2 c.requires.first c.requires.second
    c.if-q-q2.true

pub returns-then-q2-q : goal.returns-then-q2-q
returns-then-q2-q c =
    second-smaller c.args.x c.args.d c.args.x2 c.args.d2 c.ranges.x c.ranges.x2 c.requires.first c.requires.second
    c.if-q2-q.true

pub nonzero_rem-r : goal.nonzero_rem-r
nonzero_rem-r c = divisible c.args.x c.args.d c.ranges.x c.requires.first

pub nonzero_rem-r2 : goal.nonzero_rem-r2
nonzero_rem-r2 c = divisible c.args.x2 c.args.d2 c.ranges.x2 c.requires.second

pub overflow_mul-result : goal.overflow_mul-result
overflow_mul-result c =
    product-fits c.args.x c.args.d c.ranges.x c.requires.first c.args.d2 c.requires.second

pub overflow_mul-result-2 : goal.overflow_mul-result-2
overflow_mul-result-2 c =
    product-fits c.args.x2 c.args.d2 c.ranges.x2 c.requires.second c.args.d c.requires.first

pub returns : goal.returns
returns c =
    by-remainders c.args.x c.args.d c.args.x2 c.args.d2 c.ranges.x c.ranges.x2 c.requires.first c.requires.second
    c.if-q-q2.false c.if-q2-q.false
