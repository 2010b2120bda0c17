-- `typed_rules::readers::number` meets its contract: a number of at most 10 digits.
use Rattle.typed_rules.proofs.Reading.{digits-short, number-yes, number_no}
use Rattle.typed_rules.proofs.readers.number.Goals as goal

pub overflow_sub-text : goal.overflow_sub-text
overflow_sub-text c = digits-short c.digits-run.result.rest c.digits-run.ensures

pub returns-then-text-run-le10 : goal.returns-then-text-run-le10
returns-then-text-run-le10 c =
    number-yes c.digits-run.result.rest c.digits-run.ensures c.if-text-run-le10.true c.numeral.ensures

pub returns-else-text-run-le10 : goal.returns-else-text-run-le10
returns-else-text-run-le10 c = number_no c.digits-run.result.rest c.digits-run.ensures c.if-text-run-le10.false
