-- `session_lines::numbers::numeral` meets its contract: a number up to the greatest.
use Rattle.session_lines.proofs.Signs.{numeral-small, numeral-beyond}
use Rattle.session_lines.proofs.numbers.numeral.Goals as goal

pub returns-then-size-le2147483648 : goal.returns-then-size-le2147483648
returns-then-size-le2147483648 c = numeral-small _ _ c.if-size-le2147483648.true

pub returns-else-size-le2147483648 : goal.returns-else-size-le2147483648
returns-else-size-le2147483648 c = numeral-beyond _ _ c.if-size-le2147483648.false
