-- `session_lines::numbers::number_from` meets its contract: the number behind a space.
use Rattle.session_lines.proofs.Signs.{number_unspaced, number-there, number_undigited}
use Rattle.session_lines.proofs.numbers.number_from.Goals as goal

pub returns-then-byte_at-ne32 : goal.returns-then-byte_at-ne32
returns-then-byte_at-ne32 c =
    number_unspaced c.args.negative c.args.text.now c.args.from.now
    c.digits-run.ensures c.byte_at.ensures c.if-byte_at-ne32.true

pub returns-then-digit : goal.returns-then-digit
returns-then-digit c =
    number-there c.args.negative c.args.text.now c.args.from.now
    c.digits-run.ensures c.byte_at.ensures c.if-byte_at-ne32.false
    c.byte_at-2.ensures c.digit.ensures c.if-digit.true c.numeral.ensures

pub returns-else-digit : goal.returns-else-digit
returns-else-digit c =
    number_undigited c.args.negative c.args.text.now c.args.from.now
    c.digits-run.ensures c.byte_at.ensures c.if-byte_at-ne32.false
    c.byte_at-2.ensures c.digit.ensures c.if-digit.false
