-- `session_lines::numbers::field` meets its contract: the number in a field.
use Rattle.session_lines.proofs.Signs.{field-minus, field_plain}
use Rattle.session_lines.proofs.numbers.field.Goals as goal

pub returns-then-byte_at-eq45 : goal.returns-then-byte_at-eq45
returns-then-byte_at-eq45 c =
    field-minus c.args.text.now c.after-from.ensures
    c.byte_at.ensures c.if-byte_at-eq45.true c.after.ensures c.number_from.ensures

pub returns-else-byte_at-eq45 : goal.returns-else-byte_at-eq45
returns-else-byte_at-eq45 c =
    field_plain c.args.text.now c.after-from.ensures c.byte_at.ensures
    c.if-byte_at-eq45.false c.number_from-else-byte_at-eq45.ensures
