-- `session_lines::numbers::signed` meets its contract: a sign and a size, if they have room in 64 bits.
use mathlib.Core.Path.{sym}
use Rattle.session_lines.proofs.Signs.{signed_beyond, signed-minus, signed-plain}
use Rattle.session_lines.proofs.numbers.signed.Goals as goal

pub returns-in_err-size : goal.returns-in_err-size
returns-in_err-size c =
    rw c.from_residual.ensures
    (signed_beyond c.args.n c.try_from.result c.try_from.ensures (sym c.in_err-size.ensures.value))

pub returns-then-n : goal.returns-then-n
returns-then-n c =
    signed-minus c.args.n c.try_from.result c.try_from.ensures (sym c.in_ok-size.ensures.value) c.if-n.true

pub returns-else-n : goal.returns-else-n
returns-else-n c =
    signed-plain c.args.n c.try_from.result c.try_from.ensures (sym c.in_ok-size.ensures.value) c.if-n.false
