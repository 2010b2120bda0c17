-- `session_lines::numbers::unsigned_eight` meets its contract: a number that fits is kept.
use mathlib.Core.Path.{refl, ◌∙◌}
use native.Mathlib.Omega.{arith}
use Rattle.session_lines.proofs.Signs.{no_unsigned, no_room_whole_unsigned, kept_whole, converted_unsigned}
use Rattle.session_lines.proofs.numbers.unsigned_eight.Goals as goal

pub returns-in_err-n : goal.returns-in_err-n
returns-in_err-n c = rw c.from_residual.ensures (no_unsigned 255 c.in_err-n.was)

pub returns-in_err-signed : goal.returns-in_err-signed
returns-in_err-signed c =
    rw c.from_residual-in_err-signed.ensures
    (no_room_whole_unsigned 255 (omega arith) c.in_ok-n.was c.signed.ensures c.in_err-signed.was)

pub returns : goal.returns
returns c =
    c.ok.ensures.value
    ∙ converted_unsigned 8 255 refl c.try_from.result c.in_ok-n.was
    (kept_whole c.in_ok-n.field-0 c.signed.ensures c.in_ok-signed.was) c.try_from.ensures
