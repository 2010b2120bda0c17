-- `session_lines::numbers::sixteen` meets its contract: a number that fits is kept.
use mathlib.Core.Path.{refl, ◌∙◌}
use native.Mathlib.Omega.{arith}
use mir.Syntax.{w16}
use Rattle.session_lines.proofs.Signs.{no_signed, no_room_whole, kept_whole, converted}
use Rattle.session_lines.proofs.numbers.sixteen.Goals as goal

pub returns-in_err-n : goal.returns-in_err-n
returns-in_err-n c = rw c.from_residual.ensures (no_signed 32768 32767 c.in_err-n.was)

pub returns-in_err-signed : goal.returns-in_err-signed
returns-in_err-signed c =
    rw c.from_residual-in_err-signed.ensures
    (no_room_whole 32768 32767 (omega arith) (omega arith) c.in_ok-n.was c.signed.ensures c.in_err-signed.was)

pub returns : goal.returns
returns c =
    c.ok.ensures.value
    ∙ converted w16 32768 32767 refl refl c.try_from.result c.in_ok-n.was
    (kept_whole c.in_ok-n.field-0 c.signed.ensures c.in_ok-signed.was) c.try_from.ensures
