-- `typed_line::written::write_typed` meets its contract. The fields and the line feed make up the line.
use mathlib.Core.Path.{refl}
use native.Mathlib.Omega.{arith}
use Rattle.std.proofs.Common.{rules}
use Rattle.text.proofs.Adding.{fits, followed, filled}
use Rattle.typed_line.specs.Typed.{typed_line, typed_room}
use Rattle.typed_line.proofs.written.write_typed.Goals as goal

pub returns : goal.returns
unfolding typed_line
returns c =
    let all = followed c.append_typed.ensures (fits (omega arith) c.append_word.ensures) in
    filled {room = typed_room} (omega arith) (omega arith) refl (search rules) all
