-- `slip_line::write_slip` meets its contract. The slip and the line feed make up the line.
use mathlib.Core.Path.{refl}
use native.Mathlib.Omega.{arith}
use Rattle.std.proofs.Common.{rules}
use Rattle.text.proofs.Adding.{fits, followed, filled}
use Rattle.slip_line.specs.Line.{slip_line, slip_room}
use Rattle.slip_line.proofs.write_slip.Goals as goal

pub returns : goal.returns
unfolding slip_line
returns c =
    let all = followed c.append_written.ensures (fits (omega arith) c.append_word.ensures) in
    filled {room = slip_room} (omega arith) (omega arith) refl (search rules) all
