-- `answer_line::write_line_of` meets its contract. The fields and the line feed make up the line.
use mathlib.Core.Path.{refl}
use native.Mathlib.Omega.{arith}
use Rattle.std.proofs.Common.{rules}
use Rattle.report.specs.Line.{line_named}
use Rattle.report.specs.Written.{line_room}
use Rattle.text.proofs.Adding.{fits, followed, filled}
use Rattle.answer_line.proofs.write_line_of.Goals as goal

pub returns : goal.returns
unfolding line_named
returns c =
    let all = followed c.append_fields.ensures (fits (omega arith) c.append_word.ensures) in
    filled {room = line_room} (omega arith) (omega arith) refl (search rules) all
