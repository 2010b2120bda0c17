-- `verdict_line::write_verdict` meets its contract. The verdict and the line feed make up the line.
use mathlib.Core.Path.{refl}
use native.Mathlib.Omega.{arith}
use Rattle.std.proofs.Common.{rules}
use Rattle.text.proofs.Adding.{fits, followed, filled}
use Rattle.verdict_line.specs.Verdict.{verdict_line, verdict_room}
use Rattle.verdict_line.proofs.write_verdict.Goals as goal

pub returns : goal.returns
unfolding verdict_line
returns c =
    let all = followed c.append_verdict.ensures (fits (omega arith) c.append_word.ensures) in
    filled {room = verdict_room} (omega arith) (omega arith) refl (search rules) all
