-- `joint_line::refused_line` meets its contract. The fields and the line feed make up the line.
use mathlib.Core.Path.{refl}
use native.Mathlib.Omega.{arith}
use Rattle.std.proofs.Common.{rules}
use Rattle.text.proofs.Adding.{fits, followed, filled}
use Rattle.joint_line.specs.JointLine.{refused_line}
use Rattle.joint_line.proofs.refused_line.Goals as goal

pub returns : goal.returns
unfolding refused_line
returns c =
    let all = followed c.append_turned.ensures (fits (omega arith) c.append_word.ensures) in
    filled {room = 256} (omega arith) (omega arith) refl (search rules) all
