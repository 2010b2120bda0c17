-- `joint_line::line::append_turned` meets its contract. The word, the book's name and two numbers in turn.
use native.Mathlib.Omega.{arith}
use Rattle.text.proofs.Adding.{fits, followed}
use Rattle.joint_line.specs.JointLine.{turned}
use Rattle.joint_line.proofs.line.append_turned.Goals as goal

pub returns : goal.returns
unfolding turned
returns c =
    let word = fits (omega arith) c.append_word.ensures in
    let cause = fits (omega arith) c.append_number.ensures in
    followed word (followed c.append_book.ensures (followed cause (fits (omega arith) c.append_number-2.ensures)))
