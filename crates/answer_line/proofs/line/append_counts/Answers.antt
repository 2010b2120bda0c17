-- `answer_line::line::append_counts` meets its contract. Two numbers in turn.
use native.Mathlib.Omega.{arith}
use Rattle.report.specs.Line.{counts}
use Rattle.text.proofs.Adding.{fits, followed}
use Rattle.answer_line.proofs.line.append_counts.Goals as goal

pub returns : goal.returns
unfolding counts
returns c =
    let moves = fits (omega arith) c.append_number.ensures in
    followed moves (fits (omega arith) c.append_number-2.ensures)
