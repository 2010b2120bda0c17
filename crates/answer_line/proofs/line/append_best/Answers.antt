-- `answer_line::line::append_best` meets its contract. Word, pair and counts in turn.
use native.Mathlib.Omega.{arith}
use Rattle.report.specs.Line.{best}
use Rattle.text.proofs.Adding.{fits, followed}
use Rattle.answer_line.proofs.line.append_best.Goals as goal

pub returns : goal.returns
unfolding best
returns c =
    let word = fits (omega arith) c.append_word.ensures in
    followed word (followed (fits (omega arith) c.append_pair.ensures) c.append_counts.ensures)
