-- `answer_line::line::append_unlimited` meets its contract. Word, pair, direction and counts in turn.
use native.Mathlib.Omega.{arith}
use Rattle.report.specs.Line.{unlimited}
use Rattle.text.proofs.Adding.{fits, followed}
use Rattle.answer_line.proofs.line.append_unlimited.Goals as goal

pub returns : goal.returns
unfolding unlimited
returns c =
    let word = fits (omega arith) c.append_word.ensures in
    let along = fits (omega arith) c.append_pair.ensures in
    followed word (followed along (followed (fits (omega arith) c.append_direction.ensures) c.append_counts.ensures))
