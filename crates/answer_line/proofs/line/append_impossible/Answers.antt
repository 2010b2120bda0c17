-- `answer_line::line::append_impossible` meets its contract. Word, place, counts and witness in turn.
use native.Mathlib.Omega.{arith}
use Rattle.report.specs.Line.{impossible}
use Rattle.text.proofs.Adding.{fits, followed}
use Rattle.answer_line.proofs.line.append_impossible.Goals as goal

pub returns : goal.returns
unfolding impossible
returns c =
    let word = fits (omega arith) c.append_word.ensures in
    followed word (followed (fits (omega arith) c.append_number.ensures) (followed c.append_counts.ensures c.append_witness.ensures))
