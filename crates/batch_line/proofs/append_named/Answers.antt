-- `batch_line::append_named` meets its contract: the word, the pair and the line feed are added in turn.
use native.Mathlib.Omega.{arith}
use Rattle.text.proofs.Adding.{fits, followed}
use Rattle.batch_line.specs.Line.{pair_line}
use Rattle.batch_line.proofs.append_named.Goals as goal

pub returns : goal.returns
unfolding pair_line
returns c =
    let free = c.requires.has.free in
    let word = fits (omega arith) c.append_word.ensures in
    let pair = fits (omega arith) c.append_pair.ensures in
    followed word (followed pair (fits (omega arith) c.append_word-2.ensures))
