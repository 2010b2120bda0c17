-- `slip_text::append_unlimited` meets its contract.
use native.Mathlib.Omega.{arith}
use Rattle.text.proofs.Adding.{fits, followed}
use Rattle.slip_text.specs.Text.{fields_of}
use Rattle.slip_text.proofs.append_unlimited.Goals as goal

pub returns : goal.returns
unfolding fields_of
returns c =
    let word = fits (omega arith) c.append_word.ensures in
    let pair = fits (omega arith) c.append_pair.ensures in
    followed word (followed pair (fits (omega arith) c.append_direction.ensures))
