-- `slip_text::append_impossible` meets its contract.
use native.Mathlib.Omega.{arith}
use Rattle.text.proofs.Adding.{fits, followed}
use Rattle.slip_text.specs.Text.{fields_of}
use Rattle.slip_text.proofs.append_impossible.Goals as goal

pub returns : goal.returns
unfolding fields_of
returns c = followed (fits (omega arith) c.append_word.ensures) c.append_entries.ensures
