-- `slip_text::append_best` meets its contract.
use native.Mathlib.Omega.{arith}
use Rattle.text.proofs.Adding.{fits, followed}
use Rattle.text.proofs.Integer.{whole}
use Rattle.slip_text.specs.Text.{fields_of}
use Rattle.slip_text.proofs.append_best.Goals as goal

pub returns : goal.returns
unfolding fields_of
returns c =
    let word = fits (omega arith) c.append_word.ensures in
    let pair = fits (omega arith) c.append_pair.ensures in
    let scale = fits (omega arith) c.append_integer.ensures in
    followed word (followed pair (followed (whole c.args.w.scale (record { sfits = omega arith }) scale) c.append_entries.ensures))
