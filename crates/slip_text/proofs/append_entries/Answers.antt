-- `slip_text::append_entries` meets its contract.
use native.Mathlib.Omega.{arith}
use Rattle.text.proofs.Adding.{fits}
use Rattle.slip_text.proofs.Parts.{entries-parts}
use Rattle.slip_text.proofs.append_entries.Goals as goal

pub returns : goal.returns
returns c =
    entries-parts c.args.w (omega arith) (omega arith) (omega arith) (omega arith) (omega arith) (omega arith) (omega arith)
    (fits (omega arith) c.append_integer.ensures) c.append_slot.ensures c.append_slot-2.ensures c.append_slot-3.ensures
