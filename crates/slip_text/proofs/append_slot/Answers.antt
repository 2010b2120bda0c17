-- `slip_text::append_slot` meets its contract.
use native.Mathlib.Omega.{arith}
use Rattle.text.proofs.Adding.{fits, followed, spelt, nothing}
use Rattle.text.proofs.Integer.{whole}
use Rattle.slip_text.proofs.Parts.{code_read, slot_counts, slot_none}
use Rattle.slip_text.proofs.append_slot.Goals as goal

pub returns-then-counts : goal.returns-then-counts
returns-then-counts c =
    spelt (slot_counts c.args.code c.args.weight c.if-counts.true)
    (followed (spelt (code_read c.args.code c.ranges.code) c.append_code.ensures)
    (whole c.args.weight c.ranges.weight (fits (omega arith) c.append_integer.ensures)))

pub returns-else-counts : goal.returns-else-counts
returns-else-counts c = spelt (slot_none c.args.code c.args.weight c.if-counts.false) (nothing c.args.line.now 42)
