-- `slip_text::append_code` meets its contract.
use native.Mathlib.Omega.{arith}
use Rattle.text.proofs.Adding.{fits, roomier, spelt}
use Rattle.slip_text.proofs.Parts.{code-x, code-y, code-record}
use Rattle.slip_text.proofs.append_code.Goals as goal

pub returns-then-code-le0 : goal.returns-then-code-le0
returns-then-code-le0 c =
    roomier (omega arith) (spelt (code-x c.args.code c.ranges.code c.if-code-le0.true) (fits (omega arith) c.append_word.ensures))

pub returns-then-code-le1 : goal.returns-then-code-le1
returns-then-code-le1 c =
    roomier (omega arith)
    (spelt (code-y c.args.code c.ranges.code c.if-code-le0.false c.if-code-le1.true)
    (fits (omega arith) c.append_word-then-code-le1.ensures))

pub returns-else-code-le1 : goal.returns-else-code-le1
returns-else-code-le1 c =
    spelt (code-record c.args.code c.ranges.code c.if-code-le0.false c.if-code-le1.false)
    (fits (omega arith) c.append_integer.ensures)
