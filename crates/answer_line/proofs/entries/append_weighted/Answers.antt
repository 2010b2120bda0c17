-- `answer_line::entries::append_weighted` meets its contract. A weight of 0 names no entry; any other names this one.
use native.Mathlib.Omega.{arith}
use Rattle.text.proofs.Adding.{fits, followed, spelt, nothing}
use Rattle.text.proofs.Integer.{whole}
use Rattle.report.proofs.Witness.{left_out, printed}
use Rattle.answer_line.proofs.entries.append_weighted.Goals as goal

pub returns-then-weight-ne0 : goal.returns-then-weight-ne0
returns-then-weight-ne0 c =
    spelt
    (printed c.args.naming c.args.code c.args.weight c.if-weight-ne0.true)
    (followed c.append_entry.ensures (whole c.args.weight c.ranges.weight (fits (omega arith) c.append_integer.ensures)))

pub returns-else-weight-ne0 : goal.returns-else-weight-ne0
returns-else-weight-ne0 c =
    spelt (left_out c.args.naming c.args.code c.args.weight c.ranges.weight c.if-weight-ne0.false) (nothing c.args.line.now 43)
