-- `panel_row::append_row` meets its contract: label, two numbers and the line feed are added in turn.
use native.Mathlib.Omega.{arith}
use Rattle.text.proofs.Adding.{free, fits, followed, roomier, adds}
use Rattle.text.proofs.Integer.{whole}
use Rattle.panel_row.specs.Panel.{row_line}
use Rattle.panel_row.proofs.append_row.Goals as goal

pub returns : goal.returns
unfolding row_line
returns c =
    let slack = c.args.row.slack in
    let room = free c.args.line.now 64 c.lacks_room.ensures c.if-lacks_room.false in
    let label = fits (omega arith) c.append_decimal.ensures in
    let numerator = fits (omega arith) c.append_integer.ensures in
    let denominator = fits (omega arith) c.append_integer-2.ensures in
    let feed = fits (omega arith) c.append_word.ensures in
    adds room
    (roomier (omega arith)
    (followed label
    (followed
    (whole slack.numerator (record { sfits = omega arith }) numerator)
    (followed (whole slack.denominator (record { sfits = omega arith }) denominator) feed))))
