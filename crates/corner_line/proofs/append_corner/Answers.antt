-- `corner_line::append_corner` meets its contract: three numbers and the line feed are added in turn.
use native.Mathlib.Omega.{arith}
use Rattle.text.proofs.Adding.{free, fits, followed, roomier, adds}
use Rattle.text.proofs.Integer.{whole}
use Rattle.corner_line.specs.Line.{corner_line}
use Rattle.corner_line.proofs.Signed.{whole-signed}
use Rattle.corner_line.proofs.append_corner.Goals as goal

pub returns : goal.returns
unfolding corner_line
returns c =
    let v = c.args.v in
    let room = free c.args.line.now 64 c.lacks_room.ensures c.if-lacks_room.false in
    let x = fits (omega arith) c.append_first.ensures in
    let y = fits (omega arith) c.append_integer.ensures in
    let d = fits (omega arith) c.append_integer-2.ensures in
    let feed = fits (omega arith) c.append_word.ensures in
    adds room
    (roomier (omega arith)
    (followed (whole-signed v.x (record { sfits = omega arith }) x)
    (followed (whole v.y (record { sfits = omega arith }) y) (followed (whole v.d (record { sfits = omega arith }) d) feed))))
