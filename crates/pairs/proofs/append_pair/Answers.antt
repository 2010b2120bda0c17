-- `pairs::append_pair` meets its contract. The three numbers are added in turn.
use native.Mathlib.Omega.{arith}
use Rattle.text.proofs.Adding.{free, fits, followed, adds}
use Rattle.text.proofs.Integer.{whole}
use Rattle.pairs.specs.Pair.{pair}
use Rattle.pairs.proofs.append_pair.Goals as goal

pub returns : goal.returns
unfolding pair
returns c =
    let v = c.args.v in
    let room = free c.args.line.now 63 c.lacks_room.ensures c.if-lacks_room.false in
    let first = fits (omega arith) c.append_integer.ensures in
    let second = fits (omega arith) c.append_integer-2.ensures in
    let third = fits (omega arith) c.append_integer-3.ensures in
    adds room
    (followed (whole v.x (record { sfits = omega arith }) first)
    (followed (whole v.y (record { sfits = omega arith }) second) (whole v.d (record { sfits = omega arith }) third)))
