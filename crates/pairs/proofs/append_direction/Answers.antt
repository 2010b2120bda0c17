-- `pairs::append_direction` meets its contract. The two numbers are added in turn.
use native.Mathlib.Omega.{arith}
use Rattle.text.proofs.Adding.{free, fits, followed, adds}
use Rattle.text.proofs.Integer.{whole}
use Rattle.pairs.specs.Pair.{direction}
use Rattle.pairs.proofs.append_direction.Goals as goal

pub returns : goal.returns
unfolding direction
returns c =
    let d = c.args.d in
    let room = free c.args.line.now 42 c.lacks_room.ensures c.if-lacks_room.false in
    let first = fits (omega arith) c.append_integer.ensures in
    let second = fits (omega arith) c.append_integer-2.ensures in
    adds room (followed (whole d.dx (record { sfits = omega arith }) first) (whole d.dy (record { sfits = omega arith }) second))
