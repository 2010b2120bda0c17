-- `numerals::append_integer` meets its contract. What stands before the digits, and at most 19 of them, are added in turn.
use native.Mathlib.Omega.{arith}
use Rattle.text.proofs.Adding.{free, followed, roomier, spelt, adds}
use Rattle.text.proofs.Integer.{digits-short, sign-digits}
use Rattle.numerals.proofs.append_integer.Goals as goal

pub append_digits-requires : goal.append_digits-requires
append_digits-requires c =
    let room = free c.args.line.now 21 c.lacks_room.ensures c.if-lacks_room.false in
    let short = digits-short c.args.z c.magnitude.result c.ranges.z c.magnitude.ensures in
    record { has = record { free = omega arith } }

pub returns : goal.returns
returns c =
    let room = free c.args.line.now 21 c.lacks_room.ensures c.if-lacks_room.false in
    let short = digits-short c.args.z c.magnitude.result c.ranges.z c.magnitude.ensures in
    let all = followed c.append_sign.ensures c.append_digits.ensures in
    adds room (spelt (sign-digits c.args.z c.magnitude.result c.ranges.z c.magnitude.ensures) (roomier (omega arith) all))
