-- `numerals::append_decimal` meets its contract. There are at most 20 digits.
use native.Mathlib.Omega.{arith}
use Rattle.text.proofs.Adding.{free, roomier, adds}
use Rattle.text.proofs.Decimal.{decimal-usize}
use Rattle.numerals.proofs.append_decimal.Goals as goal

pub append_digits-requires : goal.append_digits-requires
append_digits-requires c =
    let room = free c.args.line.now 20 c.lacks_room.ensures c.if-lacks_room.false in
    record { has = record { free = omega (arith, decimal-usize c.args.n c.ranges.n) } }

pub returns : goal.returns
returns c =
    let room = free c.args.line.now 20 c.lacks_room.ensures c.if-lacks_room.false in
    adds room (roomier (decimal-usize c.args.n c.ranges.n) c.append_digits.ensures)
