-- `numerals::append_number` meets its contract. A space and at most 20 digits are added in turn.
use native.Mathlib.Omega.{arith}
use Rattle.text.specs.Number.{number}
use Rattle.text.proofs.Adding.{free, fits, followed, adds}
use Rattle.numerals.proofs.append_number.Goals as goal

pub returns : goal.returns
unfolding number
returns c =
    let room = free c.args.line.now 21 c.lacks_room.ensures c.if-lacks_room.false in
    let space = fits (omega arith) c.append_word.ensures in
    adds room (followed space (fits (omega arith) c.append_decimal.ensures))
