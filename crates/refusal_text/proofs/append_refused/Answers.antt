-- `refusal_text::append_refused` meets its contract. The word and two numbers are added in turn.
use native.Mathlib.Omega.{arith}
use Rattle.text.specs.Number.{refused}
use Rattle.text.proofs.Adding.{free, fits, followed, adds}
use Rattle.refusal_text.proofs.append_refused.Goals as goal

pub returns : goal.returns
unfolding refused
returns c =
    let room = free c.args.line.now 49 c.lacks_room.ensures c.if-lacks_room.false in
    let word = fits (omega arith) c.append_word.ensures in
    let cause = fits (omega arith) c.append_number.ensures in
    let record_named = fits (omega arith) c.append_number-2.ensures in
    adds room (followed word (followed cause record_named))
