-- `text::append_word` meets its contract. A line without room stays as it is; else the word is copied in.
use mathlib.Core.Path.{refl}
use native.Mathlib.Omega.{arith}
use lib.ListN.{length}
use Rattle.text.proofs.Put.{free, appends, copied}
use Rattle.text.proofs.append_word.Goals as goal

pub returns : goal.returns
returns c =
    let l = c.args.line.now in
    let room = free l.out.now l.at (length c.args.word.now) c.lacks_room.result c.lacks_room.ensures c.if-lacks_room.false in
    record { appends = appends room (copied l.out.now l.at c.copy_from_slice.ensures.after room); lent = refl; sized = omega arith }
