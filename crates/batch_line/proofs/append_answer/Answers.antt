-- `batch_line::append_answer` meets its contract: the outcome says which of the lines it is.
use mathlib.Core.Path.{sym, ◌∙◌, ap}
use native.Mathlib.Omega.{arith}
use lib.ListN.{get_or}
use Rattle.std.proofs.Common.{rules}
use Rattle.text.specs.Text.{text}
use Rattle.text.proofs.Adding.{free, fits, roomier, spelt, adds}
use Rattle.batch_line.specs.Line.{pair_line, point_in}
use Rattle.batch_line.proofs.Numbers.{best-line, unlimited-line, impossible-line}
use Rattle.batch_line.proofs.append_answer.Goals as goal

pub returns-in-1 : goal.returns-in-1
returns-in-1 c =
    let s = c.args.answer.now in
    let room = free c.args.line.now 80 c.lacks_room.ensures c.if-lacks_room.false in
    let line = ap (pair_line (text "best")) c.pair_of-v.ensures
    ∙ best-line (get_or s 0 0) (point_in s) (sym c.byte_at.ensures ∙ c.in-1.is) in
    adds room (roomier (omega arith) (spelt line c.append_named.ensures))

pub returns-in-2 : goal.returns-in-2
returns-in-2 c =
    let s = c.args.answer.now in
    let room = free c.args.line.now 80 c.lacks_room.ensures c.if-lacks_room.false in
    let line = ap (pair_line (text "unlimited")) c.pair_of-v.ensures
    ∙ unlimited-line (get_or s 0 0) (point_in s) (sym c.byte_at.ensures ∙ c.in-2.is) in
    adds room (roomier (omega arith) (spelt line c.append_named-in-2.ensures))

pub returns-in_default : goal.returns-in_default
returns-in_default c =
    let s = c.args.answer.now in
    let room = free c.args.line.now 80 c.lacks_room.ensures c.if-lacks_room.false in
    let line = impossible-line (get_or s 0 0) (point_in s) (search rules) (search rules) in
    adds room (spelt line (roomier (omega arith) (fits (omega arith) c.append_word.ensures)))
