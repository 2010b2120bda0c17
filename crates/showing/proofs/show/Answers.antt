-- `showing::show` meets its contract: for the best outcome a line for each record.
use mathlib.Core.Path.{refl}
use native.Mathlib.Omega.{arith}
use Rattle.std.proofs.Common.{rules, length, ◌≤◌}
use Rattle.showing.specs.Showing.{panel_room}
use Rattle.text.proofs.Adding.{spelt, filled}
use Rattle.showing.proofs.Rows.{best-lines}
use Rattle.showing.proofs.show.Goals as goal

pub returns-in-Ok-Optimal : goal.returns-in-Ok-Optimal
returns-in-Ok-Optimal c =
    let book = c.args.book.now in
    let few : length c.args.records.now ≤ book.layout.records = omega (arith, c.if-records-room.true, c.panel_room-room.ensures.room) in
    filled {room = panel_room book.layout} (omega arith) (omega arith) refl (search rules)
    (spelt (best-lines book.layout book.bytes c.args.records.now {v = c.in-Ok-Optimal.v} few (search rules)) c.list.ensures)
