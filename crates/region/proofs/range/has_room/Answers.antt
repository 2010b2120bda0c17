-- `region::range::has_room` meets its contract.
use native.Mathlib.Omega.{arith}
use Rattle.region.proofs.Testing.{out-room, room-few, room-run, room-ring, room_out}
use Rattle.region.proofs.range.has_room.Goals as goal

pub returns-then-n-gt65533 : goal.returns-then-n-gt65533
returns-then-n-gt65533 c =
    let a = c.args in
    room-few a.run a.n a.order a.ring a.out c.if-n-gt65533.true

pub returns-then-run-n : goal.returns-then-run-n
returns-then-run-n c =
    let a = c.args in
    room-run a.run a.n a.order a.ring a.out c.if-n-gt65533.false c.if-run-n.true

pub returns-then-ring-lt4 : goal.returns-then-ring-lt4
returns-then-ring-lt4 c =
    let a = c.args in
    room-ring a.run a.n a.order a.ring a.out c.if-n-gt65533.false c.if-run-n.false (omega arith)

pub returns-then-ring-order : goal.returns-then-ring-order
returns-then-ring-order c =
    let a = c.args in
    room-ring a.run a.n a.order a.ring a.out c.if-n-gt65533.false c.if-run-n.false
    (omega arith)

pub returns : goal.returns
returns c =
    let a = c.args in
    room_out a.run a.n a.order a.ring a.out c.if-n-gt65533.false c.if-run-n.false
    (omega arith) (out-room a.order a.out)
