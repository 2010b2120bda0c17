-- `listing::list_points` meets its contract.
use native.Mathlib.Omega.{arith}
use Rattle.listing.proofs.Written.{too_few, no_room, all_listed}
use Rattle.listing.proofs.list_points.Goals as goal

pub returns-then-run-n : goal.returns-then-run-n
returns-then-run-n c = let a = c.args in too_few a.keys.now a.run.now a.n a.out.now c.if-run-n.true

pub returns-then-out-n : goal.returns-then-out-n
returns-then-out-n c =
    let a = c.args in
    let t = c.if-out-n.true in
    no_room a.keys.now a.run.now a.n a.out.now c.if-run-n.false (omega arith)

pub put_points-requires : goal.put_points-requires
put_points-requires c = let t = c.if-out-n.false in record { all = c.if-run-n.false; room = omega arith }

pub returns : goal.returns
returns c =
    let a = c.args in
    let t = c.if-out-n.false in
    all_listed a.keys.now a.run.now a.n c.if-run-n.false (omega arith)
    c.put_points.ensures
