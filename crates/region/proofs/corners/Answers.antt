-- `region::corners` meets its contract.
use native.Mathlib.Omega.{arith}
use Rattle.region.proofs.Frames.{outside, few-rules, framing, growing, listing, lists-none, lists}
use Rattle.region.proofs.corners.Goals as goal

pub returns-then-not-is_taken : goal.returns-then-not-is_taken
returns-then-not-is_taken c =
    let a = c.args in
    outside a.floors a.run.now a.n a.order.now a.ring.now a.out.now c.is_taken.ensures c.if-not-is_taken.true

pub frame-requires : goal.frame-requires
frame-requires c =
    let a = c.args in
    framing a.floors a.run.now a.n a.order.now a.ring.now a.out.now c.is_taken.ensures c.if-not-is_taken.false

pub overflow_add-n : goal.overflow_add-n
overflow_add-n c =
    let a = c.args in
    let few = few-rules a.floors a.run.now a.n a.order.now a.ring.now a.out.now c.is_taken.ensures c.if-not-is_taken.false in
    omega (arith, few)

pub grow-requires : goal.grow-requires
grow-requires c =
    let a = c.args in
    growing a.floors a.run.now a.n a.order.now a.ring.now a.out.now c.is_taken.ensures c.if-not-is_taken.false c.frame.ensures

pub returns-in_default : goal.returns-in_default
returns-in_default c =
    let a = c.args in
    lists-none a.floors a.run.now a.n a.order.now a.ring.now a.out.now c.is_taken.ensures c.if-not-is_taken.false c.frame.ensures
    c.grow.ensures c.in_default.is

pub list-requires : goal.list-requires
list-requires c =
    let a = c.args in
    listing a.floors a.run.now a.n a.order.now a.ring.now a.out.now c.is_taken.ensures c.if-not-is_taken.false c.frame.ensures
    c.grow.ensures c.in-Some.is

pub returns : goal.returns
returns c =
    let a = c.args in
    lists a.floors a.run.now a.n a.order.now a.ring.now a.out.now c.is_taken.ensures c.if-not-is_taken.false c.frame.ensures
    c.grow.ensures c.in-Some.is c.list.ensures
