-- `region::range::is_taken` meets its contract.
use Rattle.region.proofs.Testing.{taken_no_room, taken_testing, taken_no_floors, taken_no_rules, taken-by}
use Rattle.region.proofs.range.is_taken.Goals as goal

pub rules_in_range-requires : goal.rules_in_range-requires
rules_in_range-requires c =
    let a = c.args in
    taken_testing a.floors a.run.now a.n a.order.now a.ring a.out c.has_room.ensures
    c.if-has_room.true

pub returns-then-rules_in_range : goal.returns-then-rules_in_range
returns-then-rules_in_range c =
    let a = c.args in
    taken-by a.floors a.run.now a.n a.order.now a.ring a.out c.has_room.ensures c.if-has_room.true
    c.floors_in_range.ensures c.if-floors_in_range.true
    c.rules_in_range.ensures c.if-rules_in_range.true c.names_rules.ensures

pub returns-else-rules_in_range : goal.returns-else-rules_in_range
returns-else-rules_in_range c =
    let a = c.args in
    taken_no_rules a.floors a.run.now a.n a.order.now a.ring a.out c.has_room.ensures c.if-has_room.true
    c.floors_in_range.ensures c.if-floors_in_range.true c.rules_in_range.ensures
    c.if-rules_in_range.false

pub returns-else-floors_in_range : goal.returns-else-floors_in_range
returns-else-floors_in_range c =
    let a = c.args in
    taken_no_floors a.floors a.run.now a.n a.order.now a.ring a.out c.has_room.ensures c.if-has_room.true
    c.floors_in_range.ensures c.if-floors_in_range.false

pub returns-else-has_room : goal.returns-else-has_room
returns-else-has_room c =
    let a = c.args in
    taken_no_room a.floors a.run.now a.n a.order.now a.ring a.out c.has_room.ensures c.if-has_room.false
