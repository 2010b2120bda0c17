-- `engine::solve` meets its contract.
use Rattle.amounts.proofs.Tests.{two-passed}
use Rattle.engine.proofs.Laid.{lays-six}
use Rattle.engine.proofs.Solves.{unlaid, no_objective, no_room, walking, solved-by}
use Rattle.engine.proofs.solve.Goals as goal

pub returns-then-not-lay_floors : goal.returns-then-not-lay_floors
returns-then-not-lay_floors c =
    let a = c.args in
    unlaid a.terms a.n a.run.now c.lay_floors.ensures
    c.if-not-lay_floors.true

pub overflow_sub-run : goal.overflow_sub-run
overflow_sub-run c =
    let a = c.args in
    lays-six a.terms.floors a.run.now c.lay_floors.ensures
    c.if-not-lay_floors.false

pub walk_rules-requires : goal.walk_rules-requires
walk_rules-requires c =
    let a = c.args in
    let f = a.terms.objective in
    let h = c.struct_told-1.given in
    walking a.terms a.n a.run.now
    c.lay_floors.ensures
    c.if-not-lay_floors.false
    (two-passed 32767 f.p f.q h.0.1 h.1.0.1 c.up_to.ensures
    c.up_to-2.ensures c.if-up_to.true) c.if-n-run.true

pub returns-then-n-run : goal.returns-then-n-run
returns-then-n-run c =
    let a = c.args in
    let f = a.terms.objective in
    let h = c.struct_told-1.given in
    solved-by a.terms a.n a.run.now
    c.lay_floors.ensures
    c.if-not-lay_floors.false
    (two-passed 32767 f.p f.q h.0.1 h.1.0.1 c.up_to.ensures
    c.up_to-2.ensures c.if-up_to.true) c.if-n-run.true
    c.walk_rules.ensures

pub returns-else-n-run : goal.returns-else-n-run
returns-else-n-run c =
    let a = c.args in
    no_room a.terms a.n a.run.now c.lay_floors.ensures
    c.if-n-run.false

pub returns-else-up_to : goal.returns-else-up_to
returns-else-up_to c =
    let a = c.args in
    let f = a.terms.objective in
    let h = c.struct_told-1.given in
    no_objective a.terms a.n a.run.now c.lay_floors.ensures
    (two-passed 32767 f.p f.q h.0.1 h.1.0.1 c.up_to.ensures c.up_to-2.ensures
    c.if-up_to.false)
