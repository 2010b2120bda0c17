-- `engine::walk::walk_rules` meets its contract: the walk along n rules, which stand after the floors.
use borrow.Author.Rules.{rules}
use borrow.Author.Tests.{leb-true}
use mathlib.Core.Bool.{◌&&◌}
use mathlib.Core.Path.{sym, ◌∙◌}
use Prim.Native.Nat.{◌+◌, ◌-◌}
use native.Mathlib.Omega.{arith}
use lib.Dec.{leb, ltb}
use Rattle.amounts.proofs.Tests.{both}
use Rattle.engine.proofs.Walks.{walked_start, walked-room, stepping, walked_step, walked_stop, answering, walked_end}
use Rattle.engine.proofs.Carried.{walked-carrying}
use Rattle.engine.proofs.walk.walk_rules.Goals as goal

pub begin-walk-requires : goal.begin-walk-requires
begin-walk-requires c = record { objective = c.requires.objective; floors-small = c.requires.floors-small }

pub loop-i-init : goal.loop-i-init
loop-i-init c = walked_start c.requires (search rules) c.begin-walk.ensures

pub entry-h-requires : goal.entry-h-requires
entry-h-requires c = walked-room c.requires c.loop-i.invariant c.loop-i-test.true

pub step-walk-requires : goal.step-walk-requires
step-walk-requires c =
    stepping c.requires
    c.loop-i.invariant c.loop-i-test.true
    c.entry-h.ensures c.rule_in_range.ensures c.if-rule_in_range.true
    c.tie.ensures

pub overflow_sub-end : goal.overflow_sub-end
overflow_sub-end c = omega (arith, c.loop-i-test.true)

pub carry_on-requires : goal.carry_on-requires
carry_on-requires c =
    let spent = c.left_over-budget.result in
    let rest = c.args.n + 2 - (c.loop-i.i + 1) in
    let pays = both (ltb spent 1 && ltb 48 rest) (leb c.args.n 8190) (sym c.pays.ensures ∙ c.if-pays.true) in
    walked-carrying c.requires
    (walked_step c.requires c.loop-i.invariant
    c.loop-i-test.true
    c.entry-h.ensures c.rule_in_range.ensures c.if-rule_in_range.true
    c.tie.ensures c.step-walk.ensures)
    c.begin-walk.ensures (leb-true c.args.n 8190 pays.1)

pub returns-then-pays : goal.returns-then-pays
returns-then-pays c =
    c.carry_on.ensures

pub loop-i-preserved : goal.loop-i-preserved
loop-i-preserved c =
    walked_step c.requires c.loop-i.invariant
    c.loop-i-test.true c.entry-h.ensures
    c.rule_in_range.ensures c.if-rule_in_range.true
    c.tie.ensures c.step-walk.ensures

pub returns-else-rule_in_range : goal.returns-else-rule_in_range
returns-else-rule_in_range c =
    walked_stop c.requires c.loop-i.invariant
    c.loop-i-test.true c.entry-h.ensures c.rule_in_range.ensures c.if-rule_in_range.false

pub solution-requires : goal.solution-requires
solution-requires c = answering c.requires c.loop-i.invariant

pub returns : goal.returns
returns c =
    walked_end c.requires c.loop-i.invariant c.loop-i-test.false
    c.begin-walk.ensures c.solution.ensures
