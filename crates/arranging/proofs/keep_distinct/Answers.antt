-- `arranging::keep_distinct` meets its contract: after each turn, those before place i are kept or dropped.
use native.Mathlib.Omega.{arith}
use mathlib.Core.Path.{sym, ◌∙◌}
use borrow.Author.Tests.{eqb-true, eqb-false}
use lib.ListN.{length}
use Rattle.arranging.proofs.Steps.{keeping_start, keeping_steps, keeping_on, keeping_end, none_kept}
use Rattle.arranging.proofs.keep_distinct.Goals as goal

pub returns-then-is_empty : goal.returns-then-is_empty
returns-then-is_empty g c =
    let a = c.args in
    none_kept (g.O.Order.comes a.order.now) a.run.now
    (eqb-true (length a.run.now) 0 (sym c.is_empty.ensures ∙ c.if-is_empty.true))

pub loop-i-init : goal.loop-i-init
loop-i-init g c =
    let a = c.args in
    keeping_start (g.O.Order.comes a.order.now) a.run.now
    (eqb-false (length a.run.now) 0 (sym c.is_empty.ensures ∙ c.if-is_empty.false))

pub keep_next-k-requires : goal.keep_next-k-requires
keep_next-k-requires g c =
    let a = c.args in
    keeping_steps (g.O.Order.comes a.order.now) c.loop-i.invariant (omega arith)

pub loop-i-preserved : goal.loop-i-preserved
loop-i-preserved g c =
    let a = c.args in
    keeping_on (g.O.Order.comes a.order.now) c.loop-i.invariant
    (omega arith) c.keep_next-k.ensures

pub returns : goal.returns
returns g c =
    let a = c.args in
    keeping_end (g.O.Order.comes a.order.now) c.loop-i.invariant (omega arith)
