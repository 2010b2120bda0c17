-- `arranging::keep_next` meets its contract.
use mathlib.Core.Path.{◌∙◌, sym}
use Rattle.arranging.proofs.Steps.{stepped}
use Rattle.arranging.proofs.keep_next.Goals as goal

pub returns-then-comes : goal.returns-then-comes
returns-then-comes g c =
    let a = c.args in
    stepped (g.O.Order.comes a.order.now) a.i a.k a.run.now (sym c.comes.ensures ∙ c.if-comes.true)

pub returns-else-comes : goal.returns-else-comes
returns-else-comes g c =
    let a = c.args in
    stepped (g.O.Order.comes a.order.now) a.i a.k a.run.now (sym c.comes.ensures ∙ c.if-comes.false)
