-- `laying::order::count_rules` meets its contract: after i turns the first i places count from 2 on.
use native.Mathlib.Omega.{arith}
use mathlib.Core.Path.{◌≡◌, sym, ap, ◌∙◌}
use lib.ListN.{length}
use lib.Seq.{take_all}
use Rattle.region.proofs.Theorems.{places}
use Rattle.laying.proofs.Orders.{counted-rules}
use Rattle.laying.proofs.order.count_rules.Goals as goal

pub loop-i-preserved : goal.loop-i-preserved
loop-i-preserved c =
    let l = c.loop-i in
    counted-rules l.order l.i l.invariant (omega arith)

pub returns : goal.returns
returns c =
    let l = c.loop-i in
    let e : l.i ≡ length c.args.order.now = omega arith in
    sym (take_all l.i l.order (omega arith)) ∙ l.invariant ∙ ap (places 2) e
