-- `arranging::count_up` meets its contract: after i turns the first i places count up.
use native.Mathlib.Omega.{arith}
use mathlib.Core.Path.{◌≡◌, sym, ap, ◌∙◌}
use lib.ListN.{length}
use lib.Seq.{take_all}
use Rattle.arranging.specs.Arranging.{indices}
use Rattle.arranging.proofs.Steps.{counted-on}
use Rattle.arranging.proofs.count_up.Goals as goal

pub loop-i-preserved : goal.loop-i-preserved
loop-i-preserved c =
    let l = c.loop-i in
    counted-on l.run l.i l.invariant (omega arith)

pub returns : goal.returns
returns c =
    let l = c.loop-i in
    let e : l.i ≡ length c.args.run.now = omega arith in
    sym (take_all l.i l.run (omega arith)) ∙ l.invariant ∙ ap (indices 0) e
