-- `steps::plan::places` meets its contract: after i turns the first i places are named.
use native.Mathlib.Omega.{arith}
use mathlib.Core.Path.{◌≡◌, ap, ◌∙◌}
use Rattle.sessions.specs.Laying.{named_to}
use Rattle.sessions.proofs.Names.{named-next, all_named}
use Rattle.steps.proofs.plan.places.Goals as goal

pub loop-i-preserved : goal.loop-i-preserved
loop-i-preserved c = named-next c.loop-i.i c.loop-i.invariant

pub returns : goal.returns
returns c =
    let l = c.loop-i in
    let all : l.i ≡ 64 = omega arith in
    l.invariant ∙ ap named_to all ∙ all_named
