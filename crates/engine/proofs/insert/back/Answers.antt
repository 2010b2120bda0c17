-- `engine::insert::back` meets its contract: the edges at the back are dropped whose earlier corner is broken.
use mathlib.Core.Path.{sym, ◌∙◌}
use native.Mathlib.Omega.{arith}
use Rattle.engine.proofs.Drops.{back-pair}
use Rattle.engine.proofs.Dropping.{back_start, back-stop, back_step, back_end}
use Rattle.engine.proofs.insert.back.Goals as goal

pub loop-k-init : goal.loop-k-init
loop-k-init c = back_start c.requires.some

pub overflow_add-at : goal.overflow_add-at
overflow_add-at c = omega (arith, c.requires.ring.fits, c.loop-k.invariant.inside)

pub overflow_add-at-in-loop-k : goal.overflow_add-at-in-loop-k
overflow_add-at-in-loop-k c = omega (arith, c.requires.ring.fits, c.loop-k.invariant.inside)

pub corner_keeps-requires : goal.corner_keeps-requires
corner_keeps-requires c = back-pair c.requires c.loop-k.invariant c.loop-k-test.true

pub returns-then-corner_keeps : goal.returns-then-corner_keeps
returns-then-corner_keeps c =
    back-stop c.loop-k.invariant
    c.loop-k-test.true (sym c.corner_keeps.ensures ∙ c.if-corner_keeps.true)

pub loop-k-preserved : goal.loop-k-preserved
loop-k-preserved c =
    back_step c.loop-k.invariant
    c.loop-k-test.true (sym c.corner_keeps.ensures ∙ c.if-corner_keeps.false)

pub returns : goal.returns
returns c = back_end c.loop-k.invariant c.loop-k-test.false
