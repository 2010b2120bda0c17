-- `engine::scan::first_broken` meets its contract: the first of n entries that a point breaks.
use mathlib.Core.Path.{sym, ◌∙◌}
use Rattle.engine.proofs.Passes.{unbroken_start, entry-room, unbroken_step, unbroken_stop, unbroken_end}
use Rattle.engine.proofs.scan.first_broken.Goals as goal

pub loop-i-init : goal.loop-i-init
loop-i-init c = unbroken_start c.args.entries.now c.args.n c.args.v

pub entry-m-requires : goal.entry-m-requires
entry-m-requires c = entry-room c.requires.entries c.loop-i-test.true

pub loop-i-preserved : goal.loop-i-preserved
loop-i-preserved c =
    unbroken_step c.requires c.loop-i.invariant
    c.loop-i-test.true c.entry-m.ensures (sym c.keeps.ensures ∙ c.if-not-keeps.false)

pub returns-then-not-keeps : goal.returns-then-not-keeps
returns-then-not-keeps c =
    unbroken_stop c.requires c.loop-i.invariant
    c.loop-i-test.true c.entry-m.ensures (sym c.keeps.ensures ∙ c.if-not-keeps.true)

pub returns : goal.returns
returns c = unbroken_end c.requires c.loop-i.invariant c.loop-i-test.false
