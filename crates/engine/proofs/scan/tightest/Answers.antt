-- `engine::scan::tightest` meets its contract: the tightest point on a line among the first n entries.
use Rattle.engine.proofs.Passes.{tightest-start, entry-room, tightening, tightest-step, tightest-end}
use Rattle.engine.proofs.scan.tightest.Goals as goal

pub at_infinity-held-requires : goal.at_infinity-held-requires
at_infinity-held-requires c = c.requires.line_small

pub loop-i-init : goal.loop-i-init
loop-i-init c = tightest-start c.requires c.at_infinity-held.ensures

pub entry-requires : goal.entry-requires
entry-requires c = entry-room c.requires.entries c.loop-i-test.true

pub tighter-held-requires : goal.tighter-held-requires
tighter-held-requires c =
    tightening c.requires c.loop-i.invariant c.loop-i-test.true c.entry.ensures

pub loop-i-preserved : goal.loop-i-preserved
loop-i-preserved c =
    tightest-step c.requires c.loop-i.invariant
    c.loop-i-test.true c.entry.ensures c.tighter-held.ensures

pub returns : goal.returns
returns c =
    tightest-end c.requires c.loop-i.invariant c.loop-i-test.false c.found.ensures
