-- `region::turning::slide` meets its contract: the ring is moved to the start of its run.
use native.Mathlib.Omega.{arith}
use Rattle.region.proofs.Loops.{slide-start, slide-read, slide_write, slide-step, slide-end}
use Rattle.region.proofs.turning.slide.Goals as goal

pub loop-i-init : goal.loop-i-init
loop-i-init c = slide-start c.args.ring.now c.args.arc.lo c.args.arc.n

pub overflow_add-k : goal.overflow_add-k
overflow_add-k c = omega (arith, c.requires.small)

pub bounds-ring-arc : goal.bounds-ring-arc
bounds-ring-arc c = slide-read c.requires c.loop-i.invariant c.loop-i-test.true

pub bounds-ring-i : goal.bounds-ring-i
bounds-ring-i c = slide_write c.requires c.loop-i.invariant c.loop-i-test.true

pub loop-i-preserved : goal.loop-i-preserved
loop-i-preserved c = slide-step c.requires c.loop-i.invariant c.loop-i-test.true

pub shape_of-ring : goal.shape_of-ring
shape_of-ring c = c.loop-i.invariant.same

pub returns : goal.returns
returns c = slide-end c.requires c.loop-i.invariant c.loop-i-test.false
