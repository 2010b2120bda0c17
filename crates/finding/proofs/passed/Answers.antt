-- `finding::passed` meets its contract: no record before the place is wanted.
use mathlib.Core.Path.{sym, ◌∙◌}
use native.Mathlib.Omega.{arith}
use Rattle.finding.proofs.Passing.{passed_start, passed_eight}
use Rattle.finding.proofs.passed.Goals as goal

pub loop-i-init : goal.loop-i-init
loop-i-init c =
    passed_start

pub overflow_sub-records : goal.overflow_sub-records
overflow_sub-records c = c.loop-i.invariant.inside

pub among-requires : goal.among-requires
among-requires c = omega (arith, c.loop-i.invariant.inside, c.loop-i-test.true)

pub returns-then-among : goal.returns-then-among
returns-then-among c = c.loop-i.invariant

pub overflow_add-i : goal.overflow_add-i
overflow_add-i c = omega (arith, c.loop-i.invariant.inside, c.loop-i-test.true)

pub loop-i-smaller : goal.loop-i-smaller
loop-i-smaller c = omega (arith, c.loop-i.invariant.inside, c.loop-i-test.true)

pub loop-i-preserved : goal.loop-i-preserved
loop-i-preserved c = passed_eight c.loop-i.invariant c.loop-i-test.true
    (sym c.among.ensures ∙ c.if-among.false)

pub returns : goal.returns
returns c = c.loop-i.invariant
