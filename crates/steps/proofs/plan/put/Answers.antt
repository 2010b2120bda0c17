-- `steps::plan::put` meets its contract: three numbers in their places.
use native.Mathlib.Omega.{arith}
use lib.ListN.{length-set}
use Rattle.steps.proofs.plan.put.Goals as goal

pub bounds-run-at : goal.bounds-run-at
bounds-run-at c = omega (arith, c.requires.room)

pub bounds-run-at-2 : goal.bounds-run-at-2
bounds-run-at-2 c = simp length-set (omega (arith, c.requires.room))

pub bounds-run-at-3 : goal.bounds-run-at-3
bounds-run-at-3 c = simp length-set (omega (arith, c.requires.room))
