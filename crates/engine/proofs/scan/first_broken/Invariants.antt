-- `engine::scan::first_broken` meets its contract: the first of n entries that a point breaks.
use Rattle.engine.proofs.Passes.{Unbroken}
use Rattle.engine.proofs.scan.first_broken.Given as goal

abbrev pub invariant-loop-i : goal.invariant-loop-i
invariant-loop-i l = Unbroken l.entries l.n l.v l.i
