-- `slips::pass::passed` meets its contract: what the pass over a chain holds in the end.
use Rattle.slips.proofs.Sizes.{Turned}
use Rattle.slips.proofs.pass.passed.Given as goal

abbrev pub invariant-loop-i : goal.invariant-loop-i
invariant-loop-i l = Turned l.normal l.v l.records l.rules l.n l.initial.held l.held l.i
