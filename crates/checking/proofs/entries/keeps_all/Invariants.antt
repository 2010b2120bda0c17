-- `checking::entries::keeps_all` meets its contract.
use Rattle.slip.proofs.Passes.{Kept}
use Rattle.checking.proofs.entries.keeps_all.Given as goal

abbrev pub invariant-loop-i : goal.invariant-loop-i
invariant-loop-i l = Kept l.rules l.n l.v l.i
