-- `checking::entries::stays_all` meets its contract.
use Rattle.slip.proofs.Passes.{Stayed}
use Rattle.checking.proofs.entries.stays_all.Given as goal

abbrev pub invariant-loop-i : goal.invariant-loop-i
invariant-loop-i l = Stayed l.rules l.n l.d l.i
