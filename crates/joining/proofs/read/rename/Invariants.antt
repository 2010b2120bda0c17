-- `joining::read::rename` meets its contract: the loop's invariant is `Halfway`.
use Rattle.joining.proofs.Renames.{Halfway}
use Rattle.joining.proofs.read.rename.Given as goal

abbrev pub invariant-loop-i : goal.invariant-loop-i
invariant-loop-i l = Halfway l.initial.names l.n l.i l.names
