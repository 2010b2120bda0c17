-- `listing::put_points` meets its contract: after i turns the first i points are written.
use Rattle.listing.proofs.Written.{Putting}
use Rattle.listing.proofs.put_points.Given as goal

abbrev pub invariant-loop-i : goal.invariant-loop-i
invariant-loop-i l = Putting l.keys l.run l.n l.initial.out l.out l.i
