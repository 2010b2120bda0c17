-- `handed::put_point` meets its contract: X, Y and D, at the start of a run of numbers.
use native.Mathlib.Omega.{arith}
use lib.ListN.{length-set}
use Rattle.handed.proofs.put_point.Goals as goal

pub bounds-out-1 : goal.bounds-out-1
bounds-out-1 c = simp length-set (omega arith)
