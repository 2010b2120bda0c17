-- `region::frame::put_entry` meets its contract.
use native.Mathlib.Omega.{arith}
use lib.ListN.{length-set}
use Rattle.region.proofs.frame.put_entry.Goals as goal

pub bounds-run-at-2 : goal.bounds-run-at-2
bounds-run-at-2 c = simp length-set (omega arith)
