-- `arranging::count_up` meets its contract: after i turns the first i places count up.
use mathlib.Core.Path.{◌≡◌}
use lib.ListN.{take}
use Rattle.arranging.specs.Arranging.{indices}
use Rattle.arranging.proofs.count_up.Given as goal

abbrev pub invariant-loop-i : goal.invariant-loop-i
invariant-loop-i l = take l.i l.run ≡ indices 0 l.i
