-- `laying::order::count_rules` meets its contract: after i turns the first i places count from 2 on.
use mathlib.Core.Path.{◌≡◌}
use lib.ListN.{take}
use Rattle.region.proofs.Theorems.{places}
use Rattle.laying.proofs.order.count_rules.Given as goal

abbrev pub invariant-loop-i : goal.invariant-loop-i
invariant-loop-i l = take l.i l.order ≡ places 2 l.i
