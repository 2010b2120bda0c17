-- `objectives::some_bad` meets its contract: after i turns none of the first i is out of its range.
use Prim.Native.Nat.{◌-◌, ◌/◌}
use mathlib.Core.Path.{◌≡◌}
use lib.ListN.{length}
use Rattle.objectives.specs.Objectives.{objectives_from, objectives_of, some_bad}
use Rattle.objectives.proofs.some_bad.Given as goal

abbrev pub invariant-loop-i : goal.invariant-loop-i
invariant-loop-i l = some_bad (objectives_from l.bytes l.i (length l.bytes / 4 - l.i)) ≡ some_bad (objectives_of l.bytes)
