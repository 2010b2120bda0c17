-- `offering::offers::fill` meets its contract: after i turns the first i answers are written (`one_more`).
use Prim.Native.Nat.{◌*◌, ◌/◌, ◌≤◌}
use mathlib.Core.Path.{◌≡◌}
use lib.ListN.{length}
use lib.Seq.{paste}
use Rattle.lp.specs.Outcome.{tie_order}
use Rattle.lp.specs.Document as document
use Rattle.objectives.specs.Objectives.{objectives_of}
use Rattle.offering.specs.Listed.{points_from, first_by, offer_in, answers_by}
use Rattle.offering.specs.Asked.{Filling}
use Rattle.offering.proofs.offers.fill.Given as goal

abbrev pub invariant-loop-i : goal.invariant-loop-i
invariant-loop-i l =
    (l.i ≤ l.total)
    × (l.total ≡ length l.objectives / 4)
    × (l.out ≡ paste l.initial.out 0 (answers_by (offer_in l.cone (points_from l.corners 0 l.count)) (objectives_of l.objectives)) (32 * l.i))
    × (length l.out ≡ length l.initial.out)
    × (l.start ≡ first_by (tie_order document.tie) (points_from l.corners 0 l.count))
    × Filling l.cone l.corners l.count l.objectives l.initial.out
