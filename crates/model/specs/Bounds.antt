-- Document 01's bounds on what the walk holds: corners, directions and weights (those of what a book gives are lp's Range). The planner's
-- code asks for them, since they keep every product and sum within 64 bits; that the walk's numbers have them is proved in
-- proofs/Bounds.antt.
use Rattle.std.specs.Prelude.{ℕ, suc, ◌≤◌, Option, None, Some, Result, Ok, Err}
use Rattle.ints.specs.Within.{Within}
use Rattle.lp.specs.Range.{SmallConstraint}
use Rattle.lp.specs.declared.Constraint.{Constraint}
use Rattle.lp.specs.declared.Point.{Point}
use Rattle.lp.specs.declared.Ray.{Ray}
use Rattle.lp.specs.declared.Certificate.{Certificate}
use Rattle.lp.specs.declared.Outcome.{Outcome}
use Rattle.lp.specs.declared.Outcome.TheVariants as outcome
pub use Rattle.exact.specs.Sizes.{SmallPoint, SmallRay, SmallCone}
use Rattle.model.specs.declared.Met.{Met}
use Rattle.model.specs.declared.State.{State}
use Rattle.model.specs.declared.State.TheVariants.{Ended, Going}
use Rattle.model.specs.declared.Walk.{Walk}

-- ---- what the walk makes of it

pub record SmallCertificate (k : Certificate) : Type 0 where
  pub first_small : Within 2147352578 k.first_weight
  pub second-small : Within 2147352578 k.second_weight
  pub third-small : Within 2147352578 k.third_weight

abbrev pub SmallFound : Option Met → Type 0
SmallFound None = Unit {0}
SmallFound (Some found) = SmallConstraint found.entry × SmallPoint found.point

abbrev pub SmallBroken : Option (ℕ × Constraint) → Type 0
SmallBroken None = Unit {0}
SmallBroken (Some (i, m)) = SmallConstraint m

abbrev pub SmallRestart : Result Point Certificate → Type 0
SmallRestart (Ok v) = SmallPoint v
SmallRestart (Err k) = SmallCertificate k

abbrev pub SmallGain : Option Ray → Type 0
SmallGain None = Unit {0}
SmallGain (Some d) = SmallRay d

abbrev pub SmallBest : Option Point → Type 0
SmallBest None = Unit {0}
SmallBest (Some v) = SmallPoint v

abbrev pub SmallState : State → Type 0
SmallState (Ended p k) = SmallCertificate k
SmallState (Going s rays b) = SmallPoint s × SmallCone rays × SmallBest b

-- what is said of it
abbrev pub SmallOutcome : Outcome → Type 0
SmallOutcome outcome.Infeasible = Unit {0}
SmallOutcome (outcome.Unbounded s d) = SmallPoint s × SmallRay d
SmallOutcome (outcome.Optimal v) = SmallPoint v

-- after n rules: moves and restarts never exceed n, nor open n + 1
pub record SmallWalk (n : ℕ) (w : Walk) : Type 0 where
  pub state_small : SmallState w.state
  pub moves-small : w.moves ≤ n
  pub opened-small : w.opened ≤ suc n
  pub restarts-small : w.restarts ≤ n
