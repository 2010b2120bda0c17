-- The exchange form of a slip, as a controller hands it over: a run of 14 signed numbers, outcome, count, X, Y, D, dx, dy, scale, and then
-- three times code and weight. What is not used is 0.
use Rattle.std.specs.Prelude.{ℤ, pos}
use Rattle.lp.specs.declared.Outcome.{Outcome}
use Rattle.lp.specs.declared.Outcome.TheVariants as outcome

-- ---- the outcomes' numbers

abbrev pub outcome_number : Outcome → ℤ
outcome_number (outcome.Optimal v) = pos 1
outcome_number (outcome.Unbounded v d) = pos 2
outcome_number outcome.Infeasible = pos 3
