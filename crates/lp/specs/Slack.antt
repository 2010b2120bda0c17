-- How far a point is from a constraint's line, as a fraction in lowest terms with its sign: above zero is spare, zero (0/1) is tight,
-- below zero is broken. `Keeps` and `keeps` read the sign of the numerator before it is reduced, which is the same (theory, Slack.antt).
use Rattle.std.specs.Prelude.{ℤ, pos}
use Rattle.std.specs.Int.Signed.{quot_z}
use Rattle.ints.specs.Gcd.{gcd2}
use Rattle.lp.specs.declared.Constraint.{Constraint}
use Rattle.lp.specs.declared.Point.{Point}
use Rattle.lp.specs.declared.Amount.{Amount}
use Rattle.lp.specs.Program.{slack}

abbrev pub amount : ℤ → ℤ → Amount
amount n d = record { numerator = n; denominator = d }

-- n/d in lowest terms
abbrev pub lowest : ℤ → ℤ → Amount
lowest n d = let g = pos (gcd2 n d) in amount (quot_z n g) (quot_z d g)

-- (c·D − a·X − b·Y)/D
abbrev pub slack_of : Constraint → Point → Amount
slack_of r v = lowest (slack r v) v.d
