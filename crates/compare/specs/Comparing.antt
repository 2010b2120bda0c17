-- The order of fractions and of points for every number that an i64 can be: it is that of `lp` where the denominators are those of pairs,
-- and false elsewhere.
use Rattle.std.specs.Prelude.{◌≡◌, Bool, true, false, cond, ◌&&◌, ℤ, pos}
use Rattle.std.specs.Int.Signed.{le_z}
use Rattle.lp.specs.declared.Point.{Point}
use Rattle.lp.specs.Corners.{less, before}

-- the denominator of a pair is above 0 and below 2^31
abbrev pub is_denominator : ℤ → Bool
is_denominator d = le_z (pos 1) d && le_z d (pos 2147483647)

abbrev pub less_in : ℤ → ℤ → ℤ → ℤ → Bool
less_in x d x' d' = cond (is_denominator d && is_denominator d') (less x d x' d') false

abbrev pub before_in : Point → Point → Bool
before_in v w = cond (is_denominator v.d && is_denominator w.d) (before v w) false

-- what a private function asks of two denominators
pub record Denominators (d d' : ℤ) : Type 0 where
  pub first : is_denominator d ≡ true
  pub second : is_denominator d' ≡ true
