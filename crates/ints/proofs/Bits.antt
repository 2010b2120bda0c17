-- The machine's signed numbers. A signed local is its bits, so each operand is a number read back from them; a number that fits is read
-- back whole.
use mathlib.Core.Path.{◌≡◌, refl, subst}
use mathlib.Core.Bool.{true, false}
use Prim.Native.Nat.{ℕ, zero, suc, ◌^◌, ◌≤◌}
use native.Mathlib.Omega.{arith}
use lib.IntN.{ℤ, pos, negsuc, neg_ℤ}
use lib.Signed.{lt_z, mag}
use mir.Syntax.{w64}
use mir.Val.{SFits, to_z, of_z}
use mir.Facts.{to_z-of_z}
use borrow.Author.Tests.{ltb-true}

abbrev pub read : ℤ → ℤ
read z = to_z w64 (of_z w64 z)

-- ---- the sign's test

pub below-zero : (z : ℤ) → SFits w64 z → lt_z (read z) (pos 0) ≡ true → z ≡ negsuc (mag z)
below-zero z f e = go z (subst (λ (y : ℤ). lt_z y (pos 0) ≡ true) (to_z-of_z {w = w64} f) e)
  where
    go : (z : ℤ) → lt_z z (pos 0) ≡ true → z ≡ negsuc (mag z)
    go (pos n) e = absurd (omega (arith, ltb-true n 0 e))
    go (negsuc n) e = refl

pub from_zero : (z : ℤ) → SFits w64 z → lt_z (read z) (pos 0) ≡ false → z ≡ pos (mag z)
from_zero z f e = go z (subst (λ (y : ℤ). lt_z y (pos 0) ≡ false) (to_z-of_z {w = w64} f) e)
  where
    go : (z : ℤ) → lt_z z (pos 0) ≡ false → z ≡ pos (mag z)
    go (pos n) e = refl
    go (negsuc n) e = let z : ◌≡◌ {A = ℕ} 0 1 = cc in absurd (omega arith)

-- the least i64 is −2^63
pub low : (n : ℕ) → n ≤ 2 ^ 63 → SFits w64 (neg_ℤ (pos n))
low zero h = record { sfits = omega arith }
low (suc n) h = record { sfits = omega arith }
