-- Signed numbers as bytes, from the machine's bits (`Bits` of `ints`): what the sign's test says of the spelling, and how many digits
-- there are.
use mathlib.Core.Path.{◌≡◌, refl, ap, sym, ◌∙◌}
use mathlib.Core.List.{◌++◌}
use mathlib.Core.Bool.{true, false}
use Prim.Native.Nat.{ℕ, suc, ◌≤◌}
use native.Mathlib.Nat.{lt_of_le_of_lt}
use native.Mathlib.Omega.{arith}
use lib.Dec.{lit<}
use lib.ListN.{length}
use lib.IntN.{ℤ, pos, negsuc, nat_abs}
use lib.Signed.{lt_z, nat_abs-le}
use mir.Syntax.{w64}
use mir.Val.{SFits}
use mir.Facts.{to_z-of_z}
use Rattle.ints.proofs.Bits.{read, below-zero, from_zero}
use Rattle.text.specs.Text.{text}
use Rattle.text.specs.Number.{decimal, signed, integer, sign}
use Rattle.text.specs.declared.Line.{Line}
use Rattle.text.specs.Line.{Added}
use Rattle.text.proofs.Decimal.{decimal-short}
use Rattle.text.proofs.Adding.{spelt}

-- ---- what stands before its digits

pub minus-sign : (z : ℤ) → SFits w64 z → lt_z (read z) (pos 0) ≡ true → text " -" ≡ sign z
unfolding sign
minus-sign z f t = ap sign (sym (below-zero z f t))

pub no_sign : (z : ℤ) → SFits w64 z → lt_z (read z) (pos 0) ≡ false → text " " ≡ sign z
unfolding sign
no_sign z f t = ap sign (sym (from_zero z f t))

-- ---- its bytes, where n is the magnitude of what was read back

of-sign : (z : ℤ) → sign z ++ decimal (nat_abs z) ≡ integer z
unfolding integer signed sign
of-sign (pos n) = refl
of-sign (negsuc n) = refl

module _ (z : ℤ) (n : ℕ) (f : SFits w64 z) (e : n ≡ nat_abs (read z)) where
  magnitude-is : n ≡ nat_abs z
  magnitude-is = e ∙ ap nat_abs (to_z-of_z {w = w64} f)

  pub digits-short : length (decimal n) ≤ 19
  digits-short = decimal-short 18 n (rw magnitude-is (lt_of_le_of_lt (nat_abs-le z f.sfits) (lit< tt)))

  pub sign-digits : sign (read z) ++ decimal n ≡ integer z
  sign-digits =
      ap (λ (y : ℤ). sign y ++ decimal n) (to_z-of_z {w = w64} f)
      ∙ ap (λ (m : ℕ). sign z ++ decimal m) magnitude-is
      ∙ of-sign z

-- a space, a sign and at most 19 digits
pub integer-short : (z : ℤ) → SFits w64 z → length (integer z) ≤ 21
unfolding integer signed
integer-short (pos n) f = omega (arith, decimal-short 18 n (lt_of_le_of_lt (nat_abs-le (pos n) f.sfits) (lit< tt)))
integer-short (negsuc n) f = omega (arith, decimal-short 18 (suc n) (lt_of_le_of_lt (nat_abs-le (negsuc n) f.sfits) (lit< tt)))

-- ---- a signed number handed to a function

pub whole : {l m : Line} {i : ℕ} (z : ℤ) → SFits w64 z → Added l (integer (read z)) i m → Added l (integer z) i m
whole z f = spelt (ap integer (to_z-of_z {w = w64} f))
