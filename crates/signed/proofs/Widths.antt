-- Signed numbers of one width read at another: a number of few bits that is widened to sixty-four is as it was.
use Prim.Native.Nat.{◌^◌, ◌≤◌}
use mathlib.Core.Path.{◌≡◌, ◌∙◌}
use lib.Dec.{lit≤}
use native.Mathlib.Nat.{lt_of_lt_of_le, le_trans}
use lib.IntN.{ℤ}
use mir.Syntax.{Width, w64}
use mir.Val.{to_z, of_z, SFits, hbits}
use mir.Facts.{to_z-of_z}

-- the bits of a number that fits are that number
bits_back : (w : Width) (z : ℤ) → SFits w z → to_z w (of_z w z) ≡ z
bits_back w z f = to_z-of_z {w = w} f

-- a number of fewer bits, widened to sixty-four
module _ (w : Width) (z : ℤ) (f : SFits w z) (k : 2 ^ hbits w ≤ 2 ^ 31) where
  wide : SFits w64 z
  wide = record { sfits = lt_of_lt_of_le f.sfits (le_trans k (lit≤ tt)) }

  pub widens : SFits w64 (to_z w (of_z w z))
  widens = rw (bits_back w z f) wide

  pub widened : to_z w64 (of_z w64 (to_z w (of_z w z))) ≡ z
  widened = bits_back w64 (to_z w (of_z w z)) widens ∙ bits_back w z f
