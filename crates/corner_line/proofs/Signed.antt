-- A signed number as bytes, from the machine's bits, with no space before it.
use mathlib.Core.Path.{◌≡◌, refl, ap, sym, ◌∙◌, subst}
use mathlib.Core.List.{◌++◌}
use mathlib.Core.Bool.{true, false}
use Prim.Native.Nat.{ℕ}
use lib.IntN.{ℤ, pos, nat_abs}
use lib.Signed.{lt_z}
use mir.Syntax.{w64}
use mir.Val.{SFits}
use mir.Facts.{to_z-of_z}
use Rattle.ints.proofs.Bits.{read, below-zero, from_zero}
use Rattle.text.specs.Text.{text}
use Rattle.text.specs.Number.{decimal, signed}
use Rattle.text.specs.declared.Line.{Line}
use Rattle.text.specs.Line.{Added}
use Rattle.text.proofs.Adding.{spelt}

module _ (z : ℤ) (n : ℕ) (f : SFits w64 z) (e : n ≡ nat_abs (read z)) where
  magnitude-is : n ≡ nat_abs z
  magnitude-is = e ∙ ap nat_abs (to_z-of_z {w = w64} f)

  pub with_minus : lt_z (read z) (pos 0) ≡ true → text "-" ++ decimal n ≡ signed z
  unfolding signed
  with_minus t =
      ap (λ (m : ℕ). text "-" ++ decimal m) magnitude-is
      ∙ subst (λ (y : ℤ). text "-" ++ decimal (nat_abs y) ≡ signed y) (sym (below-zero z f t)) refl

  pub without_sign : lt_z (read z) (pos 0) ≡ false → decimal n ≡ signed z
  unfolding signed
  without_sign t =
      ap (λ (m : ℕ). decimal m) magnitude-is
      ∙ subst (λ (y : ℤ). decimal (nat_abs y) ≡ signed y) (sym (from_zero z f t)) refl

-- a signed number handed to a function
pub whole-signed : {l m : Line} {i : ℕ} (z : ℤ) → SFits w64 z → Added l (signed (read z)) i m → Added l (signed z) i m
whole-signed z f = spelt (ap signed (to_z-of_z {w = w64} f))
