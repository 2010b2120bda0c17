-- Eight bytes of a copy as a number, and the line of an outcome's number.
use Prim.Native.Nat.{ℕ}
use mathlib.Core.Path.{◌≡◌, refl, ap, ◌∙◌}
use mathlib.Core.List.{List}
use native.Mathlib.Nat.{le_refl, add-zero}
use native.Mathlib.Omega.{arith}
use borrow.Author.Tests.{eq-eqb, ne_eqb}
use lib.ListN.{drop}
use mir.Syntax.{w64}
use Rattle.std.specs.Int.{from_le_bytes}
use Rattle.lp.specs.declared.Point.{Point}
use Rattle.records.specs.Number.{number, Copied}
use Rattle.records.proofs.Numbers.{eight_bytes}
use Rattle.records.proofs.Offsets.{copied-number}
use Rattle.text.specs.Text.{text}
use Rattle.batch_line.specs.Line.{pair_line, offer_line}

-- a copy's eight bytes, as the library adds them up, are the number at that place
pub cell-copied : {s w : List ℕ} {at : ℕ} → Copied s at 8 w → from_le_bytes w64 w ≡ number 8 (drop at s)
cell-copied {s} {w} {at} k =
    eight_bytes w ∙ copied-number k 8 0 (le_refl 8) ∙ ap (λ (i : ℕ). number 8 (drop i s)) (add-zero at)

-- the line of an outcome, by what its number is
module _ (n : ℕ) (v : Point) where
  pub best-line : n ≡ 1 → pair_line (text "best") v ≡ offer_line n v
  unfolding offer_line
  best-line e = rw (eq-eqb n 1 e) refl

  pub unlimited-line : n ≡ 2 → pair_line (text "unlimited") v ≡ offer_line n v
  unfolding offer_line
  unlimited-line e = rw (ne_eqb n 1 (λ d. omega arith), eq-eqb n 2 e) refl

  pub impossible-line : (n ≡ 1 → ⊥) → (n ≡ 2 → ⊥) → text "impossible\n" ≡ offer_line n v
  unfolding offer_line
  impossible-line h k = rw (ne_eqb n 1 h, ne_eqb n 2 k) refl
