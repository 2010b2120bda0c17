-- The greater of two numbers, as the library has it; and terms that are joined are in range.
use mathlib.Core.Path.{◌≡◌, refl, ◌∙◌, ap₂}
use mathlib.Core.Bool.{Bool, true, false, cond}
use lib.IntN.{ℤ}
use native.Mathlib.Omega.{arith}
use lib.Signed.{le_z, lt_z}
use mir.Syntax.{w64}
use mir.Val.{SFits, to_z, of_z}
use mir.Facts.{to_z-of_z}
use Rattle.std.specs.Int.{int_max}
use Rattle.std.proofs.lemmas.Int.{ints, by_lt_z}
use Rattle.ints.specs.Within.{Within}
use Rattle.lp.specs.declared.Terms.{Terms}
use Rattle.lp.specs.Range.{SmallTerms}
use Rattle.joint_terms.specs.Terms.{greater, joined_terms}
use Prim.Native.Nat.{ℕ}

abbrev pub read : ℤ → ℤ
read z = to_z w64 (of_z w64 z)

-- the library's greater of two numbers is this one
pub greatest-is : (y z : ℤ) → int_max y z ≡ greater y z
greatest-is y z =
    by_lt_z z y
    (λ h. let t : lt_z z y ≡ true = grind (arith, ints) in let f : le_z y z ≡ false = grind (arith, ints) in rw (t, f) refl)
    (λ h. let t : lt_z z y ≡ false = grind (arith, ints) in let f : le_z y z ≡ true = grind (arith, ints) in rw (t, f) refl)

module _ {y z : ℤ} (f : SFits w64 y) (g : SFits w64 z) where
  -- of numbers that a call took and handed back
  pub greater-read : {r : ℤ} → SFits w64 r → r ≡ greater (read y) (read z) → read r ≡ greater y z
  greater-read h e = to_z-of_z {w = w64} h ∙ e ∙ ap₂ greater (to_z-of_z {w = w64} f) (to_z-of_z {w = w64} g)

-- ---- ranges

greater-within : {n : ℕ} {y z : ℤ} → Within n y → Within n z → Within n (greater y z)
greater-within {n} {y} {z} h k = go (le_z y z)
  where
    go : (b : Bool) → Within n (cond b z y)
    go true = k
    go false = h

pub joined_small : (t u : Terms) → SmallTerms t → SmallTerms u → SmallTerms (joined_terms t u)
joined_small t u h k =
    record {
      objective-small = k.objective-small;
      floors-small =
          record {
            lx_small = greater-within h.floors-small.lx_small k.floors-small.lx_small;
            ly_small = greater-within h.floors-small.ly_small k.floors-small.ly_small;
          };
    }
