-- The numbers of `smaller`: quotients and remainders of an i64 by the denominator of a pair fit, and so do the products of remainders with
-- denominators. An i64 is read back from its bits, `read z`, which is z.
use mathlib.Core.Path.{◌≡◌, sym, ◌∙◌, ap, ap₂, subst}
use mathlib.Core.Bool.{Bool, true, false, cond, not, ◌&&◌}
use Prim.Native.Nat.{ℕ, suc, ◌%◌, ◌≤◌, ◌<◌}
use native.Mathlib.Nat.{mod-lt}
use native.Mathlib.Omega.{arith}
use lib.Dec.{T, leb→le}
use lib.IntN.{ℤ, pos, negsuc, nat_abs, ◌*ℤ◌}
use lib.Signed.{le_z, lt_z, le_z_yes, lt_z_yes, lt_z_no, quot_z, rem_z}
use mir.Syntax.{w64}
use mir.Val.{SFits, of_z}
use mir.Facts.{to_z-of_z}
use Rattle.ints.specs.Order.{◌≤ᶻ◌, ◌<ᶻ◌}
use Rattle.ints.specs.Within.{Within}
use Rattle.ints.proofs.Bits.{read}
use Rattle.ints.proofs.Order.{pos-elim, antisymmetric}
use Rattle.ints.proofs.Divides.{nat_abs_neg}
use Rattle.ints.proofs.Machine.{within-mul, within-fits}
use Rattle.fraction.proofs.Quotients.{quot_fits, quot_is}
use Rattle.lp.specs.Corners.{less}
use Rattle.compare.specs.Comparing.{is_denominator}
use Rattle.compare.proofs.Parts.{less-by-quotient, not-less-by-quotient, less-by-remainder}

-- ---- a denominator

both : (s t : Bool) → (s && t) ≡ true → T s × T t
both true t e = (tt, subst T (sym e) tt)
both false t e = absurd (subst T (sym e) tt)

module _ {d : ℤ} (h : is_denominator d ≡ true) where
  low : pos 1 ≤ᶻ d
  low = le_z_yes (both (le_z (pos 1) d) (le_z d (pos 2147483647)) h).0

  pub positive : pos 0 <ᶻ d
  positive = go d low
    where
      go : (d : ℤ) → pos 1 ≤ᶻ d → pos 0 <ᶻ d
      go (pos n) k = lt_z_yes k.le
      go (negsuc n) k = absurd k.le

  high : d ≤ᶻ pos 2147483647
  high = le_z_yes (both (le_z (pos 1) d) (le_z d (pos 2147483647)) h).1

  -- it is a natural number
  natural {ℓ} : (Q : ℤ → Type ℓ) → ((n : ℕ) → suc n ≤ 2147483647 → Q (pos (suc n))) → Q d
  natural Q f = pos-elim (λ d. d ≤ᶻ pos 2147483647 → Q d) (λ n k. f n (leb→le (suc n) 2147483647 k.le)) positive high

  pub denominator-small : Within 2147483647 d
  denominator-small = natural (λ d. Within 2147483647 d) (λ n k. record { small = k })

  pub denominator-read : read d ≡ d
  denominator-read = to_z-of_z {w = w64} (within-fits denominator-small tt)

-- ---- a number and its denominator

module _ (x d : ℤ) (f : SFits w64 x) (h : is_denominator d ≡ true) where
  pub divisible : (0 < of_z w64 d) × SFits w64 (quot_z (read x) (read d))
  divisible =
      natural {d = d} h (λ d. (0 < of_z w64 d) × SFits w64 (quot_z (read x) (read d)))
      (λ n k. (omega arith, quot_fits (suc n) x f.sfits (omega arith)))

  pub quotient-read : read (quot_z (read x) (read d)) ≡ quot_z x d
  quotient-read =
      natural {d = d} h (λ d. read (quot_z (read x) (read d)) ≡ quot_z x d) (λ n k. quot_is (suc n) x f.sfits (omega arith))

  remainder-small : Within 2147483647 (rem_z x d)
  remainder-small = natural {d = d} h (λ d. Within 2147483647 (rem_z x d)) (λ n k. go n k x)
    where
      go : (n : ℕ) → suc n ≤ 2147483647 → (x : ℤ) → Within 2147483647 (rem_z x (pos (suc n)))
      go n k (pos a) = record { small = omega (arith, mod-lt a {m = suc n} (omega arith)) }
      go n k (negsuc a) = record { small = rw nat_abs_neg (below (suc a)) }
        where
          below : (a : ℕ) → a % suc n ≤ 2147483647
          below a = omega (arith, mod-lt a {m = suc n} (omega arith))

  remainder-read : read (rem_z (read x) (read d)) ≡ rem_z x d
  remainder-read =
      ap read (ap₂ rem_z (to_z-of_z {w = w64} f) (denominator-read h)) ∙ to_z-of_z {w = w64} (within-fits remainder-small tt)

  -- its remainder times another denominator
  module _ (d' : ℤ) (h' : is_denominator d' ≡ true) where
    factors : read (rem_z (read x) (read d)) *ℤ read d' ≡ rem_z x d *ℤ d'
    factors = ap₂ (λ y z. y *ℤ z) remainder-read (denominator-read h')

    pub product-fits : SFits w64 (read (rem_z (read x) (read d)) *ℤ read d')
    product-fits =
        subst (λ z. SFits w64 z) (sym factors) (within-fits (within-mul remainder-small (denominator-small h')) tt)

    pub product-read : read (read (rem_z (read x) (read d)) *ℤ read d') ≡ rem_z x d *ℤ d'
    product-read = to_z-of_z {w = w64} product-fits ∙ factors

-- ---- the three answers

module _ (x d x' d' : ℤ) (f : SFits w64 x) (f' : SFits w64 x') (h : is_denominator d ≡ true) (h' : is_denominator d' ≡ true) where
  abbrev test : ℤ → ℤ → ℤ → ℤ → Bool
  test x d x' d' = lt_z (read (quot_z (read x) (read d))) (read (quot_z (read x') (read d')))

  quotients : test x d x' d' ≡ lt_z (quot_z x d) (quot_z x' d')
  quotients = ap₂ lt_z (quotient-read x d f h) (quotient-read x' d' f' h')

  quotients-back : test x' d' x d ≡ lt_z (quot_z x' d') (quot_z x d)
  quotients-back = ap₂ lt_z (quotient-read x' d' f' h') (quotient-read x d f h)

  pub first-smaller : test x d x' d' ≡ true → true ≡ less x d x' d'
  first-smaller e = less-by-quotient x d x' d' (positive h) (positive h') (lt_z_yes (subst T (sym (sym quotients ∙ e)) tt))

  pub second-smaller : test x' d' x d ≡ true → false ≡ less x d x' d'
  second-smaller e = not-less-by-quotient x d x' d' (positive h) (positive h') (lt_z_yes (subst T (sym (sym quotients-back ∙ e)) tt))

  not_yes : {s : Bool} → s ≡ false → T (not s)
  not_yes e = subst (λ b. T (not b)) (sym e) tt

  pub by-remainders :
      test x d x' d' ≡ false →
      test x' d' x d ≡ false →
      lt_z (read (read (rem_z (read x) (read d)) *ℤ read d')) (read (read (rem_z (read x') (read d')) *ℤ read d)) ≡ less x d x' d'
  by-remainders e e' =
      ap₂ lt_z (product-read x d f h d' h') (product-read x' d' f' h' d h)
      ∙ less-by-remainder x d x' d' (positive h) (positive h')
      (antisymmetric (lt_z_no (not_yes (sym quotients-back ∙ e'))) (lt_z_no (not_yes (sym quotients ∙ e))))
