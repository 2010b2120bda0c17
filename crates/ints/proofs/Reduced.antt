-- Triples x, y, d with d > 0, which stand for the point x/d, y/d, and pairs, which stand for a direction, in lowest terms: divided by
-- their greatest common divisor. The quotients are exact and no larger, their greatest common divisor is 1, and two triples (pairs) with
-- a common positive multiple have the same quotients: so each point, and each direction, has one reduced triple or pair. There is no need
-- of Bézout: k·gcd3 x y d = gcd3 (k·x) (k·y) (k·d) is enough. That a quotient is no larger is `quot-no-larger`, that a reduced triple
-- stays as it is `quot-reduced` (proofs/Divides.antt): neither asks what the divisor is.
use mathlib.Core.Path.{◌≡◌, refl, sym, ◌∙◌, ap}
use Prim.Native.Nat.{ℕ, zero, suc, ◌+◌, ◌*◌, ◌<◌, ◌∣◌}
use native.Mathlib.Nat.{eq_of_mul-eq-mul_left}
use native.Mathlib.Omega.{arith}
use lib.IntN.{ℤ, pos, nat_abs, ◌+ℤ◌, ◌*ℤ◌, *ℤ_comm}
use lib.Signed.{quot_z}
use Rattle.ints.specs.Order.{◌≤ᶻ◌, ◌<ᶻ◌}
use Rattle.ints.specs.Gcd.{gcd, gcd2, gcd3, Reduced, Reduced2}
use Rattle.ints.proofs.Laws.{one-mul}
use Rattle.ints.proofs.Ring.{ring, ◌⊕◌, ◌⊗◌, ◌≐◌}
use Rattle.ints.proofs.Order.{pos_nat, nn-elim}
use Rattle.ints.proofs.Divides.{pos_of_lt, quot_exact, quot_pos, quot_reduced, quot_same}
use Rattle.ints.proofs.Gcd.{gcd-zero, gcd-left, gcd-right, gcd2-mul, gcd3-mul, gcd3-first, gcd3-second, gcd3-third, gcd3-pos}

-- g·a = g·1
one_left : (g a : ℕ) → 0 < g → g * a ≡ g → a ≡ 1
one_left g a h e = eq_of_mul-eq-mul_left g h a 1 (e ∙ omega arith)

-- ---- triples

pub record SameTriple (x y d x' y' d' : ℤ) : Type 0 where
  pub first : x ≡ x'
  pub second : y ≡ y'
  pub third : d ≡ d'

gcd3-same : {x y d x' y' d' : ℤ} → SameTriple x y d x' y' d' → gcd3 x y d ≡ gcd3 x' y' d'
gcd3-same e = λ i. gcd3 (e.first i) (e.second i) (e.third i)

module _ (x y d : ℤ) where
  -- exact, for each coordinate
  pub reduce-first : pos (gcd3 x y d) *ℤ quot_z x (pos (gcd3 x y d)) ≡ x
  reduce-first = quot_exact x (gcd3 x y d) (gcd3-first x y d)

  pub reduce-second : pos (gcd3 x y d) *ℤ quot_z y (pos (gcd3 x y d)) ≡ y
  reduce-second = quot_exact y (gcd3 x y d) (gcd3-second x y d)

  pub reduce-third : pos (gcd3 x y d) *ℤ quot_z d (pos (gcd3 x y d)) ≡ d
  reduce-third = quot_exact d (gcd3 x y d) (gcd3-third x y d)

  module _ (h : pos 0 <ᶻ d) where
    pub reduce-pos : pos 0 <ᶻ quot_z d (pos (gcd3 x y d))
    reduce-pos = quot_pos h (gcd3 x y d) (gcd3-pos x y d h) (gcd3-third x y d)

    pub reduce_reduced : Reduced (quot_z x (pos (gcd3 x y d))) (quot_z y (pos (gcd3 x y d))) (quot_z d (pos (gcd3 x y d)))
    reduce_reduced =
        one_left (gcd3 x y d) _ (gcd3-pos x y d h)
        (sym (gcd3-mul (pos (gcd3 x y d)) (quot_z x (pos (gcd3 x y d))) (quot_z y (pos (gcd3 x y d))) (quot_z d (pos (gcd3 x y d))))
        ∙ gcd3-same (record { first = reduce-first; second = reduce-second; third = reduce-third }))

    -- p·(x, y, d) = q·(x', y', d') have the same quotients
    pub multiples_agree :
        (x' y' d' p q : ℤ) →
        pos 0 <ᶻ p →
        pos 0 <ᶻ q →
        SameTriple (p *ℤ x) (p *ℤ y) (p *ℤ d) (q *ℤ x') (q *ℤ y') (q *ℤ d') →
        SameTriple (quot_z x (pos (gcd3 x y d))) (quot_z y (pos (gcd3 x y d))) (quot_z d (pos (gcd3 x y d))) (quot_z x' (pos (gcd3 x' y' d')))
        (quot_z y' (pos (gcd3 x' y' d'))) (quot_z d' (pos (gcd3 x' y' d')))
    multiples_agree x' y' d' p q hp hq e =
        record {
          first = same x x' (gcd3-first x y d) (gcd3-first x' y' d') e.first;
          second = same y y' (gcd3-second x y d) (gcd3-second x' y' d') e.second;
          third = same d d' (gcd3-third x y d) (gcd3-third x' y' d') e.third;
        }
      where
        same :
            (z z' : ℤ) →
            gcd3 x y d ∣ nat_abs z →
            gcd3 x' y' d' ∣ nat_abs z' →
            p *ℤ z ≡ q *ℤ z' →
            quot_z z (pos (gcd3 x y d)) ≡ quot_z z' (pos (gcd3 x' y' d'))
        same z z' =
            quot_same p q z z' (gcd3 x y d) (gcd3 x' y' d') hp hq (gcd3-pos x y d h)
            (sym (gcd3-mul p x y d) ∙ gcd3-same e ∙ gcd3-mul q x' y' d')

    -- a positive factor changes nothing
    pub reduce-scale :
        (k : ℤ) →
        pos 0 <ᶻ k →
        SameTriple (quot_z x (pos (gcd3 x y d))) (quot_z y (pos (gcd3 x y d))) (quot_z d (pos (gcd3 x y d)))
        (quot_z (k *ℤ x) (pos (gcd3 (k *ℤ x) (k *ℤ y) (k *ℤ d)))) (quot_z (k *ℤ y) (pos (gcd3 (k *ℤ x) (k *ℤ y) (k *ℤ d))))
        (quot_z (k *ℤ d) (pos (gcd3 (k *ℤ x) (k *ℤ y) (k *ℤ d))))
    reduce-scale k hk =
        multiples_agree (k *ℤ x) (k *ℤ y) (k *ℤ d) k (pos 1) hk (pos_nat 0)
        (record { first = sym (one-mul (k *ℤ x)); second = sym (one-mul (k *ℤ y)); third = sym (one-mul (k *ℤ d)) })

    -- x/d = x'/d' and y/d = y'/d' have the same quotients
    module _ (x' y' d' : ℤ) (h' : pos 0 <ᶻ d') (ex : x *ℤ d' ≡ x' *ℤ d) (ey : y *ℤ d' ≡ y' *ℤ d) where
      pub reduce-same :
          SameTriple (quot_z x (pos (gcd3 x y d))) (quot_z y (pos (gcd3 x y d))) (quot_z d (pos (gcd3 x y d)))
          (quot_z x' (pos (gcd3 x' y' d'))) (quot_z y' (pos (gcd3 x' y' d'))) (quot_z d' (pos (gcd3 x' y' d')))
      reduce-same =
          multiples_agree x' y' d' d' d h' h
          (record { first = *ℤ_comm d' x ∙ ex ∙ *ℤ_comm x' d; second = *ℤ_comm d' y ∙ ey ∙ *ℤ_comm y' d; third = *ℤ_comm d' d })

      -- so one point has one reduced triple
      pub reduced-unique : Reduced x y d → Reduced x' y' d' → SameTriple x y d x' y' d'
      reduced-unique r r' =
          record {
            first = sym (quot_reduced x r) ∙ reduce-same.first ∙ quot_reduced x' r';
            second = sym (quot_reduced y r) ∙ reduce-same.second ∙ quot_reduced y' r';
            third = sym (quot_reduced d r) ∙ reduce-same.third ∙ quot_reduced d' r';
          }

-- ---- pairs

pub record SamePair (x y x' y' : ℤ) : Type 0 where
  pub first : x ≡ x'
  pub second : y ≡ y'

gcd2-same : {x y x' y' : ℤ} → SamePair x y x' y' → gcd2 x y ≡ gcd2 x' y'
gcd2-same e = λ i. gcd2 (e.first i) (e.second i)

-- a pair that is not 0 has a positive divisor: `gcd2-pos` of proofs/Gcd.antt
module _ (x y : ℤ) where
  pub reduce2_first : pos (gcd2 x y) *ℤ quot_z x (pos (gcd2 x y)) ≡ x
  reduce2_first = quot_exact x (gcd2 x y) (gcd-left (nat_abs x) (nat_abs y))

  pub reduce2_second : pos (gcd2 x y) *ℤ quot_z y (pos (gcd2 x y)) ≡ y
  reduce2_second = quot_exact y (gcd2 x y) (gcd-right (nat_abs x) (nat_abs y))

  module _ (h : 0 < gcd2 x y) where
    pub reduce2_reduced : Reduced2 (quot_z x (pos (gcd2 x y))) (quot_z y (pos (gcd2 x y)))
    reduce2_reduced =
        one_left (gcd2 x y) _ h
        (sym (gcd2-mul (pos (gcd2 x y)) (quot_z x (pos (gcd2 x y))) (quot_z y (pos (gcd2 x y))))
        ∙ gcd2-same (record { first = reduce2_first; second = reduce2_second }))

    pub multiples2_agree :
        (x' y' p q : ℤ) →
        pos 0 <ᶻ p →
        pos 0 <ᶻ q →
        SamePair (p *ℤ x) (p *ℤ y) (q *ℤ x') (q *ℤ y') →
        SamePair (quot_z x (pos (gcd2 x y))) (quot_z y (pos (gcd2 x y))) (quot_z x' (pos (gcd2 x' y'))) (quot_z y' (pos (gcd2 x' y')))
    multiples2_agree x' y' p q hp hq e =
        record {
          first = same x x' (gcd-left (nat_abs x) (nat_abs y)) (gcd-left (nat_abs x') (nat_abs y')) e.first;
          second = same y y' (gcd-right (nat_abs x) (nat_abs y)) (gcd-right (nat_abs x') (nat_abs y')) e.second;
        }
      where
        same :
            (z z' : ℤ) →
            gcd2 x y ∣ nat_abs z →
            gcd2 x' y' ∣ nat_abs z' →
            p *ℤ z ≡ q *ℤ z' →
            quot_z z (pos (gcd2 x y)) ≡ quot_z z' (pos (gcd2 x' y'))
        same z z' = quot_same p q z z' (gcd2 x y) (gcd2 x' y') hp hq h (sym (gcd2-mul p x y) ∙ gcd2-same e ∙ gcd2-mul q x' y')

    pub reduce2_scale :
        (k : ℤ) →
        pos 0 <ᶻ k →
        SamePair (quot_z x (pos (gcd2 x y))) (quot_z y (pos (gcd2 x y))) (quot_z (k *ℤ x) (pos (gcd2 (k *ℤ x) (k *ℤ y))))
        (quot_z (k *ℤ y) (pos (gcd2 (k *ℤ x) (k *ℤ y))))
    reduce2_scale k hk =
        multiples2_agree (k *ℤ x) (k *ℤ y) k (pos 1) hk (pos_nat 0)
        (record { first = sym (one-mul (k *ℤ x)); second = sym (one-mul (k *ℤ y)) })

-- directions in the quadrant: x/y = x'/y', of numbers that are not negative, not both 0
sum-pos : {x y : ℤ} → pos 0 ≤ᶻ x → pos 0 ≤ᶻ y → 0 < gcd2 x y → pos 0 <ᶻ x +ℤ y
sum-pos {x} {y} hx hy =
    nn-elim (λ x. 0 < gcd2 x y → pos 0 <ᶻ x +ℤ y) (λ m. nn-elim (λ y. 0 < gcd2 (pos m) y → pos 0 <ᶻ pos m +ℤ y) (natural m) hy) hx
  where
    natural : (m n : ℕ) → 0 < gcd m n → pos 0 <ᶻ pos (m + n)
    natural zero zero h = absurd (omega (arith, rw gcd-zero at h))
    natural zero (suc n) h = pos_of_lt (omega arith)
    natural (suc m) n h = pos_of_lt (omega arith)

module _ (x y x' y' : ℤ) (hx : pos 0 ≤ᶻ x) (hy : pos 0 ≤ᶻ y) (hx' : pos 0 ≤ᶻ x') (hy' : pos 0 ≤ᶻ y') (e : x *ℤ y' ≡ x' *ℤ y) where
  pub reduce2_same :
      0 < gcd2 x y →
      0 < gcd2 x' y' →
      SamePair (quot_z x (pos (gcd2 x y))) (quot_z y (pos (gcd2 x y))) (quot_z x' (pos (gcd2 x' y'))) (quot_z y' (pos (gcd2 x' y')))
  reduce2_same h h' =
      multiples2_agree x y h x' y' (x' +ℤ y') (x +ℤ y) (sum-pos hx' hy' h') (sum-pos hx hy h)
      (record {
        first =
            ring 3 (λ x x' y'. (x' ⊕ y') ⊗ x ≐ x' ⊗ x ⊕ x ⊗ y') refl x x' y'
            ∙ ap (λ t. x' *ℤ x +ℤ t) e
            ∙ ring 3 (λ x y x'. x' ⊗ x ⊕ x' ⊗ y ≐ (x ⊕ y) ⊗ x') refl x y x';
        second =
            ring 3 (λ y x' y'. (x' ⊕ y') ⊗ y ≐ x' ⊗ y ⊕ y' ⊗ y) refl y x' y'
            ∙ ap (λ t. t +ℤ y' *ℤ y) (sym e)
            ∙ ring 3 (λ x y y'. x ⊗ y' ⊕ y' ⊗ y ≐ (x ⊕ y) ⊗ y') refl x y y';
      })

  -- so one direction has one reduced pair
  pub reduced2_unique : Reduced2 x y → Reduced2 x' y' → SamePair x y x' y'
  reduced2_unique r r' =
      let s = reduce2_same (one-pos r) (one-pos r') in
      record {
        first = sym (quot_reduced x r) ∙ s.first ∙ quot_reduced x' r';
        second = sym (quot_reduced y r) ∙ s.second ∙ quot_reduced y' r';
      }
    where
      one-pos : {g : ℕ} → g ≡ 1 → 0 < g
      one-pos r = omega arith
