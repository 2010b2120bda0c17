-- An integer z divided by a natural number g that divides its magnitude: `quot_z z (pos g)` is exact, grows no larger, and a factor
-- cancels. These are the facts of one coordinate; proofs/Reduced.antt uses each of them for every coordinate. Divisibility of natural
-- numbers, `◌∣◌`, is the library's.
use mathlib.Core.Path.{◌≡◌, refl, sym, ◌∙◌, ap, subst}
use Prim.Native.Nat.{ℕ, zero, suc, ◌*◌, ◌/◌, ◌≤◌, ◌<◌, ◌∣◌}
use native.Mathlib.Nat.{mul-div_cancel', dvd-mul_right, one-dvd, div-le_self}
use native.Mathlib.Omega.{arith}
use lib.IntN.{ℤ, pos, negsuc, nat_abs, neg_ℤ, ◌*ℤ◌}
use lib.Signed.{quot_z, lt_z_yes}
use lib.Dec.{lt→ltb}
use Rattle.ints.specs.Order.{◌≤ᶻ◌, ◌<ᶻ◌}
use Rattle.ints.proofs.Laws.{mul_neg, mul_assoc, one-mul}
use Rattle.ints.proofs.Order.{mul-cancel, pos-cancel, pos-mul, pos_nn, nn_nat, nn-elim, pos-elim}

-- ---- magnitudes

pub nat_abs_neg : (n : ℕ) → nat_abs (neg_ℤ (pos n)) ≡ n
nat_abs_neg zero = refl
nat_abs_neg (suc n) = refl

pub nat_abs_mul : (a b : ℤ) → nat_abs (a *ℤ b) ≡ nat_abs a * nat_abs b
nat_abs_mul (pos a) (pos b) = refl
nat_abs_mul (pos a) (negsuc b) = nat_abs_neg (a * suc b)
nat_abs_mul (negsuc a) (pos b) = nat_abs_neg (suc a * b)
nat_abs_mul (negsuc a) (negsuc b) = refl

pub nn_nat_abs : {z : ℤ} → pos 0 ≤ᶻ z → pos (nat_abs z) ≡ z
nn_nat_abs h = nn-elim (λ z. pos (nat_abs z) ≡ z) (λ n. refl) h

pub nat_abs-nought : (z : ℤ) → nat_abs z ≡ 0 → z ≡ pos 0
nat_abs-nought (pos n) e = ap pos e
nat_abs-nought (negsuc n) e = absurd (omega arith)

pub nat_abs-pos : {z : ℤ} → pos 0 <ᶻ z → 0 < nat_abs z
nat_abs-pos h = pos-elim (λ z. 0 < nat_abs z) (λ n. omega arith) h

pub pos_of_lt : {n : ℕ} → 0 < n → pos 0 <ᶻ pos n
pos_of_lt {n} h = lt_z_yes (lt→ltb 0 n h)

-- ---- exact quotients

pub nat_abs_quot : (z d : ℤ) → nat_abs (quot_z z d) ≡ nat_abs z / nat_abs d
nat_abs_quot (pos a) (pos b) = refl
nat_abs_quot (pos a) (negsuc b) = nat_abs_neg (a / suc b)
nat_abs_quot (negsuc a) (pos b) = nat_abs_neg (suc a / b)
nat_abs_quot (negsuc a) (negsuc b) = refl

-- whatever the divisor is
pub quot_no_larger : (z d : ℤ) → nat_abs (quot_z z d) ≤ nat_abs z
quot_no_larger z d = rw nat_abs_quot (div-le_self (nat_abs z) (nat_abs d))

pub quot_nn : {z : ℤ} → pos 0 ≤ᶻ z → (g : ℕ) → pos 0 ≤ᶻ quot_z z (pos g)
quot_nn h g = nn-elim (λ z. pos 0 ≤ᶻ quot_z z (pos g)) (λ n. nn_nat (n / g)) h

pub quot_exact : (z : ℤ) (g : ℕ) → g ∣ nat_abs z → pos g *ℤ quot_z z (pos g) ≡ z
quot_exact (pos a) g h = ap pos (mul-div_cancel' g h)
quot_exact (negsuc a) g h = mul_neg (pos g) (pos (suc a / g)) ∙ ap (λ (n : ℕ). neg_ℤ (pos n)) (mul-div_cancel' g h)

-- a positive number has a positive quotient
pub quot_pos : {z : ℤ} → pos 0 <ᶻ z → (g : ℕ) → 0 < g → g ∣ nat_abs z → pos 0 <ᶻ quot_z z (pos g)
quot_pos {z} h g hg k = pos-cancel (pos_of_lt hg) (subst (λ x. pos 0 <ᶻ x) (sym (quot_exact z g k)) h)

pub quot_mul : (g : ℕ) (z : ℤ) → 0 < g → quot_z (pos g *ℤ z) (pos g) ≡ z
quot_mul g z h = mul-cancel (pos_of_lt h) (quot_exact (pos g *ℤ z) g (rw nat_abs_mul (dvd-mul_right g (nat_abs z))))

pub quot_one : (z : ℤ) → quot_z z (pos 1) ≡ z
quot_one z = sym (one-mul (quot_z z (pos 1))) ∙ quot_exact z 1 (one-dvd (nat_abs z))

pub quot_reduced : (z : ℤ) {g : ℕ} → g ≡ 1 → quot_z z (pos g) ≡ z
quot_reduced z e = rw e (quot_one z)

-- p·z = q·z' are divided by p·g = q·g': then z by g is z' by g'
pub quot_same :
    (p q z z' : ℤ) (g g' : ℕ) →
    pos 0 <ᶻ p →
    pos 0 <ᶻ q →
    0 < g →
    nat_abs p * g ≡ nat_abs q * g' →
    g ∣ nat_abs z →
    g' ∣ nat_abs z' →
    p *ℤ z ≡ q *ℤ z' →
    quot_z z (pos g) ≡ quot_z z' (pos g')
quot_same p q z z' g g' hp hq hg eg h h' ez =
    mul-cancel (pos-mul hp (pos_of_lt hg))
    (whole p z g h ∙ ez ∙ sym (whole q z' g' h')
    ∙ ap (λ t. t *ℤ quot_z z' (pos g')) (factor q g' hq ∙ ap pos (sym eg) ∙ sym (factor p g hp)))
  where
    whole : (k x : ℤ) (c : ℕ) → c ∣ nat_abs x → k *ℤ pos c *ℤ quot_z x (pos c) ≡ k *ℤ x
    whole k x c i = mul_assoc k (pos c) (quot_z x (pos c)) ∙ ap (λ t. k *ℤ t) (quot_exact x c i)

    factor : (k : ℤ) (c : ℕ) → pos 0 <ᶻ k → k *ℤ pos c ≡ pos (nat_abs k * c)
    factor k c i = ap (λ t. t *ℤ pos c) (sym (nn_nat_abs (pos_nn i)))
