-- The order of ℤ, through one idea: a ≤ b exactly when b − a is not negative. Signs of sums and products follow, cancellation of a positive
-- factor, antisymmetry, and the three-way split on a sign.
use mathlib.Core.Path.{◌≡◌, refl, sym, ◌∙◌, ap, subst}
use mathlib.Core.Logic.{◌⊎◌, inl, inr}
use Prim.Native.Nat.{ℕ, zero, suc, ◌+◌, ◌*◌, ◌-◌, ◌≤◌, ◌<◌}
use native.Mathlib.Nat.{mul-pos}
use native.Mathlib.Omega.{arith}
use mathlib.Core.Bool.{not}
use lib.Dec.{T, T_not, leb→le, le→leb, ltb→lt, lt→ltb}
use lib.IntN.{ℤ, pos, negsuc, suc_ℤ, neg_ℤ, ◌+ℤ◌, ◌-ℤ◌, ◌*ℤ◌, +ℤ_idl, +ℤ_idr, +ℤ_comm, +ℤ-suc_ℤ, +ℤ_one, +ℤ_invr, *ℤ-zero}
use lib.Signed.{le_z, le_z_yes, lt_z_yes, ≤ℤ_refl, <ℤ-≤ℤ_trans, clash_ℤ}
use Rattle.ints.specs.Order.{◌≤ᶻ◌, ◌<ᶻ◌}
use Rattle.ints.proofs.Laws.{mul_neg}
use Rattle.ints.proofs.Ring.{ring, ◌⊕◌, ◌⊖◌, ◌⊗◌, ⊝◌, ◌≐◌, con}

-- ---- numbers that are not negative, or positive, are natural numbers

pub nn_nat : (n : ℕ) → pos 0 ≤ᶻ pos n
nn_nat n = le_z_yes (le→leb 0 n (omega arith))

pub pos_nat : (n : ℕ) → pos 0 <ᶻ pos (suc n)
pos_nat n = lt_z_yes (lt→ltb 0 (suc n) (omega arith))

-- to show something of every number that is not negative, show it of every natural number
pub nn-elim {ℓ} : (P : ℤ → Type ℓ) → ((n : ℕ) → P (pos n)) → {z : ℤ} → pos 0 ≤ᶻ z → P z
nn-elim P f {z = pos n} h = f n
nn-elim P f {z = negsuc n} h = absurd h.le

pub pos-elim {ℓ} : (P : ℤ → Type ℓ) → ((n : ℕ) → P (pos (suc n))) → {z : ℤ} → pos 0 <ᶻ z → P z
pos-elim P f {z = pos zero} h = absurd h.lt
pos-elim P f {z = pos (suc n)} h = f n
pos-elim P f {z = negsuc n} h = absurd h.lt

-- ---- signs of sums and products

pub nn_add : {a b : ℤ} → pos 0 ≤ᶻ a → pos 0 ≤ᶻ b → pos 0 ≤ᶻ a +ℤ b
nn_add {a} {b} h k =
    nn-elim (λ x. pos 0 ≤ᶻ x +ℤ b) (λ m. nn-elim (λ y. pos 0 ≤ᶻ pos m +ℤ y) (λ n. nn_nat (m + n)) k) h

pub nn_mul : {a b : ℤ} → pos 0 ≤ᶻ a → pos 0 ≤ᶻ b → pos 0 ≤ᶻ a *ℤ b
nn_mul {a} {b} h k =
    nn-elim (λ x. pos 0 ≤ᶻ x *ℤ b) (λ m. nn-elim (λ y. pos 0 ≤ᶻ pos m *ℤ y) (λ n. nn_nat (m * n)) k) h

pub pos_nn : {a : ℤ} → pos 0 <ᶻ a → pos 0 ≤ᶻ a
pos_nn h = pos-elim (λ x. pos 0 ≤ᶻ x) (λ n. nn_nat (suc n)) h

positive : (n : ℕ) → 0 < n → pos 0 <ᶻ pos n
positive n h = lt_z_yes (lt→ltb 0 n h)

pub pos-add_nn : {a b : ℤ} → pos 0 <ᶻ a → pos 0 ≤ᶻ b → pos 0 <ᶻ a +ℤ b
pos-add_nn {a} {b} h k =
    pos-elim (λ x. pos 0 <ᶻ x +ℤ b) (λ m. nn-elim (λ y. pos 0 <ᶻ pos (suc m) +ℤ y) (λ n. positive (suc m + n) (omega arith)) k) h

pub nn_add_pos : {a b : ℤ} → pos 0 ≤ᶻ a → pos 0 <ᶻ b → pos 0 <ᶻ a +ℤ b
nn_add_pos {a} {b} h k = subst (λ z. pos 0 <ᶻ z) (+ℤ_comm b a) (pos-add_nn k h)

pub pos-mul : {a b : ℤ} → pos 0 <ᶻ a → pos 0 <ᶻ b → pos 0 <ᶻ a *ℤ b
pos-mul {a} {b} h k =
    pos-elim (λ x. pos 0 <ᶻ x *ℤ b)
    (λ m. pos-elim (λ y. pos 0 <ᶻ pos (suc m) *ℤ y) (λ n. positive (suc m * suc n) (mul-pos (omega arith) (omega arith))) k) h

-- a product that is known to be 0 has any sign that is wanted
pub nn_zero : {a : ℤ} → a ≡ pos 0 → pos 0 ≤ᶻ a
nn_zero e = subst (λ z. pos 0 ≤ᶻ z) (sym e) (nn_nat 0)

-- ---- a ≤ b exactly when b − a is not negative, a < b exactly when it is positive

le_suc : (a b : ℤ) → a ≤ᶻ b → a ≤ᶻ suc_ℤ b
le_suc (pos a) (pos b) h = le_z_yes (le→leb a (suc b) (up (leb→le a b h.le)))
  where
    up : a ≤ b → a ≤ suc b
    up k = omega arith
le_suc (pos a) (negsuc b) h = absurd h.le
le_suc (negsuc a) (pos b) h = le_z_yes tt
le_suc (negsuc a) (negsuc zero) h = le_z_yes tt
le_suc (negsuc a) (negsuc (suc b)) h = le_z_yes (le→leb b a (down (leb→le (suc b) a h.le)))
  where
    down : suc b ≤ a → b ≤ a
    down k = omega arith

le_add : (a : ℤ) (n : ℕ) → a ≤ᶻ a +ℤ pos n
le_add a zero = subst (λ z. a ≤ᶻ z) (sym (+ℤ_idr a)) (≤ℤ_refl a)
le_add a (suc n) = subst (λ z. a ≤ᶻ z) (sym (+ℤ-suc_ℤ a (pos n))) (le_suc a (a +ℤ pos n) (le_add a n))

gap : (a b : ℤ) → a ≤ᶻ b → (n : ℕ) × (b ≡ a +ℤ pos n)
gap (pos a) (pos b) h = (b - a, ap pos (back (leb→le a b h.le)))
  where
    back : a ≤ b → b ≡ a + (b - a)
    back k = omega arith
gap (pos a) (negsuc b) h = absurd h.le
gap (negsuc a) (pos b) h = (suc a + b, ring 2 (λ x y. y ≐ ⊝ x ⊕ (x ⊕ y)) refl (pos (suc a)) (pos b))
gap (negsuc a) (negsuc b) h = (
  a - b,
  ring 2 (λ x y. ⊝ x ≐ ⊝ (x ⊕ y) ⊕ y) refl (pos (suc b)) (pos (a - b))
      ∙ ap (λ (k : ℕ). neg_ℤ (pos k) +ℤ pos (a - b)) (back (leb→le b a h.le)),
)
  where
    back : b ≤ a → suc b + (a - b) ≡ suc a
    back k = omega arith

pub sub_nn : {a b : ℤ} → a ≤ᶻ b → pos 0 ≤ᶻ b -ℤ a
sub_nn {a} {b} h = subst (λ z. pos 0 ≤ᶻ z) (sym (difference (gap a b h))) (nn_nat (gap a b h).0)
  where
    difference : (g : (n : ℕ) × (b ≡ a +ℤ pos n)) → b -ℤ a ≡ pos g.0
    difference g = ap (λ z. z -ℤ a) g.1 ∙ ring 2 (λ x y. x ⊕ y ⊖ x ≐ y) refl a (pos g.0)

pub nn_sub : {a b : ℤ} → pos 0 ≤ᶻ b -ℤ a → a ≤ᶻ b
nn_sub {a} {b} h = subst (λ z. a ≤ᶻ z) (ring 2 (λ x y. x ⊕ (y ⊖ x) ≐ y) refl a b) (nn-elim (λ z. a ≤ᶻ a +ℤ z) (le_add a) h)

-- a < b exactly when a + 1 ≤ b
lt_suc : (a b : ℤ) → a <ᶻ b → suc_ℤ a ≤ᶻ b
lt_suc (pos a) (pos b) h = le_z_yes (le→leb (suc a) b (ltb→lt a b h.lt))
lt_suc (pos a) (negsuc b) h = absurd h.lt
lt_suc (negsuc zero) (pos b) h = nn_nat b
lt_suc (negsuc (suc a)) (pos b) h = le_z_yes tt
lt_suc (negsuc zero) (negsuc b) h = absurd (not-below (ltb→lt b zero h.lt))
  where
    not-below : b < zero → ⊥
    not-below k = omega arith
lt_suc (negsuc (suc a)) (negsuc b) h = le_z_yes (le→leb b a (down (ltb→lt b (suc a) h.lt)))
  where
    down : b < suc a → b ≤ a
    down k = omega arith

below_suc : (a : ℤ) → a <ᶻ suc_ℤ a
below_suc (pos a) = lt_z_yes (lt→ltb a (suc a) (omega arith))
below_suc (negsuc zero) = lt_z_yes tt
below_suc (negsuc (suc a)) = lt_z_yes (lt→ltb a (suc a) (omega arith))

pub sub-pos : {a b : ℤ} → a <ᶻ b → pos 0 <ᶻ b -ℤ a
sub-pos {a} {b} h =
    subst (λ z. pos 0 <ᶻ z) (ap (λ z. b -ℤ z +ℤ pos 1) (sym (+ℤ_one a))
    ∙ ring 2 (λ x y. y ⊖ (x ⊕ con (pos 1)) ⊕ con (pos 1) ≐ y ⊖ x) refl a b)
    (nn_add_pos (sub_nn (lt_suc a b h)) (pos_nat 0))

pub pos-sub : {a b : ℤ} → pos 0 <ᶻ b -ℤ a → a <ᶻ b
pos-sub {a} {b} h =
    <ℤ-≤ℤ_trans (below_suc a) (nn_sub (subst (λ z. pos 0 ≤ᶻ z) equal (less h)))
  where
    less : pos 0 <ᶻ b -ℤ a → pos 0 ≤ᶻ b -ℤ a -ℤ pos 1
    less k = pos-elim (λ z. pos 0 ≤ᶻ z -ℤ pos 1) (λ n. sub_nn {a = pos 1} {b = pos (suc n)} (le_z_yes (le→leb 1 (suc n) (omega arith)))) k

    equal : b -ℤ a -ℤ pos 1 ≡ b -ℤ suc_ℤ a
    equal = ring 2 (λ x y. y ⊖ x ⊖ con (pos 1) ≐ y ⊖ (x ⊕ con (pos 1))) refl a b ∙ ap (λ z. b -ℤ z) (+ℤ_one a)

-- ---- the laws of an order

pub le_trans : {a b c : ℤ} → a ≤ᶻ b → b ≤ᶻ c → a ≤ᶻ c
le_trans {a} {b} {c} h k =
    nn_sub (subst (λ z. pos 0 ≤ᶻ z) (ring 3 (λ x y z. y ⊖ x ⊕ (z ⊖ y) ≐ z ⊖ x) refl a b c) (nn_add (sub_nn h) (sub_nn k)))

pub lt_le : {a b : ℤ} → a <ᶻ b → a ≤ᶻ b
lt_le h = nn_sub (pos_nn (sub-pos h))

pub le_lt_trans : {a b c : ℤ} → a ≤ᶻ b → b <ᶻ c → a <ᶻ c
le_lt_trans {a} {b} {c} h k =
    pos-sub (subst (λ z. pos 0 <ᶻ z) (ring 3 (λ x y z. y ⊖ x ⊕ (z ⊖ y) ≐ z ⊖ x) refl a b c) (nn_add_pos (sub_nn h) (sub-pos k)))

pub le_of_eq : {a b : ℤ} → a ≡ b → a ≤ᶻ b
le_of_eq {a} {b} e = subst (λ z. a ≤ᶻ z) e (≤ℤ_refl a)

pub antisymmetric : {a b : ℤ} → a ≤ᶻ b → b ≤ᶻ a → a ≡ b
antisymmetric {a} {b} h k = go (gap a b h)
  where
    go : (g : (n : ℕ) × (b ≡ a +ℤ pos n)) → a ≡ b
    go (zero, e) = sym (e ∙ +ℤ_idr a)
    go (suc n, e) =
        clash_ℤ (pos-sub (subst (λ z. pos 0 <ᶻ z) (sym (ap (λ z. z -ℤ a) e ∙ ring 2 (λ x y. x ⊕ y ⊖ x ≐ y) refl a (pos (suc n))))
        (pos_nat n))) k

-- ---- a number's sign, and the comparison of two

pub data Sign (z : ℤ) : Type 0 where
  minus : z <ᶻ pos 0 → Sign z
  nought : z ≡ pos 0 → Sign z
  plus : pos 0 <ᶻ z → Sign z

pub sign : (z : ℤ) → Sign z
sign (pos zero) = nought refl
sign (pos (suc n)) = plus (pos_nat n)
sign (negsuc n) = minus (lt_z_yes tt)

pub le_or_lt : (a b : ℤ) → (a ≤ᶻ b) ⊎ (b <ᶻ a)
le_or_lt a b = go (sign (b -ℤ a))
  where
    go : Sign (b -ℤ a) → (a ≤ᶻ b) ⊎ (b <ᶻ a)
    go (minus h) = inr (pos-sub (subst (λ z. pos 0 <ᶻ z) (ring 2 (λ x y. con (pos 0) ⊖ (y ⊖ x) ≐ x ⊖ y) refl a b) (sub-pos h)))
    go (nought e) = inl (nn_sub (nn_zero e))
    go (plus h) = inl (nn_sub (pos_nn h))

-- what a failed test leaves
pub le_z_no : {a b : ℤ} → T (not (le_z a b)) → b <ᶻ a
le_z_no {a} {b} t = go (le_or_lt a b)
  where
    go : (a ≤ᶻ b) ⊎ (b <ᶻ a) → b <ᶻ a
    go (inl h) = absurd (T_not (le_z a b) t h.le)
    go (inr h) = h

-- ---- a factor of known sign

pub neg_pos : {z : ℤ} → z <ᶻ pos 0 → pos 0 <ᶻ neg_ℤ z
neg_pos {z} h = subst (λ x. pos 0 <ᶻ x) (+ℤ_idl (neg_ℤ z)) (sub-pos h)

pub neg_nn : {z : ℤ} → z ≤ᶻ pos 0 → pos 0 ≤ᶻ neg_ℤ z
neg_nn {z} h = subst (λ x. pos 0 ≤ᶻ x) (+ℤ_idl (neg_ℤ z)) (sub_nn h)

pub pos_neg : {z : ℤ} → pos 0 <ᶻ neg_ℤ z → z <ᶻ pos 0
pos_neg {z} h = pos-sub (subst (λ x. pos 0 <ᶻ x) (sym (+ℤ_idl (neg_ℤ z))) h)

pub nn_neg : {z : ℤ} → pos 0 ≤ᶻ neg_ℤ z → z ≤ᶻ pos 0
nn_neg {z} h = nn_sub (subst (λ x. pos 0 ≤ᶻ x) (sym (+ℤ_idl (neg_ℤ z))) h)

-- a positive factor is cancelled
pub nn_cancel : {k z : ℤ} → pos 0 <ᶻ k → pos 0 ≤ᶻ k *ℤ z → pos 0 ≤ᶻ z
nn_cancel {k} {z} hk h = go (sign z)
  where
    go : Sign z → pos 0 ≤ᶻ z
    go (minus n) = clash_ℤ (pos_neg (subst (λ x. pos 0 <ᶻ x) (mul_neg k z) (pos-mul hk (neg_pos n)))) h
    go (nought e) = nn_zero e
    go (plus p) = pos_nn p

pub pos-cancel : {k z : ℤ} → pos 0 <ᶻ k → pos 0 <ᶻ k *ℤ z → pos 0 <ᶻ z
pos-cancel {k} {z} hk h = go (sign z)
  where
    go : Sign z → pos 0 <ᶻ z
    go (minus n) = clash_ℤ h (nn_neg (subst (λ x. pos 0 ≤ᶻ x) (mul_neg k z) (nn_mul (pos_nn hk) (pos_nn (neg_pos n)))))
    go (nought e) = clash_ℤ h (le_of_eq (ap (λ x. k *ℤ x) e ∙ *ℤ-zero k))
    go (plus p) = p

pub zero-cancel : {k z : ℤ} → pos 0 <ᶻ k → k *ℤ z ≡ pos 0 → z ≡ pos 0
zero-cancel {k} {z} hk e =
    antisymmetric (nn_neg (nn_cancel hk (nn_zero (mul_neg k z ∙ ap neg_ℤ e)))) (nn_cancel hk (nn_zero e))

pub mul-cancel : {k a b : ℤ} → pos 0 <ᶻ k → k *ℤ a ≡ k *ℤ b → a ≡ b
mul-cancel {k} {a} {b} hk e =
    ring 2 (λ x y. x ≐ x ⊖ y ⊕ y) refl a b
    ∙ ap (λ z. z +ℤ b) (zero-cancel hk
    (ring 3 (λ k x y. k ⊗ (x ⊖ y) ≐ k ⊗ x ⊖ k ⊗ y) refl k a b ∙ ap (λ z. z -ℤ k *ℤ b) e ∙ +ℤ_invr (k *ℤ b)))
    ∙ +ℤ_idl b
