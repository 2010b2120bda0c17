-- The greatest common divisor that specs/Gcd.antt computes: Euclid's two equations without fuel, the induction that they give, that gcd m
-- n divides both numbers and is divided by every common divisor, and what follows from that alone. At the end the same for three
-- integers. It rests on the library's divisibility of natural numbers, above all `dvd-mod_iff`.
use mathlib.Core.Path.{◌≡◌, refl, sym, ◌∙◌, ap₂, subst}
use mathlib.Core.Logic.{◌↔◌}
use Prim.Native.Nat.{ℕ, zero, suc, ◌*◌, ◌/◌, ◌%◌, ◌≤◌, ◌<◌, ◌∣◌}
use native.Mathlib.Nat.{mod-lt, dvd-mod_iff, dvd_refl, dvd-zero, dvd_trans, dvd_antisymm, dvd-mul_right, dvd_of_mul-dvd-mul_left}
use native.Mathlib.Nat.{mul-dvd-mul_left, pos_of_dvd_of_pos, eq-zero_of_zero-dvd, le_of_dvd, zero-mul, mul-div_cancel'}
use native.Mathlib.Omega.{arith}
use lib.IntN.{ℤ, pos, nat_abs, ◌*ℤ◌}
use Rattle.ints.specs.Order.{◌<ᶻ◌}
use Rattle.ints.specs.Gcd.{gcd, gcd_by, gcd2, gcd3}
use Rattle.ints.proofs.Divides.{nat_abs_mul, nat_abs-nought, nat_abs-pos}

-- ---- Euclid's equations

falls : (m j : ℕ) → m % suc j < suc j
falls m j = mod-lt m (omega arith)

enough : (k l m n : ℕ) → n < k → n < l → gcd_by k m n ≡ gcd_by l m n
enough zero l m n h i = absurd (omega arith)
enough (suc k) zero m n h i = absurd (omega arith)
enough (suc k) (suc l) m zero h i = refl
enough (suc k) (suc l) m (suc j) h i =
    enough k l (suc j) (m % suc j) (omega (arith, falls m j)) (omega (arith, falls m j))

pub gcd-zero : (m : ℕ) → gcd m 0 ≡ m
unfolding gcd
gcd-zero m = refl

pub gcd-suc : (m j : ℕ) → gcd m (suc j) ≡ gcd (suc j) (m % suc j)
unfolding gcd
gcd-suc m j = enough (suc j) (suc (m % suc j)) (suc j) (m % suc j) (falls m j) (omega arith)

-- as code has it, whose test says that n is not 0
pub gcd-step : (m n : ℕ) → 0 < n → gcd m n ≡ gcd n (m % n)
gcd-step m zero h = absurd (omega arith)
gcd-step m (suc j) h = gcd-suc m j

-- what holds of m and 0, and of m and n if it holds of n and m % n, holds of all
pub euclid {ℓ} : (P : ℕ → ℕ → Type ℓ) → ((m : ℕ) → P m 0) → ((m j : ℕ) → P (suc j) (m % suc j) → P m (suc j)) → (m n : ℕ) → P m n
euclid P base step m n = go (suc n) m n (omega arith)
  where
    go : (k m n : ℕ) → n < k → P m n
    go zero m n h = absurd (omega arith)
    go (suc k) m zero h = base m
    go (suc k) m (suc j) h = step m j (go k (suc j) (m % suc j) (omega (arith, falls m j)))

-- ---- it divides both, and every common divisor divides it

record Common (d m n : ℕ) : Type 0 where
  left : d ∣ m
  right : d ∣ n

gcd_common : (m n : ℕ) → Common (gcd m n) m n
gcd_common = euclid (λ m n. Common (gcd m n) m n) base step
  where
    base : (m : ℕ) → Common (gcd m 0) m 0
    base m = rw gcd-zero (record { left = dvd_refl m; right = dvd-zero m })

    step : (m j : ℕ) → Common (gcd (suc j) (m % suc j)) (suc j) (m % suc j) → Common (gcd m (suc j)) m (suc j)
    step m j c = rw gcd-suc (record { left = (dvd-mod_iff _ c.left).0 c.right; right = c.left })

pub gcd-left : (m n : ℕ) → gcd m n ∣ m
gcd-left m n = (gcd_common m n).left

pub gcd-right : (m n : ℕ) → gcd m n ∣ n
gcd-right m n = (gcd_common m n).right

pub gcd-greatest : (d m n : ℕ) → d ∣ m → d ∣ n → d ∣ gcd m n
gcd-greatest d = euclid (λ m n. d ∣ m → d ∣ n → d ∣ gcd m n) base step
  where
    base : (m : ℕ) → d ∣ m → d ∣ 0 → d ∣ gcd m 0
    base m h k = rw gcd-zero h

    step : (m j : ℕ) → (d ∣ suc j → d ∣ (m % suc j) → d ∣ gcd (suc j) (m % suc j)) → d ∣ m → d ∣ suc j → d ∣ gcd m (suc j)
    step m j ih h k = rw gcd-suc (ih k ((dvd-mod_iff d k).1 h))

-- so it is the only number that does
pub gcd-unique : (g m n : ℕ) → g ∣ m → g ∣ n → ((d : ℕ) → d ∣ m → d ∣ n → d ∣ g) → gcd m n ≡ g
gcd-unique g m n h k greatest =
    dvd_antisymm (greatest (gcd m n) (gcd-left m n) (gcd-right m n)) (gcd-greatest g m n h k)

pub gcd_comm : (m n : ℕ) → gcd m n ≡ gcd n m
gcd_comm m n = gcd-unique (gcd n m) m n (gcd-right n m) (gcd-left n m) (λ d h k. gcd-greatest d n m k h)

pub gcd_assoc : (l m n : ℕ) → gcd (gcd l m) n ≡ gcd l (gcd m n)
gcd_assoc l m n =
    gcd-unique (gcd l (gcd m n)) (gcd l m) n
    (gcd-greatest _ l m (gcd-left l (gcd m n)) (dvd_trans _ (gcd-right l (gcd m n)) (gcd-left m n)))
    (dvd_trans _ (gcd-right l (gcd m n)) (gcd-right m n))
    (λ d h k. gcd-greatest d l (gcd m n) (dvd_trans d h (gcd-left l m)) (gcd-greatest d m n (dvd_trans d h (gcd-right l m)) k))

-- a common factor comes out
pub gcd-mul : (k m n : ℕ) → gcd (k * m) (k * n) ≡ k * gcd m n
gcd-mul zero m n = ap₂ gcd (zero-mul m) (zero-mul n) ∙ gcd-zero 0 ∙ sym (zero-mul (gcd m n))
gcd-mul (suc j) m n =
    dvd_antisymm (subst (λ d. d ∣ (suc j * gcd m n)) whole
    (mul-dvd-mul_left _ (suc j)
    (gcd-greatest c m n (part m (gcd-left (suc j * m) (suc j * n))) (part n (gcd-right (suc j * m) (suc j * n))))))
    (gcd-greatest _ (suc j * m) (suc j * n) (mul-dvd-mul_left _ (suc j) (gcd-left m n)) (mul-dvd-mul_left _ (suc j) (gcd-right m n)))
  where
    c : ℕ
    c = gcd (suc j * m) (suc j * n) / suc j

    whole : suc j * c ≡ gcd (suc j * m) (suc j * n)
    whole = mul-div_cancel' (suc j) (gcd-greatest (suc j) (suc j * m) (suc j * n) (dvd-mul_right (suc j) m) (dvd-mul_right (suc j) n))

    part : (x : ℕ) → gcd (suc j * m) (suc j * n) ∣ (suc j * x) → c ∣ x
    part x h = dvd_of_mul-dvd-mul_left _ (omega arith) (subst (λ d. d ∣ (suc j * x)) (sym whole) h)

-- ---- 0, and sizes

pub gcd-nought-left : (m n : ℕ) → gcd m n ≡ 0 → m ≡ 0
gcd-nought-left m n e = eq-zero_of_zero-dvd (rw e at (gcd-left m n))

pub gcd-nought-right : (m n : ℕ) → gcd m n ≡ 0 → n ≡ 0
gcd-nought-right m n e = eq-zero_of_zero-dvd (rw e at (gcd-right m n))

pub gcd-nought : (m n : ℕ) → (gcd m n ≡ 0) ↔ ((m ≡ 0) × (n ≡ 0))
gcd-nought m n = (λ e. (gcd-nought-left m n e, gcd-nought-right m n e), λ e. ap₂ gcd e.0 e.1 ∙ gcd-zero 0)

pub gcd-pos-left : (m n : ℕ) → 0 < m → 0 < gcd m n
gcd-pos-left m n h = pos_of_dvd_of_pos (gcd-left m n) h

pub gcd-pos-right : (m n : ℕ) → 0 < n → 0 < gcd m n
gcd-pos-right m n h = pos_of_dvd_of_pos (gcd-right m n) h

pub gcd_le_left : (m n : ℕ) → 0 < m → gcd m n ≤ m
gcd_le_left m n h = le_of_dvd h (gcd-left m n)

pub gcd_le_right : (m n : ℕ) → 0 < n → gcd m n ≤ n
gcd_le_right m n h = le_of_dvd h (gcd-right m n)

-- ---- of two integers, and of three

pub gcd2-mul : (k x y : ℤ) → gcd2 (k *ℤ x) (k *ℤ y) ≡ nat_abs k * gcd2 x y
gcd2-mul k x y = ap₂ gcd (nat_abs_mul k x) (nat_abs_mul k y) ∙ gcd-mul (nat_abs k) (nat_abs x) (nat_abs y)

-- not both 0
pub gcd2-pos : (x y : ℤ) → (x ≡ pos 0 → y ≡ pos 0 → ⊥) → 0 < gcd2 x y
gcd2-pos x y h = go (gcd2 x y) refl
  where
    go : (g : ℕ) → gcd2 x y ≡ g → 0 < g
    go zero e =
        absurd (h (nat_abs-nought x (gcd-nought-left (nat_abs x) (nat_abs y) e))
        (nat_abs-nought y (gcd-nought-right (nat_abs x) (nat_abs y) e)))
    go (suc g) e = omega arith

pub gcd3-mul : (k x y d : ℤ) → gcd3 (k *ℤ x) (k *ℤ y) (k *ℤ d) ≡ nat_abs k * gcd3 x y d
gcd3-mul k x y d = ap₂ gcd (gcd2-mul k x y) (nat_abs_mul k d) ∙ gcd-mul (nat_abs k) (gcd2 x y) (nat_abs d)

module _ (x y d : ℤ) where
  pub gcd3-first : gcd3 x y d ∣ nat_abs x
  gcd3-first = dvd_trans _ (gcd-left (gcd2 x y) (nat_abs d)) (gcd-left (nat_abs x) (nat_abs y))

  pub gcd3-second : gcd3 x y d ∣ nat_abs y
  gcd3-second = dvd_trans _ (gcd-left (gcd2 x y) (nat_abs d)) (gcd-right (nat_abs x) (nat_abs y))

  pub gcd3-third : gcd3 x y d ∣ nat_abs d
  gcd3-third = gcd-right (gcd2 x y) (nat_abs d)

  pub gcd3-greatest : (c : ℕ) → c ∣ nat_abs x → c ∣ nat_abs y → c ∣ nat_abs d → c ∣ gcd3 x y d
  gcd3-greatest c h k l = gcd-greatest c (gcd2 x y) (nat_abs d) (gcd-greatest c (nat_abs x) (nat_abs y) h k) l

  pub gcd3-pos : pos 0 <ᶻ d → 0 < gcd3 x y d
  gcd3-pos h = gcd-pos-right (gcd2 x y) (nat_abs d) (nat_abs-pos h)

  pub gcd3_le : pos 0 <ᶻ d → gcd3 x y d ≤ nat_abs d
  gcd3_le h = gcd_le_right (gcd2 x y) (nat_abs d) (nat_abs-pos h)
