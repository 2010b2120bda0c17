-- A quotient by what divides several numbers, for every i64 and every u64: what the machine divides is what the integers have, and where
-- the divisor is 0 or no i64 at all, the quotient is known. An i64 that a call takes or returns is read back from its bits, `read z`,
-- which is z.
use mathlib.Core.Path.{◌≡◌, sym, ◌∙◌, ap, ap₂, subst}
use Prim.Native.Nat.{ℕ, suc, ◌/◌, ◌^◌, ◌<◌}
use native.Mathlib.Nat.{div-eq_of_lt, div-le_self}
use native.Mathlib.Omega.{arith}
use lib.IntN.{ℤ, pos, negsuc, neg_ℤ, nat_abs}
use lib.Signed.{quot_z, mag}
use mir.Syntax.{w64}
use mir.Val.{SFits, to_z}
use mir.Facts.{to_z-of_z}
use Rattle.ints.specs.Gcd.{gcd, gcd2, gcd3}
use Rattle.ints.proofs.Bits.{read, low}
use Rattle.ints.proofs.Gcd.{gcd_comm, gcd_assoc}
use Rattle.lp.specs.Program.{point, ray}
use Rattle.lp.specs.Slack.{amount}

pub unread : {z : ℤ} → mag z < 2 ^ 63 → read z ≡ z
unread h = to_z-of_z {w = w64} (record { sfits = h })

-- ---- a divisor that is an i64

module _ (g : ℕ) where
  fits : (z : ℤ) → mag z < 2 ^ 63 → SFits w64 (quot_z z (pos g))
  fits (pos a) h = record { sfits = omega (arith, div-le_self a g) }
  fits (negsuc a) h = low (suc a / g) (omega (arith, div-le_self (suc a) g))

  module _ (z : ℤ) (h : mag z < 2 ^ 63) (k : g < 2 ^ 63) where
    same : quot_z (read z) (to_z w64 g) ≡ quot_z z (pos g)
    same = ap₂ quot_z (unread {z = z} h) (to_z-of_z {w = w64} {z = pos g} (record { sfits = k }))

    pub quot_fits : SFits w64 (quot_z (read z) (to_z w64 g))
    quot_fits = subst (λ y. SFits w64 y) (sym same) (fits z h)

    pub quot_is : read (quot_z (read z) (to_z w64 g)) ≡ quot_z z (pos g)
    quot_is = to_z-of_z {w = w64} quot_fits ∙ same

-- ---- a divisor of 0, and one that is no i64

nought : (z : ℤ) (g : ℕ) → nat_abs z / g ≡ 0 → pos 0 ≡ quot_z z (pos g)
nought (pos a) g e = sym (ap pos e)
nought (negsuc a) g e = sym (ap (λ (n : ℕ). neg_ℤ (pos n)) e)

-- it is greater than the number
pub by-greater :
    (z : ℤ) (g : ℕ) {m : ℕ} →
    m ≡ nat_abs (read z) →
    mag z < 2 ^ 63 →
    m < g →
    pos 0 ≡ quot_z z (pos g)
by-greater z g e h less = nought z g (div-eq_of_lt (subst (λ (n : ℕ). n < g) (e ∙ ap nat_abs (unread {z = z} h)) less))

-- ---- what the calls returned

-- a quotient, for a divisor that is known to be k
pub quotient-read :
    (z : ℤ) →
    mag z < 2 ^ 63 →
    {g k : ℕ} →
    g ≡ k →
    (q : ℤ) →
    mag q < 2 ^ 63 →
    q ≡ quot_z (read z) (pos g) →
    read q ≡ quot_z z (pos k)
quotient-read z h eg q b e = unread {z = q} b ∙ e ∙ ap₂ (λ y (n : ℕ). quot_z y (pos n)) (unread {z = z} h) eg

-- the divisor of two numbers, from their magnitudes
module _ (x y : ℤ) (hx : mag x < 2 ^ 63) (hy : mag y < 2 ^ 63) {mx my g : ℕ} where
  pub divisor_of_two : mx ≡ nat_abs (read x) → my ≡ nat_abs (read y) → g ≡ gcd mx my → g ≡ gcd2 x y
  divisor_of_two ex ey eg = eg ∙ ap₂ gcd (ex ∙ ap nat_abs (unread {z = x} hx)) (ey ∙ ap nat_abs (unread {z = y} hy))

-- of three, y's last
module _ (x y d : ℤ) (hx : mag x < 2 ^ 63) (hy : mag y < 2 ^ 63) (hd : mag d < 2 ^ 63) {mx my md mxd g : ℕ} where
  pub divisor_of_three :
      my ≡ nat_abs (read y) →
      mx ≡ nat_abs (read x) →
      md ≡ nat_abs (read d) →
      mxd ≡ gcd mx md →
      g ≡ gcd my mxd →
      g ≡ gcd3 x y d
  divisor_of_three ey ex ed exd eg =
      eg
      ∙ ap₂ gcd (ey ∙ ap nat_abs (unread {z = y} hy)) (divisor_of_two x d hx hd ex ed exd)
      ∙ sym (gcd_assoc (nat_abs y) (nat_abs x) (nat_abs d))
      ∙ ap (λ m. gcd m (nat_abs d)) (gcd_comm (nat_abs y) (nat_abs x))

-- ---- a point, a ray and an amount are their numbers

pub point-same : {x y d x' y' d' : ℤ} → x ≡ x' → y ≡ y' → d ≡ d' → point x y d ≡ point x' y' d'
point-same ex ey ed = λ i. point (ex i) (ey i) (ed i)

pub ray-same : {x y x' y' : ℤ} → x ≡ x' → y ≡ y' → ray x y ≡ ray x' y'
ray-same ex ey = λ i. ray (ex i) (ey i)

pub amount-same : {n d n' d' : ℤ} → n ≡ n' → d ≡ d' → amount n d ≡ amount n' d'
amount-same en ed = λ i. amount (en i) (ed i)
