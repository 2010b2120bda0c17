-- Sizes: `Within n z` says that z's magnitude is at most n. Bounds of sums and products are computed from those of their parts, and a
-- bound below 2 ^ 63 gives what the machine's i64 asks of a result, `SFits w64 z`. An operand of an i64 operation is a number read back
-- from its bits, `to_z w64 (of_z w64 z)`, which is z where z fits (the library's `to_z-of_z`). `sizes` answers such needs from Within facts
-- in what a function requires.
use mathlib.Core.Bool.{Bool, true, false, cond}
use Prim.Native.Nat.{ℕ, suc, ◌+◌, ◌*◌, ◌-◌, ◌/◌, ◌^◌, ◌≤◌, ◌<◌}
use native.Mathlib.Nat.{mul-le-mul, le_trans, le-mul_of_pos_right, mul_comm, mul-div-le, div-mul-le_self}
use native.Mathlib.Omega.{arith}
use lib.Dec.{T, leb, ltb, leb→le, le→leb, ltb→lt}
use lib.IntN.{ℤ, pos, negsuc, nat_abs, neg_ℤ, sub_ℕ, ◌+ℤ◌, ◌-ℤ◌, ◌*ℤ◌}
use lib.Signed.{quot_z, mag, nat_abs-le, le_z_yes}
use mir.Syntax.{w64}
use mir.Val.{SFits, to_z, of_z}
use mir.Facts.{to_z-of_z}
use Rattle.ints.specs.Order.{◌≤ᶻ◌, ◌<ᶻ◌}
use Rattle.ints.specs.Within.{Within}
use Rattle.ints.proofs.Order.{nn-elim, pos-elim}
use Rattle.ints.proofs.Divides.{nat_abs_mul, nat_abs_neg, nat_abs-pos, quot_no_larger}

-- ---- bounds of parts give bounds of the whole

pub within_neg : {n : ℕ} {a : ℤ} → Within n a → Within n (neg_ℤ a)
within_neg {n} {a = pos k} h = record { small = rw nat_abs_neg h.small }
within_neg {n} {a = negsuc k} h = record { small = h.small }

difference : (a b : ℕ) → nat_abs (sub_ℕ a b) ≤ a + b
difference a b = go (ltb a b) (ltb→lt a b)
  where
    go : (t : Bool) → (T t → a < b) → nat_abs (cond t (negsuc (b - suc a)) (pos (a - b))) ≤ a + b
    go true h = omega (arith, h tt)
    go false h = omega arith

triangle : (a b : ℤ) → nat_abs (a +ℤ b) ≤ nat_abs a + nat_abs b
triangle (pos a) (pos b) = omega arith
triangle (pos a) (negsuc b) = difference a (suc b)
triangle (negsuc a) (pos b) = omega (arith, difference b (suc a))
triangle (negsuc a) (negsuc b) = omega arith

pub within-add : {m n : ℕ} {a b : ℤ} → Within m a → Within n b → Within (m + n) (a +ℤ b)
within-add {m} {n} {a} {b} h k = record { small = omega (arith, triangle a b) }

pub within-sub : {m n : ℕ} {a b : ℤ} → Within m a → Within n b → Within (m + n) (a -ℤ b)
within-sub h k = within-add h (within_neg k)

pub within-mul : {m n : ℕ} {a b : ℤ} → Within m a → Within n b → Within (m * n) (a *ℤ b)
within-mul {m} {n} {a} {b} h k = record { small = rw nat_abs_mul (mul-le-mul h.small k.small) }

pub within_quot : {n : ℕ} {a : ℤ} (b : ℤ) → Within n a → Within n (quot_z a b)
within_quot {n} {a} b h = record { small = le_trans (quot_no_larger a b) h.small }

-- a positive factor left out
pub within-factor : {n : ℕ} {k a : ℤ} → pos 0 <ᶻ k → Within n (k *ℤ a) → Within n a
within-factor {n} {k} {a} p h =
    record {
      small = le_trans (le-mul_of_pos_right (nat_abs a) (nat_abs-pos p))
          (rw (mul_comm (nat_abs a) (nat_abs k), ← nat_abs_mul) h.small);
    }

-- a larger bound: `weaken tt h` for two numerals
pub weaken : {m n : ℕ} {z : ℤ} → T (leb m n) → Within m z → Within n z
weaken {m} {n} t h = record { small = le_trans h.small (leb→le m n t) }

-- ---- numbers that are bounded otherwise

pub within_nat : {m n : ℕ} → m ≤ n → Within n (pos m)
within_nat h = record { small = h }

-- a numeral: `within-numeral tt`
pub within-numeral : {n : ℕ} {z : ℤ} → T (leb (nat_abs z) n) → Within n z
within-numeral {n} {z} t = record { small = leb→le (nat_abs z) n t }

pub within_range : {n : ℕ} {z : ℤ} → pos 0 ≤ᶻ z → z ≤ᶻ pos n → Within n z
within_range {n} h = nn-elim (λ z. z ≤ᶻ pos n → Within n z) (λ m k. record { small = leb→le m n k.le }) h

-- ---- the machine's i64

pub within-fits : {n : ℕ} {z : ℤ} → Within n z → T (ltb n (2 ^ 63)) → SFits w64 z
within-fits {n} {z} h t = record { sfits = go z h.small (ltb→lt n (2 ^ 63) t) }
  where
    go : (z : ℤ) → nat_abs z ≤ n → n < 2 ^ 63 → mag z < 2 ^ 63
    go (pos k) h t = omega arith
    go (negsuc k) h t = omega arith

-- whatever an i64 holds
pub fits-within : {z : ℤ} → SFits w64 z → Within (2 ^ 63) z
fits-within {z} f = record { small = nat_abs-le z f.sfits }

-- an operand is read back from its bits
pub within-read : {n : ℕ} {z : ℤ} → Within n z → T (ltb n (2 ^ 63)) → Within n (to_z w64 (of_z w64 z))
within-read {n} {z} h t = rw (to_z-of_z {w = w64} (within-fits h t)) h

-- a positive divisor is not 0, in its bits too
pub divisor-bits : {z : ℤ} → pos 0 <ᶻ z → 0 < of_z w64 z
divisor-bits h = pos-elim (λ z. 0 < of_z w64 z) (λ n. omega arith) h

-- ---- the same downwards, for `search`: from the room N that a goal leaves to the room of its parts, so that a goal shows every bound.
-- A sum gives
-- each part half of its room, a product gives one factor what the bound of the other leaves; at the ends stand facts.

pub room_fits : {z : ℤ} → Within (2 ^ 63 - 1) z → SFits w64 z
room_fits h = within-fits h tt

pub room_fact : {m n : ℕ} {z : ℤ} → Within m z → T (leb m n) → Within n z
room_fact h t = weaken t h

pub room-add : {n : ℕ} {a b : ℤ} → Within (n / 2) a → Within (n / 2) b → Within n (a +ℤ b)
room-add {n} {a} {b} h k = record { small = omega (arith, (within-add h k).small) }

pub room-sub : {n : ℕ} {a b : ℤ} → Within (n / 2) a → Within (n / 2) b → Within n (a -ℤ b)
room-sub {n} {a} {b} h k = record { small = omega (arith, (within-sub h k).small) }

pub room-mul-left : {m n : ℕ} {a b : ℤ} → Within m a → Within (n / m) b → Within n (a *ℤ b)
room-mul-left {m} {n} {a} {b} h k = record { small = le_trans (within-mul h k).small (mul-div-le n m) }

pub room-mul-right : {m n : ℕ} {a b : ℤ} → Within m b → Within (n / m) a → Within n (a *ℤ b)
room-mul-right {m} {n} {a} {b} h k = record { small = le_trans (within-mul k h).small (div-mul-le_self n m) }

-- `search sizes depth 8` answers the needs of up to two products and their sum or difference, and that the result is what is ensured.
-- What is larger is quicker by hand: a record of the facts `SFits w64 (..)`, each by `within-fits (within-add ..) tt`, as `facts` of what
-- the function requires, and `search (to_z-of_z, facts c.pre)`.
pub ruleset sizes =
    (tt, to_z-of_z, room_fits, room_fact, room-add, room-sub, room-mul-left, room-mul-right, within_quot, within-numeral, divisor-bits)

-- ---- a bound on a magnitude is one on the number

pub within_le : {n : ℕ} {z : ℤ} → Within n z → z ≤ᶻ pos n
within_le {n} {z = pos k} h = le_z_yes (le→leb k n h.small)
within_le {n} {z = negsuc k} h = le_z_yes tt

pub one_le : (n : ℕ) → pos 1 ≤ᶻ pos (suc n)
one_le n = le_z_yes (le→leb 1 (suc n) (omega arith))
