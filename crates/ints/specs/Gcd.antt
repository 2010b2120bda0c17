-- The greatest common divisor, by Euclid: the second number falls at each step, so one step more than it is fuel enough. Of integers it
-- is that of their magnitudes. That it is the greatest common divisor is proved in proofs/Gcd.antt. An integer z is divided by a natural
-- number g as `quot_z z (pos g)`, which rounds toward zero and is exact wherever it is used (proofs/Divides.antt).
use Rattle.std.specs.Prelude.{◌≡◌, ℕ, zero, suc, ◌%◌, ℤ, nat_abs}

-- k bounds the number of steps
abbrev pub gcd_by : ℕ → ℕ → ℕ → ℕ
gcd_by zero m n = m
gcd_by (suc k) m zero = m
gcd_by (suc k) m (suc j) = gcd_by k (suc j) (m % suc j)

unfoldable pub gcd : ℕ → ℕ → ℕ
gcd m n = gcd_by (suc n) m n

-- of two integers, and of three
abbrev pub gcd2 : ℤ → ℤ → ℕ
gcd2 x y = gcd (nat_abs x) (nat_abs y)

abbrev pub gcd3 : ℤ → ℤ → ℤ → ℕ
gcd3 x y d = gcd (gcd2 x y) (nat_abs d)

-- nothing but 1 divides all of them
abbrev pub Reduced2 : ℤ → ℤ → Type 0
Reduced2 x y = gcd2 x y ≡ 1

abbrev pub Reduced : ℤ → ℤ → ℤ → Type 0
Reduced x y d = gcd3 x y d ≡ 1
