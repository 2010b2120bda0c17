-- A decimal number read back: its digits have the number's value, each byte is a digit's, and the first is no "0" but for the number 0.
use mathlib.Core.Path.{◌≡◌, refl, ap, ◌∙◌}
use mathlib.Core.List.{List, [], ◌∷◌, ◌++◌}
use mathlib.Core.Logic.{⊎_elim}
use Prim.Native.Nat.{ℕ, zero, suc, ◌+◌, ◌-◌, ◌*◌, ◌/◌, ◌%◌, ◌≤◌, ◌<◌}
use native.Mathlib.Nat.{le_refl}
use native.Mathlib.Omega.{arith}
use lib.ListN.{length, get_or, get_or-append}
use Rattle.text.specs.Number.{decimal, value_from}
use Rattle.text.proofs.Decimal.{decimal_digit, decimal-more, decimal-longer, decimal-one, one-digit}

value-last : (n : ℕ) (l : List ℕ) (b : ℕ) → value_from n (l ++ (b ∷ [])) ≡ value_from n l * 10 + (b - 48)
unfolding value_from
value-last n [] b = refl
value-last n (a ∷ l) b = value-last (n * 10 + (a - 48)) l b

value-below : (k n : ℕ) → n ≤ k → value_from 0 (decimal n) ≡ n
unfolding value_from
value-below zero n h = ap (value_from 0) (decimal_digit n (omega arith)) ∙ omega arith
value-below (suc k) n h =
    ⊎_elim
    (λ p. ap (value_from 0) (decimal_digit n p) ∙ omega arith)
    (λ p.
    ap (value_from 0) (decimal-more n p)
    ∙ value-last 0 (decimal (n / 10)) (48 + n % 10)
    ∙ omega (arith, value-below k (n / 10) (omega arith)))
    (one-digit n)

pub decimal-value : (n : ℕ) → value_from 0 (decimal n) ≡ n
decimal-value n = value-below n n (le_refl n)

-- the bytes of "0" to "9" are 48 to 57
abbrev pub Digits : List ℕ → Type 0
Digits [] = Unit
Digits (b ∷ l) = (48 ≤ b) × (b ≤ 57) × Digits l

digits_last : (l : List ℕ) (b : ℕ) → Digits l → 48 ≤ b → b ≤ 57 → Digits (l ++ (b ∷ []))
digits_last [] b d p q = (p, q, tt)
digits_last (a ∷ l) b d p q = (d.0, d.1, digits_last l b d.2 p q)

digits-below : (k n : ℕ) → n ≤ k → Digits (decimal n)
digits-below zero n h = rw (decimal_digit n (omega arith)) (omega arith, omega arith, tt)
digits-below (suc k) n h =
    ⊎_elim
    (λ p. rw (decimal_digit n p) (omega arith, omega arith, tt))
    (λ p.
    rw (decimal-more n p)
    (digits_last (decimal (n / 10)) (48 + n % 10) (digits-below k (n / 10) (omega arith)) (omega arith) (omega arith)))
    (one-digit n)

pub decimal-digits : (n : ℕ) → Digits (decimal n)
decimal-digits n = digits-below n n (le_refl n)

some-digit : (n : ℕ) → 0 < length (decimal n)
some-digit n = ⊎_elim (λ p. omega (arith, decimal-one n p)) (λ p. omega (arith, decimal-longer n p)) (one-digit n)

first_below : (k n : ℕ) → n ≤ k → 0 < n → 48 < get_or (decimal n) 0 0
first_below zero n h p = absurd (omega arith)
first_below (suc k) n h p =
    ⊎_elim
    (λ q. rw (decimal_digit n q) (omega arith))
    (λ q.
    rw (decimal-more n q)
    (rw (get_or-append (decimal (n / 10)) ((48 + n % 10) ∷ []) 0 0 (some-digit (n / 10)))
    (first_below k (n / 10) (omega arith) (omega arith))))
    (one-digit n)

-- "0" is byte 48
pub no_leading_zero : (n : ℕ) → 0 < n → 48 < get_or (decimal n) 0 0
no_leading_zero n = first_below n n (le_refl n)
