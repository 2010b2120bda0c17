-- Decimal numbers: the last digit stands after the digits of the tenth part, and a number below a power of ten is short.
use mathlib.Core.Path.{◌≡◌, refl, ap, ◌∙◌}
use mathlib.Core.List.{List, [], ◌∷◌, ◌++◌, append_assoc}
use mathlib.Core.Bool.{Bool, true, false}
use mathlib.Core.Logic.{◌⊎◌, inl, inr, ⊎_elim}
use Prim.Native.Nat.{ℕ, zero, suc, ◌+◌, ◌/◌, ◌%◌, ◌^◌, ◌≤◌, ◌<◌}
use native.Mathlib.Nat.{pow-succ', lt_of_lt_of_le, mod-eq_of_lt}
use native.Mathlib.Omega.{arith}
use lib.Dec.{ltb, lit≤}
use lib.ListN.{length, length-append}
use mir.Syntax.{w16, w64}
use mir.Val.{Fits}
use borrow.Author.Tests.{ltb-true, ltb-false}
use Rattle.text.specs.Number.{two_digits, digits, decimal}

-- more steps than the tenth part change nothing
steps : (k m q r : ℕ) → q ≤ k → q ≤ m → digits k q r ≡ digits m q r
steps zero zero q r h g = refl
steps zero (suc m) zero r h g = refl
steps zero (suc m) (suc q) r h g = absurd (omega arith)
steps (suc k) zero zero r h g = refl
steps (suc k) zero (suc q) r h g = absurd (omega arith)
steps (suc k) (suc m) zero r h g = refl
steps (suc k) (suc m) (suc q) r h g =
    ap (λ (l : List ℕ). l ++ ((48 + r) ∷ [])) (steps k m (suc q / 10) (suc q % 10) (omega arith) (omega arith))

last : (k q r : ℕ) → 0 < q → q ≤ k → digits k q r ≡ digits q (q / 10) (q % 10) ++ ((48 + r) ∷ [])
last k zero r p h = absurd (omega arith)
last zero (suc q) r p h = absurd (omega arith)
last (suc k) (suc q) r p h =
    ap (λ (l : List ℕ). l ++ ((48 + r) ∷ [])) (steps k (suc q) (suc q / 10) (suc q % 10) (omega arith) (omega arith))

alone : (k q r : ℕ) → q ≡ 0 → digits k q r ≡ (48 + r) ∷ []
alone zero q r e = refl
alone (suc k) zero r e = refl
alone (suc k) (suc q) r e = absurd (omega arith)

pub decimal_digit : (n : ℕ) → n < 10 → decimal n ≡ (48 + n % 10) ∷ []
unfolding decimal
decimal_digit n h = alone n (n / 10) (n % 10) (omega arith)

pub decimal-more : (n : ℕ) → 10 ≤ n → decimal n ≡ decimal (n / 10) ++ ((48 + n % 10) ∷ [])
unfolding decimal
decimal-more n h = last n (n / 10) (n % 10) (omega arith) (omega arith)

-- two digits at a time
pub decimal-single : (n : ℕ) → n < 10 → decimal n ≡ (48 + n) ∷ []
decimal-single n h = decimal_digit n h ∙ ap (λ r. (48 + r) ∷ []) (mod-eq_of_lt h)

pub decimal-pair : (n : ℕ) → 10 ≤ n → n < 100 → decimal n ≡ two_digits n
decimal-pair n h k = decimal-more n h ∙ ap (λ (l : List ℕ). l ++ ((48 + n % 10) ∷ [])) (decimal-single (n / 10) (omega arith))

pub decimal_hundred : (n : ℕ) → 100 ≤ n → decimal n ≡ decimal (n / 100) ++ two_digits (n % 100)
decimal_hundred n h =
    let tenth : n / 10 / 10 ≡ n / 100 = omega arith in
    let one : n / 10 % 10 ≡ n % 100 / 10 = omega arith in
    let two : n % 10 ≡ n % 100 % 10 = omega arith in
    decimal-more n (omega arith)
    ∙ ap (λ (l : List ℕ). l ++ ((48 + n % 10) ∷ [])) (decimal-more (n / 10) (omega arith))
    ∙ append_assoc (decimal (n / 10 / 10)) ((48 + n / 10 % 10) ∷ []) ((48 + n % 10) ∷ [])
    ∙ (λ j. decimal (tenth j) ++ ((48 + one j) ∷ (48 + two j) ∷ []))

-- ---- lengths

pub decimal-two-longer : (n : ℕ) → 100 ≤ n → length (decimal n) ≡ length (decimal (n / 100)) + 2
decimal-two-longer n h = ap length (decimal_hundred n h) ∙ length-append (decimal (n / 100)) (two_digits (n % 100))

pub decimal-longer : (n : ℕ) → 10 ≤ n → length (decimal n) ≡ length (decimal (n / 10)) + 1
decimal-longer n h = ap length (decimal-more n h) ∙ length-append (decimal (n / 10)) ((48 + n % 10) ∷ [])

pub decimal-one : (n : ℕ) → n < 10 → length (decimal n) ≡ 1
decimal-one n h = ap length (decimal_digit n h)

pub one-digit : (n : ℕ) → (n < 10) ⊎ (10 ≤ n)
one-digit n = go (ltb n 10) refl
  where
    go : (t : Bool) → ltb n 10 ≡ t → (n < 10) ⊎ (10 ≤ n)
    go true e = inl (ltb-true n 10 e)
    go false e = inr (ltb-false n 10 e)

-- below a power of ten
pub decimal-short : (k n : ℕ) → n < 10 ^ suc k → length (decimal n) ≤ suc k
decimal-short zero n h = omega (arith, decimal-one n (omega (arith, pow-succ' 10 zero)))
decimal-short (suc k) n h =
    ⊎_elim
    (λ p. omega (arith, decimal-one n p))
    (λ p. omega (arith, decimal-longer n p, decimal-short k (n / 10) (omega (arith, pow-succ' 10 (suc k)))))
    (one-digit n)

-- any u16 has at most 5 digits
pub decimal-u16 : (n : ℕ) → Fits w16 n → length (decimal n) ≤ 5
decimal-u16 n h = decimal-short 4 n (lt_of_lt_of_le h.fits (lit≤ tt))

-- any u64 at most 20
pub decimal-usize : (n : ℕ) → Fits w64 n → length (decimal n) ≤ 20
decimal-usize n h = decimal-short 19 n (lt_of_lt_of_le h.fits (lit≤ tt))
