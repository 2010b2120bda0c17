-- Numbers as bytes: what stands at an offset, the number that two and four bytes make, and a field of a record.
use Prim.Native.Nat.{ℕ, zero, suc, ◌+◌, ◌*◌, ◌/◌, ◌%◌, ◌^◌, ◌≤◌}
use mathlib.Core.Path.{◌≡◌, refl, sym, ap, ◌∙◌}
use mathlib.Core.List.{List, [], ◌∷◌}
use native.Mathlib.Omega.{arith}
use native.Mathlib.Numerals.{add-one, add-two, add-three}
use lib.ListN.{get_or, drop, take}
use lib.Seq.{drop-drop}
use native.Mathlib.Nat.{not-suc-le-zero, le_of_suc-le-suc, pow-suc, div-div-eq-div-mul}
use mir.Syntax.{Width, w64}
use Rattle.std.specs.Int.{byte_at, byte_len, bytes_low_first, to_le_bytes, from_le_bytes}
use Rattle.records.specs.Number.{number, bytes_of}

-- ---- reading

-- the byte at an offset, and the number after it
pub number_step : (n at : ℕ) (s : List ℕ) → number (suc n) (drop at s) ≡ get_or s at 0 + 256 * number n (drop (suc at) s)
unfolding number
number_step zero zero [] = refl
number_step (suc n) zero [] = refl
number_step n zero (x ∷ s) = refl
number_step zero (suc at) [] = refl
number_step (suc n) (suc at) [] = refl
number_step n (suc at) (x ∷ s) = number_step n at s

pub number-none : (s : List ℕ) → number 0 s ≡ 0
unfolding number
number-none s = refl

pub one_byte : (s : List ℕ) (at : ℕ) → get_or s at 0 ≡ number 1 (drop at s)
one_byte s at = omega (arith, number_step 0 at s, number-none (drop (suc at) s))

-- the number that two bytes make, and that four make
pub two_bytes : (s : List ℕ) (at : ℕ) → get_or s at 0 + 256 * get_or s (at + 1) 0 ≡ number 2 (drop at s)
two_bytes s at =
    rw add-one
    (omega (arith, number_step 1 at s, number_step 0 (suc at) s, number-none (drop (suc (suc at)) s)))

pub four_bytes : (s : List ℕ) (at : ℕ) →
    get_or s at 0 + 256 * (get_or s (at + 1) 0 + 256 * (get_or s (at + 2) 0 + 256 * get_or s (at + 3) 0)) ≡ number 4 (drop at s)
four_bytes s at =
    rw (add-one, add-two, add-three)
    (omega (
      arith,
      number_step 3 at s,
      number_step 2 (suc at) s,
      number_step 1 (suc (suc at)) s,
      number_step 0 (suc (suc (suc at))) s,
      number-none (drop (suc (suc (suc (suc at)))) s),
    ))

-- and eight, from a list's start
pub eight_bytes : (s : List ℕ) → from_le_bytes w64 s ≡ number 8 s
eight_bytes s =
    omega (
      arith,
      number_step 7 0 s,
      number_step 6 1 s,
      number_step 5 2 s,
      number_step 4 3 s,
      number_step 3 4 s,
      number_step 2 5 s,
      number_step 1 6 s,
      number_step 0 7 s,
      number-none (drop 8 s),
    )

-- ---- writing

-- the library's bytes of a number
bytes_from : (n i v : ℕ) → bytes_low_first i n v ≡ bytes_of n (v / 256 ^ i)
unfolding bytes_of
bytes_from zero i v = refl
bytes_from (suc n) i v =
    λ j. byte i v j ∷ (bytes_from n (suc i) v ∙ ap (bytes_of n) (next i v)) j
  where
    byte : (i v : ℕ) → byte_at i v ≡ v / 256 ^ i % 256
    byte zero v = omega arith
    byte (suc i) v = refl

    next : (i v : ℕ) → v / 256 ^ suc i ≡ v / 256 ^ i / 256
    next i v = ap (λ (m : ℕ). v / m) (pow-suc 256 i) ∙ sym (div-div-eq-div-mul v (256 ^ i) 256)

pub written : (w : Width) (v : ℕ) → to_le_bytes w v ≡ bytes_of (byte_len w) v
written w v = bytes_from (byte_len w) 0 v ∙ ap (bytes_of (byte_len w)) (whole v)
  where
    whole : (v : ℕ) → v / 1 ≡ v
    whole v = omega arith

-- ---- a field of a record: the first bytes of a part are the whole's

pub number-take : (n w : ℕ) (s : List ℕ) → n ≤ w → number n (take w s) ≡ number n s
unfolding number
number-take zero w s h = refl
number-take (suc n) zero s h = absurd (not-suc-le-zero h)
number-take (suc n) (suc w) [] h = refl
number-take (suc n) (suc w) (x ∷ s) h = ap (λ v. x + 256 * v) (number-take n w s (le_of_suc-le-suc h))

number-part : (n off w : ℕ) (s : List ℕ) → off + n ≤ w → number n (drop off (take w s)) ≡ number n (drop off s)
number-part n zero w s h = number-take n w s (omega arith)
number-part n (suc off) zero s h = absurd (not-suc-le-zero {n = off + n} (omega arith))
number-part n (suc off) (suc w) [] h = refl
number-part n (suc off) (suc w) (x ∷ s) h = number-part n off w s (omega arith)

pub field_at : (n off w k : ℕ) (s : List ℕ) → off + n ≤ w → number n (drop off (take w (drop k s))) ≡ number n (drop (k + off) s)
field_at n off w k s h = number-part n off w (drop k s) h ∙ ap (number n) (drop-drop off k s)
