-- The numbers of a line. A text stands for what is left of it. A number's field is one space, a minus or none, and digits; the text goes
-- on behind the last digit. No field has room for a number beyond 2,147,483,648 either way, so that one is none.
use Rattle.std.specs.Prelude.{Bool, false, cond, List, ℕ, eqb, leb, ℤ, pos, neg_ℤ, Option, Some, None}
use Rattle.text.specs.Number.{value_from}
use Rattle.scanning.specs.Bytes.{first, tail, digit, run, past}
use Rattle.session_lines.specs.declared.numbers.Number.{Number}

abbrev pub greatest : ℕ
greatest = 2147483648

unfoldable pub numeral_of : Bool → ℕ → Option Number
numeral_of negative size = cond (leb size greatest) (Some (record { negative = negative; size = size })) None

-- ---- fields

-- 45 is the minus, 32 the space
abbrev pub minus : List ℕ → Bool
minus l = eqb (first (tail l)) 45

abbrev pub digits_in : List ℕ → List ℕ
digits_in l = cond (minus l) (tail (tail l)) (tail l)

-- the number of a text's first field, told where its digits begin
unfoldable pub number_with : Bool → List ℕ → List ℕ → Option Number
number_with negative l d =
    cond (eqb (first l) 32) (cond (digit (first d)) (numeral_of negative (value_from 0 (run d))) None) None

unfoldable pub number_in : List ℕ → Option Number
number_in l = number_with (minus l) l (digits_in l)

unfoldable pub past_field : List ℕ → List ℕ
past_field l = past (digits_in l)

-- ---- values

-- a number that goes at most so far below 0, or so far above it
unfoldable pub fits : ℕ → ℕ → Option Number → Bool
fits below above (Some n) = leb n.size (cond n.negative below above)
fits below above None = false

abbrev pub value_of : Option Number → ℤ
value_of (Some n) = cond n.negative (neg_ℤ (pos n.size)) (pos n.size)
value_of None = pos 0

abbrev pub size_of : Option Number → ℕ
size_of (Some n) = n.size
size_of None = 0

-- a number as it stands in a field with a sign, or in one without, if it has room there
abbrev pub signed_in : ℕ → ℕ → Option Number → Option ℤ
signed_in below above n = cond (fits below above n) (Some (value_of n)) None

abbrev pub unsigned_in : ℕ → Option Number → Option ℕ
unsigned_in above n = cond (fits 0 above n) (Some (size_of n)) None
