-- Numbers as bytes: decimal, with no leading zeros and no plus sign. A field of a line stands after one space. It rests on the bytes
-- of a text (Text).
use Rattle.std.specs.Prelude.{List, [], ◌∷◌, ◌++◌, ℕ, zero, suc, ◌+◌, ◌-◌, ◌*◌, ◌/◌, ◌%◌, ℤ, pos, negsuc}
use Rattle.text.specs.Text.{text}

-- the byte of a digit: "0" is 48
abbrev pub digit : ℕ → List ℕ
digit r = (48 + r) ∷ []

-- two digits, for a number below 100
abbrev pub two_digits : ℕ → List ℕ
two_digits n = digit (n / 10) ++ digit (n % 10)

-- the digits of 10 · q + r, for a digit r; k bounds the number of steps
abbrev pub digits : ℕ → ℕ → ℕ → List ℕ
digits zero q r = digit r
digits (suc k) zero r = digit r
digits (suc k) (suc q) r = digits k (suc q / 10) (suc q % 10) ++ digit r

unfoldable pub decimal : ℕ → List ℕ
decimal n = digits n (n / 10) (n % 10)

-- the number that digits write, after a number already written
unfoldable pub value_from : ℕ → List ℕ → ℕ
value_from n [] = n
value_from n (d ∷ s) = value_from (n * 10 + (d - 48)) s

unfoldable pub signed : ℤ → List ℕ
signed (pos n) = decimal n
signed (negsuc n) = text "-" ++ decimal (suc n)

-- ---- fields: each after one space

abbrev pub field : List ℕ → List ℕ
field bytes = text " " ++ bytes

unfoldable pub number : ℕ → List ℕ
number n = field (decimal n)

unfoldable pub integer : ℤ → List ℕ
integer z = field (signed z)

-- what of it stands before the digits
unfoldable pub sign : ℤ → List ℕ
sign (pos n) = text " "
sign (negsuc n) = text " -"

-- ---- what every program prints of something turned back: the cause's number, and the record that it names

unfoldable pub refused : ℕ → ℕ → List ℕ
refused cause index = text "refused" ++ (number cause ++ number index)
