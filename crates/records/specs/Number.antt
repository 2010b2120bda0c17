-- Numbers as bytes, little-endian: the byte that counts least comes first. Bytes that are not there read as zero.
use Rattle.std.specs.Prelude.{ℕ, zero, suc, ◌+◌, ◌*◌, ◌/◌, ◌%◌, ◌<◌, ◌≡◌, List, [], ◌∷◌, get_or}

-- the number that the first n bytes of a list make
unfoldable pub number : ℕ → List ℕ → ℕ
number zero xs = 0
number (suc n) [] = 0
number (suc n) (x ∷ xs) = x + 256 * number n xs

-- a number as n bytes
unfoldable pub bytes_of : ℕ → ℕ → List ℕ
bytes_of zero v = []
bytes_of (suc n) v = (v % 256) ∷ bytes_of n (v / 256)

-- a list of bytes, as the code's slices are
abbrev pub Bytes : List ℕ → Type 0
Bytes s = (i : ℕ) → get_or s i 0 < 256

-- n bytes of a list from an index on, with zeros for those that are not there
pub record Copied (s : List ℕ) (at n : ℕ) (r : List ℕ) : Type 0 where
  pub bytes : (j : ℕ) → j < n → get_or r j 0 ≡ get_or s (at + j) 0
