-- The code's table of the labels met: a bit for each, 64 to a word. Only functions that the crate keeps to itself cite it.
use Rattle.std.specs.Prelude.{ℕ, ◌+◌, ◌/◌, ◌%◌, ◌^◌, Bool, List, get_or, set, eqb}

-- whether a number's bit is set
unfoldable pub is_noted : List ℕ → ℕ → Bool
is_noted t l = eqb (get_or t (l / 64) 0 / 2 ^ (l % 64) % 2) 1

-- the table with a number's bit set, where it was not
unfoldable pub noting : List ℕ → ℕ → List ℕ
noting t l = set t (l / 64) (get_or t (l / 64) 0 + 2 ^ (l % 64))
