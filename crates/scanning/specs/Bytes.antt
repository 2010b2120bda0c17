-- Bytes of a text: its first one and the text behind it, and the digits that it begins with and the text behind those.
use Rattle.std.specs.Prelude.{Bool, cond, ◌&&◌, List, [], ◌∷◌, ℕ, leb}

abbrev pub first : List ℕ → ℕ
first [] = 0
first (b ∷ s) = b

abbrev pub tail : List ℕ → List ℕ
tail [] = []
tail (b ∷ s) = s

abbrev pub digit : ℕ → Bool
digit b = leb 48 b && leb b 57

-- ---- digits: as many as there are, and the text after them

unfoldable pub run : List ℕ → List ℕ
run [] = []
run (b ∷ s) = cond (digit b) (b ∷ run s) []

unfoldable pub past : List ℕ → List ℕ
past [] = []
past (b ∷ s) = cond (digit b) (past s) (b ∷ s)
