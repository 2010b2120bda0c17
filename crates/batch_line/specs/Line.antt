-- The line of a batch's answer, from its 32 bytes: the outcome in the first, then X, Y and D in eight bytes each from the ninth on.
use Rattle.std.specs.Prelude.{List, ◌++◌, cond, ℕ, eqb, get_or, drop, ℤ}
use Rattle.std.specs.Int.{w64}
use Rattle.std.proofs.Common.{to_z}
use Rattle.lp.specs.declared.Point.{Point}
use Rattle.lp.specs.Program.{point}
use Rattle.records.specs.Number.{number}
use Rattle.text.specs.Text.{text}
use Rattle.pairs.specs.Pair.{pair}

module _ (s : List ℕ) where
  abbrev pub cell_in : ℕ → ℤ
  cell_in at = to_z w64 (number 8 (drop at s))

  abbrev pub point_in : Point
  point_in = point (cell_in 8) (cell_in 16) (cell_in 24)

  -- of a corner's 24 bytes
  abbrev pub corner_in : Point
  corner_in = point (cell_in 0) (cell_in 8) (cell_in 16)

-- a word, X Y D and the line feed
unfoldable pub pair_line : List ℕ → Point → List ℕ
pair_line word v = word ++ (pair v ++ text "\n")

unfoldable pub offer_line : ℕ → Point → List ℕ
offer_line outcome v =
    cond (eqb outcome 1) (pair_line (text "best") v) (cond (eqb outcome 2) (pair_line (text "unlimited") v) (text "impossible\n"))

abbrev pub answer_line : List ℕ → List ℕ
answer_line s = offer_line (get_or s 0 0) (point_in s)
