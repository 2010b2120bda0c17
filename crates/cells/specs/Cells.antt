-- Numbers, pairs and answers as bytes: eight to a number, little-endian, signed ones in two's complement (requests 109 and 110).
use Rattle.std.specs.Prelude.{ℕ, ◌+◌, List, ◌++◌, cond, leb, length, ℤ}
use Rattle.std.proofs.Math.Seq.{paste}
use Rattle.std.specs.Int.{w64}
use Rattle.std.proofs.Common.{of_z}
use Rattle.lp.specs.declared.Point.{Point}
use Rattle.records.specs.Number.{bytes_of}

abbrev pub unsigned_cell : ℕ → List ℕ
unsigned_cell n = bytes_of 8 n

abbrev pub cell_of : ℤ → List ℕ
cell_of z = unsigned_cell (of_z w64 z)

-- X, Y, D
abbrev pub point_bytes : Point → List ℕ
point_bytes v = cell_of v.x ++ (cell_of v.y ++ cell_of v.d)

-- the outcome, which is below 256 and so stands before seven zeros, and the pair
abbrev pub answer_bytes : ℕ → Point → List ℕ
answer_bytes outcome v = unsigned_cell outcome ++ point_bytes v

-- n bytes at a place of the output, if there is room for them
abbrev pub stored : List ℕ → ℕ → ℕ → List ℕ → List ℕ
stored out at n bytes = cond (leb (at + n) (length out)) (paste out at bytes n) out
