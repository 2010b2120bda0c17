-- Points one after the other, 24 bytes each: the list of request 110. Bytes after it are as they were, and so are all where it does not
-- fit.
use Rattle.std.specs.Prelude.{◌≡◌, List, [], ◌∷◌, ◌++◌, map, Bool, cond, ◌&&◌, ℕ, ◌*◌, ◌≤◌, leb, length, take, ℤ}
use Rattle.std.proofs.Math.Seq.{paste}
use Rattle.lp.specs.declared.Point.{Point}
use Rattle.cells.specs.Cells.{point_bytes}
use Rattle.sorting.specs.Keys.{point_at}

unfoldable pub points_bytes : List Point → List ℕ
points_bytes [] = []
points_bytes (v ∷ l) = point_bytes v ++ points_bytes l

-- the points at the first n indices
abbrev pub points_of : List ℤ → List ℕ → ℕ → List Point
points_of keys run n = map (point_at keys) (take n run)

-- their bytes at the output's front
abbrev pub written : List ℤ → List ℕ → ℕ → List ℕ → List ℕ
written keys run n out = paste out 0 (points_bytes (points_of keys run n)) (24 * n)

-- there are so many, and they fit
abbrev pub fits : List ℕ → ℕ → List ℕ → Bool
fits run n out = leb n (length run) && leb (24 * n) (length out)

pub record Lists (keys : List ℤ) (run : List ℕ) (n : ℕ) (before : List ℕ) (t : Bool) (after : List ℕ) : Type 0 where
  pub told : t ≡ fits run n before
  pub output : after ≡ cond (fits run n before) (written keys run n before) before

-- what the loop asks
pub record Listing (run : List ℕ) (n : ℕ) (out : List ℕ) : Type 0 where
  pub all : n ≤ length run
  pub room : 24 * n ≤ length out
