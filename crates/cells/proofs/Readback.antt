-- What was written reads back: the eight bytes of a number, whatever comes after them, are that number; and so the three numbers of a pair
-- that was stored, where it was stored.
use Prim.Native.Nat.{ℕ, zero, suc, ◌+◌, ◌*◌, ◌/◌, ◌^◌, ◌≤◌, ◌<◌}
use mathlib.Core.Path.{◌≡◌, sym, ap, ◌∙◌, subst}
use mathlib.Core.List.{List, ◌++◌, append_assoc}
use native.Mathlib.Omega.{arith}
use native.Mathlib.Nat.{pow-suc, mul_comm}
use mathlib.Core.Bool.{cond}
use borrow.Author.Tests.{le-leb}
use lib.ListN.{length, take, drop}
use lib.Seq.{paste, drop_at, take_all, length-take-le, drop-drop}
use lib.IntN.{ℤ}
use mir.Syntax.{w64}
use mir.Val.{SFits, to_z, of_z}
use mir.Facts.{to_z-of_z, Fits-of_z}
use Rattle.lp.specs.declared.Point.{Point}
use Rattle.records.specs.Number.{number, bytes_of}
use Rattle.cells.specs.Cells.{cell_of, point_bytes, stored}
use Rattle.cells.proofs.Written.{length-cell, length-point}

number-written : (n v : ℕ) (t : List ℕ) → v < 256 ^ n → number n (bytes_of n v ++ t) ≡ v
unfolding number bytes_of
number-written zero v t h = omega arith
number-written (suc n) v t h =
    let fits : v < 256 * 256 ^ n = subst (λ (m : ℕ). v < m) (pow-suc 256 n ∙ mul_comm (256 ^ n) 256) h in
    let less : v / 256 < 256 ^ n = omega arith in
    let e = number-written n (v / 256) t less in
    omega arith

-- ---- one number

pub cell_readback : (z : ℤ) (t : List ℕ) → SFits w64 z → to_z w64 (number 8 (cell_of z ++ t)) ≡ z
cell_readback z t f =
    ap (to_z w64) (number-written 8 (of_z w64 z) t (Fits-of_z {w = w64} {z = z} f).fits) ∙ to_z-of_z {w = w64} f

-- ---- a pair that was stored

-- a number of three in a row, and what comes after it
past : (z : ℤ) (t : List ℕ) → drop 8 (cell_of z ++ t) ≡ t
past z t = drop_at (cell_of z) t 8 (length-cell (of_z w64 z))

module _ (o : List ℕ) (at : ℕ) (v : Point) (room : at + 24 ≤ length o) where
  abbrev rest : List ℕ
  rest = drop (at + 24) o

  -- the output from the pair's place on
  from_place : drop at (stored o at 24 (point_bytes v)) ≡ cell_of v.x ++ (cell_of v.y ++ (cell_of v.d ++ rest))
  from_place =
      ap (λ t. drop at (cond t (paste o at (point_bytes v) 24) o)) (le-leb (at + 24) (length o) room)
      ∙ ap (drop at) (append_assoc (take at o) (take 24 (point_bytes v)) rest)
      ∙ drop_at (take at o) (take 24 (point_bytes v) ++ rest) at (length-take-le at o (omega arith))
      ∙ ap (λ l. l ++ rest) (take_all 24 (point_bytes v) (omega (arith, length-point v)))
      ∙ append_assoc (cell_of v.x) (cell_of v.y ++ cell_of v.d) rest
      ∙ ap (λ l. cell_of v.x ++ l) (append_assoc (cell_of v.y) (cell_of v.d) rest)

  -- each of its three numbers, read as signed
  pub record ReadBack (out : List ℕ) : Type 0 where
    pub x : to_z w64 (number 8 (drop at out)) ≡ v.x
    pub y : to_z w64 (number 8 (drop (at + 8) out)) ≡ v.y
    pub d : to_z w64 (number 8 (drop (at + 16) out)) ≡ v.d

  pub point_readback : SFits w64 v.x → SFits w64 v.y → SFits w64 v.d → ReadBack (stored o at 24 (point_bytes v))
  point_readback fx fy fd =
      record {
        x = ap (λ l. to_z w64 (number 8 l)) from_place ∙ cell_readback v.x (cell_of v.y ++ (cell_of v.d ++ rest)) fx;
        y =
            ap (λ l. to_z w64 (number 8 l)) (sym (drop-drop 8 at out) ∙ ap (drop 8) from_place ∙ past v.x _)
            ∙ cell_readback v.y (cell_of v.d ++ rest) fy;
        d =
            ap (λ l. to_z w64 (number 8 l))
            (sym (drop-drop 16 at out)
            ∙ ap (drop 16) from_place
            ∙ sym (drop-drop 8 8 (cell_of v.x ++ (cell_of v.y ++ (cell_of v.d ++ rest))))
            ∙ ap (drop 8) (past v.x (cell_of v.y ++ (cell_of v.d ++ rest)))
            ∙ past v.y (cell_of v.d ++ rest))
            ∙ cell_readback v.d rest fd;
      }
    where
      out : List ℕ
      out = stored o at 24 (point_bytes v)
