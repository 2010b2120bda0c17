-- The line of an answer's bytes is that of its outcome and pair.
use Prim.Native.Nat.{ℕ, ◌%◌, ◌<◌}
use mathlib.Core.Path.{◌≡◌, sym, ap, ◌∙◌}
use mathlib.Core.List.{List, [], ◌++◌, append-nil}
use native.Mathlib.Omega.{arith}
use lib.ListN.{get_or, drop}
use lib.Seq.{drop_at, drop-drop}
use mir.Syntax.{w64}
use mir.Val.{SFits, to_z, of_z}
use Rattle.lp.specs.declared.Point.{Point}
use Rattle.records.specs.Number.{number, bytes_of}
use Rattle.cells.specs.Cells.{unsigned_cell, cell_of, point_bytes, answer_bytes}
use Rattle.cells.proofs.Written.{length-cell}
use Rattle.cells.proofs.Readback.{cell_readback}
use Rattle.batch_line.specs.Line.{offer_line, answer_line}

module _ (n : ℕ) (v : Point) where
  abbrev bytes : List ℕ
  bytes = answer_bytes n v

  first_byte : n < 256 → get_or bytes 0 0 ≡ n
  unfolding bytes_of
  first_byte h = let e : n % 256 ≡ n = omega arith in e

  -- what comes after the outcome, after X and after Y
  after-outcome : drop 8 bytes ≡ point_bytes v
  after-outcome = drop_at (unsigned_cell n) (point_bytes v) 8 (length-cell n)

  after-x : drop 16 bytes ≡ cell_of v.y ++ cell_of v.d
  after-x =
      sym (drop-drop 8 8 bytes)
      ∙ ap (drop 8) after-outcome
      ∙ drop_at (cell_of v.x) (cell_of v.y ++ cell_of v.d) 8 (length-cell (of_z w64 v.x))

  after-y : drop 24 bytes ≡ cell_of v.d ++ []
  after-y =
      sym (drop-drop 8 16 bytes)
      ∙ ap (drop 8) after-x
      ∙ drop_at (cell_of v.y) (cell_of v.d) 8 (length-cell (of_z w64 v.y))
      ∙ sym (append-nil (cell_of v.d))

  pub answer-line : n < 256 →
      SFits w64 v.x →
      SFits w64 v.y →
      SFits w64 v.d →
      answer_line bytes ≡ offer_line n v
  answer-line h fx fy fd =
      let x = ap (λ l. to_z w64 (number 8 l)) after-outcome ∙ cell_readback v.x (cell_of v.y ++ cell_of v.d) fx in
      let y = ap (λ l. to_z w64 (number 8 l)) after-x ∙ cell_readback v.y (cell_of v.d) fy in
      let d = ap (λ l. to_z w64 (number 8 l)) after-y ∙ cell_readback v.d [] fd in
      λ i. offer_line (first_byte h i) (record { x = x i; y = y i; d = d i })
