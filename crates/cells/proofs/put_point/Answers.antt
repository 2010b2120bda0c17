-- `cells::put_point` meets its contract: three numbers one after the other are a pair.
use native.Mathlib.Omega.{arith}
use Prim.Native.Nat.{◌+◌, ◌-◌}
use mathlib.Core.Path.{◌∙◌}
use borrow.Author.Rules.{rules}
use mir.Syntax.{w64}
use mir.Val.{of_z}
use Rattle.cells.proofs.Written.{point-put, cell-put, cell-read}
use Rattle.cells.proofs.put_point.Goals as goal

pub returns : goal.returns
returns c =
    let o = c.args.out.now in
    let at = c.args.at in
    let v = c.args.v in
    let x = c.copy_from_slice.ensures.after ∙ cell-read v.x (search rules) c.to_le_bytes.ensures in
    let y = c.copy_from_slice-2.ensures.after ∙ cell-read v.y (search rules) c.to_le_bytes-2.ensures in
    let d = c.copy_from_slice-3.ensures.after ∙ cell-read v.d (search rules) c.to_le_bytes-3.ensures in
    point-put o at v (omega arith)
    (cell-put o at (at + 8 - at) (of_z w64 v.x) x (omega arith))
    (cell-put _ (at + 8) (at + 16 - (at + 8)) (of_z w64 v.y) y (omega arith))
    (cell-put _ (at + 16) (at + 24 - (at + 16)) (of_z w64 v.d) d (omega arith))
