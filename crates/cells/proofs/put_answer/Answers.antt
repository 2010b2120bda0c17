-- `cells::put_answer` meets its contract: a number and a pair after it are an answer.
use native.Mathlib.Omega.{arith}
use Prim.Native.Nat.{◌+◌, ◌-◌}
use mathlib.Core.Path.{◌∙◌}
use Rattle.cells.proofs.Written.{answer-put, cell-put, cell-written}
use Rattle.cells.proofs.put_answer.Goals as goal

pub returns : goal.returns
returns c =
    let o = c.args.out.now in
    let at = c.args.at in
    let outcome = c.args.outcome in
    answer-put o at outcome c.args.v (omega arith)
    (cell-put o at (at + 8 - at) outcome (c.copy_from_slice.ensures.after ∙ cell-written outcome c.to_le_bytes.ensures) (omega arith))
    c.put_point.ensures
