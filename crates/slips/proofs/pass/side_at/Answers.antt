-- `slips::pass::side_at` meets its contract: the entry at a place of the runs.
use native.Mathlib.Omega.{arith}
use lib.ListN.{get_or}
use Rattle.slips.specs.Pass.{side}
use Rattle.slips.proofs.Sizes.{code_fits, code_read}
use Rattle.slips.proofs.pass.side_at.Goals as goal

pub overflow_cast-result : goal.overflow_cast-result
overflow_cast-result c = omega (arith, c.type_inv.records c.args.i)

pub overflow_add-result : goal.overflow_add-result
overflow_add-result c = code_fits (get_or c.args.records.now c.args.i 0) (c.type_inv.records
    c.args.i).fits

pub returns : goal.returns
returns c =
    let s = c.args in
    λ i. side (code_read (get_or s.records.now s.i 0) (c.type_inv.records s.i).fits i) (c.rule_at.ensures i)
