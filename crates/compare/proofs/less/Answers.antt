-- `compare::less` meets its contract.
use mathlib.Core.Path.{◌∙◌}
use Rattle.ints.proofs.Bits.{read}
use Rattle.lp.specs.Corners.{less}
use Rattle.compare.proofs.Points.{less-read, denominator-told, denominators, in-range, out_of_range}
use Rattle.compare.proofs.less.Goals as goal

pub smaller-requires : goal.smaller-requires
smaller-requires c =
    let a = c.args in
    denominators (read a.d) (read a.d2) c.is_denominator.ensures c.is_denominator-2.ensures
    c.if-is_denominator.true

pub returns-then-is_denominator : goal.returns-then-is_denominator
returns-then-is_denominator c =
    let a = c.args in
    let f = c.ranges in
    less-read a.x a.d a.x2 a.d2 f.x.sfits f.d.sfits f.x2.sfits f.d2.sfits c.smaller.ensures
    ∙ in-range a.d a.d2 (denominator-told a.d f.d.sfits c.is_denominator.ensures)
    (denominator-told a.d2 f.d2.sfits c.is_denominator-2.ensures)
    (less a.x a.d a.x2 a.d2)
    c.if-is_denominator.true

pub returns-else-is_denominator : goal.returns-else-is_denominator
returns-else-is_denominator c =
    let a = c.args in
    let f = c.ranges in
    c.if-is_denominator.false ∙ out_of_range a.d a.d2 (denominator-told a.d f.d.sfits c.is_denominator.ensures)
    (denominator-told a.d2 f.d2.sfits c.is_denominator-2.ensures)
    (less a.x a.d a.x2 a.d2)
    c.if-is_denominator.false
