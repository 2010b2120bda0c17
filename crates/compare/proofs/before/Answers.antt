-- `compare::before` meets its contract.
use mathlib.Core.Path.{◌∙◌}
use Rattle.lp.specs.Corners.{before}
use Rattle.compare.proofs.Points.{denominator-told, denominators, in-range, out_of_range}
use Rattle.compare.proofs.before.Goals as goal

pub first-requires : goal.first-requires
first-requires c =
    let a = c.args in
    let v = c.struct_told-1.given in
    let w = c.struct_told-2-1.given in
    denominators a.v.d a.w.d
    (denominator-told a.v.d v.1.1.0.1 c.is_denominator.ensures)
    (denominator-told a.w.d w.1.1.0.1 c.is_denominator-2.ensures) c.if-is_denominator.true

pub returns-then-is_denominator : goal.returns-then-is_denominator
returns-then-is_denominator c =
    let a = c.args in
    let v = c.struct_told-1.given in
    let w = c.struct_told-2-1.given in
    c.first.ensures
    ∙ in-range a.v.d a.w.d
    (denominator-told a.v.d v.1.1.0.1 c.is_denominator.ensures)
    (denominator-told a.w.d w.1.1.0.1 c.is_denominator-2.ensures) (before a.v a.w)
    c.if-is_denominator.true

pub returns-else-is_denominator : goal.returns-else-is_denominator
returns-else-is_denominator c =
    let a = c.args in
    let v = c.struct_told-1.given in
    let w = c.struct_told-2-1.given in
    c.if-is_denominator.false ∙ out_of_range a.v.d a.w.d
    (denominator-told a.v.d v.1.1.0.1 c.is_denominator.ensures)
    (denominator-told a.w.d w.1.1.0.1 c.is_denominator-2.ensures) (before a.v a.w) c.if-is_denominator.false
