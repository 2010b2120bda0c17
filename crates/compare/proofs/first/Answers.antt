-- `compare::first` meets its contract: x decides, and where it is the same, y.
use mathlib.Core.Path.{◌∙◌}
use Rattle.compare.proofs.Points.{less-read, first-first, second-first, by-y}
use Rattle.compare.proofs.first.Goals as goal

pub returns-then-smaller : goal.returns-then-smaller
returns-then-smaller c =
    let v = c.args.v in
    let w = c.args.w in
    let hv = c.struct_told-1.given in
    let hw = c.struct_told-3-1.given in
    first-first v w
    (less-read v.x v.d w.x w.d hv.0.1 hv.1.1.0.1 hw.0.1 hw.1.1.0.1 c.smaller.ensures)
    c.if-smaller.true

pub returns-then-smaller-2 : goal.returns-then-smaller-2
returns-then-smaller-2 c =
    let v = c.args.v in
    let w = c.args.w in
    let hv = c.struct_told-1.given in
    let hw = c.struct_told-3-1.given in
    second-first v w
    (less-read v.x v.d w.x w.d hv.0.1 hv.1.1.0.1 hw.0.1 hw.1.1.0.1 c.smaller.ensures)
    (less-read w.x w.d v.x v.d hw.0.1 hw.1.1.0.1 hv.0.1 hv.1.1.0.1 c.smaller-2.ensures)
    c.if-smaller.false
    c.if-smaller-2.true

pub returns : goal.returns
returns c =
    let v = c.args.v in
    let w = c.args.w in
    let hv = c.struct_told-1.given in
    let hw = c.struct_told-3-1.given in
    less-read v.y v.d w.y w.d hv.1.0.1 hv.1.1.0.1 hw.1.0.1 hw.1.1.0.1 c.smaller-3.ensures
    ∙ by-y v w
    (less-read v.x v.d w.x w.d hv.0.1 hv.1.1.0.1 hw.0.1 hw.1.1.0.1 c.smaller.ensures)
    (less-read w.x w.d v.x v.d hw.0.1 hw.1.1.0.1 hv.0.1 hv.1.1.0.1 c.smaller-2.ensures)
    c.if-smaller.false
    c.if-smaller-2.false
