-- `fraction::reduce` meets its contract.
use Rattle.fraction.proofs.Quotients.{divisor_of_three, quotient-read, point-same}
use Rattle.fraction.proofs.reduce.Goals as goal

pub returns : goal.returns
returns c =
    let my = c.magnitude in
    let mx = c.magnitude-2 in
    let md = c.magnitude-3 in
    let mxd = c.divisor in
    let all = c.divisor-g in
    let a = c.args.v in
    let h = c.struct_told-1.given in
    let g = divisor_of_three a.x a.y a.d h.0.1 h.1.0.1 h.1.1.0.1 my.ensures mx.ensures md.ensures
    mxd.ensures all.ensures in
    let x = c.quotient in
    let y = c.quotient-2 in
    let d = c.quotient-3 in
    point-same (quotient-read a.x h.0.1 g x.result x.type_inv x.ensures)
    (quotient-read a.y h.1.0.1 g y.result y.type_inv y.ensures)
    (quotient-read a.d h.1.1.0.1 g d.result d.type_inv d.ensures)
