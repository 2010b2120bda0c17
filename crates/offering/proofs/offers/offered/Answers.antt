-- `offering::offers::offered` meets its contract: no corner, a ray that gains, or the best corner.
use native.Mathlib.Omega.{arith}
use Rattle.offering.proofs.Planned.{offer-none, offer-unlimited, offer-best}
use Rattle.offering.proofs.offers.offered.Goals as goal

pub returns-then-count-eq0 : goal.returns-then-count-eq0
returns-then-count-eq0 c =
    let a = c.args in
    offer-none a.cone a.corners.now a.f c.if-count-eq0.true

pub returns-in-Some : goal.returns-in-Some
returns-in-Some c =
    offer-unlimited c.args.cone c.args.corners.now c.args.f c.args.count
    (omega (arith, c.if-count-eq0.false)) c.gaining.ensures c.in-Some.is c.requires.first

pub returns-in-None : goal.returns-in-None
returns-in-None c =
    offer-best c.args.cone c.args.corners.now c.args.f c.args.count
    (omega (arith, c.if-count-eq0.false)) c.gaining.ensures c.in-None.is c.best.ensures
