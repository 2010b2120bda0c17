-- `offering::picks::is_better` meets its contract: the objective decides, or else the tie.
use Rattle.lp.specs.Outcome.{tie_order}
use Rattle.lp.specs.Document as document
use Rattle.offering.proofs.Orders.{more-first, less-last, level-next}
use Rattle.offering.proofs.picks.is_better.Goals as goal

pub returns-then-earns_more : goal.returns-then-earns_more
returns-then-earns_more c =
    let a = c.args in
    more-first a.f a.w a.v (tie_order document.tie) c.earns_more.ensures c.if-earns_more.true

pub earns_more-requires-2 : goal.earns_more-requires-2
earns_more-requires-2 c =
    record { functional = c.requires.functional; points = record { first = c.requires.points.second; second = c.requires.points.first } }

pub returns-then-earns_more-2 : goal.returns-then-earns_more-2
returns-then-earns_more-2 c =
    let a = c.args in
    less-last a.f a.w a.v (tie_order document.tie) c.earns_more.ensures
    c.earns_more-2.ensures c.if-earns_more.false c.if-earns_more-2.true

pub returns : goal.returns
returns c =
    let a = c.args in
    level-next a.f a.w a.v (tie_order document.tie) c.earns_more.ensures
    c.earns_more-2.ensures c.if-earns_more.false c.if-earns_more-2.false c.is_before.ensures
