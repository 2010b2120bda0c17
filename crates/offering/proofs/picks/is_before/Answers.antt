-- `offering::picks::is_before` meets its contract: least x + y, and then least x.
use mathlib.Core.List.{[], ◌∷◌}
use Rattle.lp.specs.Document as document
use Rattle.offering.proofs.Orders.{more-first, less-last, level-next, more-last, total-small, least-small}
use Rattle.offering.proofs.picks.is_before.Goals as goal

pub earns_more-requires : goal.earns_more-requires
earns_more-requires c = record { functional = total-small; points = c.requires }

pub returns-then-earns_more : goal.returns-then-earns_more
returns-then-earns_more c =
    let a = c.args in
    more-first (document.tie).first a.w a.v ((document.tie).second ∷ []) c.earns_more.ensures c.if-earns_more.true

pub earns_more-requires-2 : goal.earns_more-requires-2
earns_more-requires-2 c =
    record { functional = total-small; points = record { first = c.requires.second; second = c.requires.first } }

pub returns-then-earns_more-2 : goal.returns-then-earns_more-2
returns-then-earns_more-2 c =
    let a = c.args in
    less-last (document.tie).first a.w a.v ((document.tie).second ∷ []) c.earns_more.ensures
    c.earns_more-2.ensures c.if-earns_more.false c.if-earns_more-2.true

pub earns_more-requires-3 : goal.earns_more-requires-3
earns_more-requires-3 c = record { functional = least-small; points = c.requires }

pub returns : goal.returns
returns c =
    let a = c.args in
    level-next (document.tie).first a.w a.v ((document.tie).second ∷ []) c.earns_more.ensures
    c.earns_more-2.ensures c.if-earns_more.false c.if-earns_more-2.false
    (more-last (document.tie).second a.w a.v c.earns_more-3.ensures)
