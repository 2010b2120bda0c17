-- `offering::picks::earns_more` meets its contract: fractions are compared.
use Rattle.offering.proofs.Sizes.{weighed}
use Rattle.offering.proofs.picks.earns_more.Goals as goal

pub returns : goal.returns
returns c = weighed c.requires c.earns.type_inv c.earns-2.type_inv c.earns.ensures c.earns-2.ensures c.less.ensures
