-- `exact::within::earns` meets its contract: p·x + q·y.
use mir.Facts.{to_z-of_z}
use Rattle.exact.proofs.Sizes.{earned-fits}
use Rattle.exact.proofs.within.earns.Goals as goal

pub overflow_add-result : goal.overflow_add-result
overflow_add-result c = search (to_z-of_z, earned-fits c.args.x.small)

pub returns : goal.returns
returns c = search (to_z-of_z, earned-fits c.args.x.small)
