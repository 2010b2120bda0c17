-- `exact::products::distance` meets its contract: c·d − (a·x + b·y).
use mir.Facts.{to_z-of_z}
use Rattle.exact.proofs.Sizes.{distance-fits}
use Rattle.exact.proofs.products.distance.Goals as goal

pub overflow_add-result : goal.overflow_add-result
overflow_add-result c = search (to_z-of_z, distance-fits c.requires)

pub overflow_sub-result : goal.overflow_sub-result
overflow_sub-result c = search (to_z-of_z, distance-fits c.requires)

pub returns : goal.returns
returns c = search (to_z-of_z, distance-fits c.requires)
