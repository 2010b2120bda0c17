-- `checking::sums::fused` meets its contract: w·x + t.
use mir.Facts.{to_z-of_z}
use Rattle.slip.proofs.Sizes.{fused-fits}
use Rattle.checking.proofs.sums.fused.Goals as goal

pub returns : goal.returns
returns c = search (to_z-of_z, fused-fits c.requires)
