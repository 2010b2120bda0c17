-- `region::turning::spare` meets its contract: there is room for one more index.
use Rattle.region.proofs.Loops.{spared-moved}
use Rattle.region.proofs.turning.spare.Goals as goal

pub returns : goal.returns
returns c = spared-moved c.requires c.slide.ensures
