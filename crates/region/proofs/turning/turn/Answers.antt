-- `region::turning::turn` meets its contract: the first edge is put behind the last.
use Rattle.region.proofs.Loops.{turned}
use Rattle.region.proofs.turning.turn.Goals as goal

pub returns : goal.returns
returns c = turned c.requires c.spare-at.ensures
