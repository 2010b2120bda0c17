-- `engine::turning::turn_to` meets its contract: the ring begins behind edge k, if there was room to turn it there.
use Rattle.engine.proofs.Turns.{turns-there}
use Rattle.engine.proofs.turning.turn_to.Goals as goal

pub returns-then-down-up : goal.returns-then-down-up
returns-then-down-up c = turns-there c.backwards.ensures

pub returns-then-up-spare : goal.returns-then-up-spare
returns-then-up-spare c = turns-there c.forwards.ensures
