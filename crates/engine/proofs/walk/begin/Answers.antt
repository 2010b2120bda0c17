-- `engine::walk::begin` meets its contract: before the first rule: the floors' corner, and the two axes.
use Rattle.engine.proofs.Walks.{begun_open, begun-best}
use Rattle.engine.proofs.walk.begin.Goals as goal

pub returns-in-Some : goal.returns-in-Some
returns-in-Some c =
    begun_open c.args.floors c.args.objective c.requires.floors-small
    c.gaining.ensures c.in-Some.is c.going.ensures

pub returns-in-None : goal.returns-in-None
returns-in-None c =
    begun-best c.args.floors c.args.objective c.requires.floors-small
    c.gaining.ensures c.in-None.is c.going-in-None.ensures
