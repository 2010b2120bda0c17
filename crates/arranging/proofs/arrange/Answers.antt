-- `arranging::arrange` meets its contract: counted up, sorted, and one kept of each.
use Rattle.sorting.specs.Keys.{comes_at}
use Rattle.arranging.proofs.Steps.{too_long, arranged-run}
use Rattle.arranging.proofs.arrange.Goals as goal

pub returns-then-run-gt4098 : goal.returns-then-run-gt4098
returns-then-run-gt4098 c = let a = c.args in too_long (comes_at a.keys.now) a.run.now c.if-run-gt4098.true

pub returns : goal.returns
returns c =
    let a = c.args in
    arranged-run (comes_at a.keys.now) c.if-run-gt4098.false c.count_up.ensures
    c.sort.ensures
    c.keep_distinct.ensures
