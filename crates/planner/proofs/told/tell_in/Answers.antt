-- `planner::told::tell_in` meets its contract: the answer, the view and the panel of one run.
use Rattle.planner.proofs.Runs.{runs_by}
use Rattle.planner.proofs.Tellings.{run-noted, told-shown}
use Rattle.planner.proofs.told.tell_in.Goals as goal

pub panelled-requires : goal.panelled-requires
panelled-requires c =
    let b = c.args.book.now in
    let k = c.args.prefix in
    let run = c.run-found in
    run-noted b.layout b.bytes k run.result _
    (runs_by b.layout b.bytes k c.args.records.now c.args.entries.now c.requires run.result _ _ run.ensures)

pub returns : goal.returns
returns c =
    let b = c.args.book.now in
    let k = c.args.prefix in
    let run = c.run-found in
    told-shown b.layout b.bytes k run.result _
    (runs_by b.layout b.bytes k c.args.records.now c.args.entries.now c.requires run.result _ _ run.ensures)
    c.answered.ensures c.viewed.ensures c.panelled.ensures
