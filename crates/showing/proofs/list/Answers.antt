-- `showing::list` meets its contract: the lines of the records, each after those before it.
use Rattle.showing.specs.Showing.{row_for}
use Rattle.showing.proofs.Rows.{shown-start, shown-step, shown-end}
use Rattle.showing.proofs.list.Goals as goal

pub loop-index-init : goal.loop-index-init
loop-index-init c =
    let book = c.args.book.now in
    shown-start (row_for book.layout book.bytes c.args.v) c.args.records.now c.args.line.now c.requires.has.free

pub loop-index-preserved : goal.loop-index-preserved
loop-index-preserved c = shown-step c.loop-index.invariant c.loop-index-test.true c.row.ensures c.append_row.ensures

pub returns : goal.returns
returns c = shown-end c.loop-index.invariant c.loop-index-test.false
