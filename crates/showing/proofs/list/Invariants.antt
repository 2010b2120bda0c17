-- `showing::list` meets its contract: the lines of the records, each after those before it.
use Rattle.showing.specs.Showing.{row_for}
use Rattle.showing.proofs.Rows.{Shown}
use Rattle.showing.proofs.list.Given as goal

abbrev pub invariant-loop-index : goal.invariant-loop-index
invariant-loop-index l = Shown (row_for l.book.layout l.book.bytes l.v) l.records l.initial.line l.line l.index-index
