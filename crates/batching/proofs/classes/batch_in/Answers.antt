-- `batching::classes::batch_in` meets its contract: refused as read, or what its objectives are answered.
use mathlib.Core.Path.{sym}
use mathlib.Core.List.{[]}
use borrow.Author.Rules.{rules}
use Rattle.book.proofs.Said.{said-refused}
use Rattle.batching.proofs.Runs.{entered}
use Rattle.batching.proofs.Output.{batch-refused, batch-done}
use Rattle.batching.proofs.classes.batch_in.Goals as goal

pub returns-in_err-head : goal.returns-in_err-head
returns-in_err-head c =
    let a = c.args in
    batch-refused a.book.now a.objectives.now a.out.now (said-refused c.in_err-head.ensures) (search rules)

pub slice_bounds-answer-end : goal.slice_bounds-answer-end
slice_bounds-answer-end c = (entered [] c.requires c.in_ok-head.ensures c.read.auto.records).named

pub slice_bounds-answer-end-2 : goal.slice_bounds-answer-end-2
slice_bounds-answer-end-2 c = (entered [] c.requires c.in_ok-head.ensures c.read.auto.records).ordered

pub returns : goal.returns
returns c =
    let a = c.args in
    let x = entered _ c.requires c.in_ok-head.ensures c.read.auto.records in
    batch-done a.book.now a.objectives.now a.out.now x.ready c.requires _ (sym x.ordered) c.run-1.given.1 c.answer.ensures
    c.batched.ensures
