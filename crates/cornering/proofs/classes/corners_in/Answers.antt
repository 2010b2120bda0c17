-- `cornering::classes::corners_in` meets its contract: refused as read, or the list of the corners that were laid out.
use mathlib.Core.Path.{sym}
use mathlib.Core.List.{[]}
use Rattle.book.proofs.Said.{said-refused}
use Rattle.batching.proofs.Runs.{entered}
use Rattle.cornering.proofs.Books.{outlines-refused, outlines}
use Rattle.cornering.proofs.classes.corners_in.Goals as goal

pub returns-in-Err : goal.returns-in-Err
returns-in-Err c = outlines-refused c.args.book.now c.args.out.now (said-refused c.in-Err.ensures)

pub slice_bounds-lay-end : goal.slice_bounds-lay-end
slice_bounds-lay-end c = (entered [] c.requires c.in-Ok.ensures c.read.auto.records).named

pub slice_bounds-lay-end-2 : goal.slice_bounds-lay-end-2
slice_bounds-lay-end-2 c = (entered [] c.requires c.in-Ok.ensures c.read.auto.records).ordered

pub returns : goal.returns
returns c =
    let x = entered _ c.requires c.in-Ok.ensures c.read.auto.records in
    outlines c.args.book.now _ _ x.ready c.requires _ (sym x.ordered) c.run-1.given.1 c.lay-listed.ensures
    c.count_of.ensures c.args.out.now c.list_corners.ensures
