-- `planner::told::tell` meets its contract: by its length a book has no more rules than the runs have room for.
use native.Mathlib.Omega.{arith}
use Rattle.repacker.proofs.Output.{most-rules}
use Rattle.planner.proofs.Classes.{short-width, few-by-length}
use Rattle.planner.proofs.told.tell.Goals as goal

pub overflow_mul-width : goal.overflow_mul-width
overflow_mul-width c =
    let b = c.book.inside in
    omega (arith, c.width.ensures, short-width b.version b.bytes.now c.book.view_is)

pub tell_few-requires : goal.tell_few-requires
tell_few-requires c =
    let b = c.book.inside in
    few-by-length b.version b.bytes.now c.book.view_is 255 c.width.ensures c.if-book-width.true

pub tell_sized-requires-clause-few : goal.tell_sized-requires-clause-few
tell_sized-requires-clause-few c =
    let b = c.book.inside in
    most-rules b.version b.bytes.now c.book.view_is
