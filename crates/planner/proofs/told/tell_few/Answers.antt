-- `planner::told::tell_few` meets its contract: by its length a short book has no more rules than the short runs have room for.
use native.Mathlib.Omega.{arith}
use Rattle.planner.proofs.Classes.{short-width, few-by-length}
use Rattle.planner.proofs.told.tell_few.Goals as goal

pub overflow_mul-width : goal.overflow_mul-width
overflow_mul-width c =
    let b = c.book.inside in
    omega (arith, c.width.ensures, short-width b.version b.bytes.now c.book.view_is)

pub tell_sized-requires-clause-few : goal.tell_sized-requires-clause-few
tell_sized-requires-clause-few c =
    let b = c.book.inside in
    few-by-length b.version b.bytes.now c.book.view_is 30 c.width.ensures c.if-book-width.true
