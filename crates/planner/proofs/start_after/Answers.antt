-- `planner::start_after` meets its contract: a short book's chain has not more than 255 rules.
use native.Mathlib.Omega.{arith}
use Rattle.planner.proofs.Classes.{short-width, few-by-length}
use Rattle.planner.proofs.start_after.Goals as goal

pub overflow_mul-width : goal.overflow_mul-width
overflow_mul-width c =
    let b = c.book.inside in
    omega (arith, c.width.ensures, short-width b.version b.bytes.now c.book.view_is)

pub tell_few-requires : goal.tell_few-requires
tell_few-requires c =
    let b = c.book.inside in
    few-by-length b.version b.bytes.now c.book.view_is 255 c.width.ensures c.if-book-width.true
