-- `planner::plan` meets its contract: no chain of a book has more than 65,535 rules, and a short book's not more than 255.
use native.Mathlib.Omega.{arith}
use Rattle.planner.proofs.Classes.{short-width, few-by-length, all_whole}
use Rattle.planner.proofs.plan.Goals as goal

pub overflow_mul-width : goal.overflow_mul-width
overflow_mul-width c =
    let b = c.book.inside in
    omega (arith, c.width.ensures, short-width b.version b.bytes.now c.book.view_is)

pub tell_few-requires : goal.tell_few-requires
tell_few-requires c =
    let b = c.book.inside in
    few-by-length b.version b.bytes.now c.book.view_is 255 c.width.ensures c.if-book-width.true

pub returns-then-book-width : goal.returns-then-book-width
returns-then-book-width c =
    let b = c.book.inside in
    c.tell_few.ensures.answered (all_whole b.version b.bytes.now c.book.view_is)

pub returns-else-book-width : goal.returns-else-book-width
returns-else-book-width c =
    let b = c.book.inside in
    c.tell.ensures.answered (all_whole b.version b.bytes.now c.book.view_is)
