-- `checking::check` meets its contract: by its length a book has at most 30 rules, or at most 255, and none has more than 4,095.
use Rattle.slip.proofs.Read.{few-by-length, most-rules}
use Rattle.checking.proofs.check.Goals as goal

pub check_sized-requires-clause-few : goal.check_sized-requires-clause-few
check_sized-requires-clause-few c = few-by-length c.args.book.now 30 c.if-book-le434.true

pub check_sized-requires-then-book-le3584-clause-few : goal.check_sized-requires-then-book-le3584-clause-few
check_sized-requires-then-book-le3584-clause-few c = few-by-length c.args.book.now 255 c.if-book-le3584.true

pub check_sized-requires-else-book-le3584-clause-few : goal.check_sized-requires-else-book-le3584-clause-few
check_sized-requires-else-book-le3584-clause-few c = most-rules c.args.book.now
