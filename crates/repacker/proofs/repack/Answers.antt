-- `repacker::repack` meets its contract: by its length a book has no more rules than the run has room for, and none has more than 4,095.
use Rattle.repacker.proofs.Output.{most-rules, short-few}
use Rattle.repacker.proofs.repack.Goals as goal

pub repack_sized-requires-clause-few : goal.repack_sized-requires-clause-few
repack_sized-requires-clause-few c =
    let b = c.book in
    short-few b.inside.version b.inside.bytes.now b.view_is c.if-book-le3584.true

pub repack_sized-requires-else-book-le3584-clause-few : goal.repack_sized-requires-else-book-le3584-clause-few
repack_sized-requires-else-book-le3584-clause-few c =
    let b = c.book in
    most-rules b.inside.version b.inside.bytes.now b.view_is
