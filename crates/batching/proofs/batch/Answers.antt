-- `batching::batch` meets its contract: by its length a book has no more rules than the runs have room for, and none has more than 4,095.
use mathlib.Core.Path.{refl}
use Rattle.records.specs.declared.Version.TheVariants.{Two}
use Rattle.repacker.proofs.Output.{most-rules}
use Rattle.planner.proofs.Classes.{few-by-length}
use Rattle.batching.proofs.batch.Goals as goal

pub batch_sized-requires-clause-few : goal.batch_sized-requires-clause-few
batch_sized-requires-clause-few c =
    few-by-length Two c.args.book.now refl 30 refl c.if-book-le434.true

pub batch_sized-requires-then-book-le3584-clause-few : goal.batch_sized-requires-then-book-le3584-clause-few
batch_sized-requires-then-book-le3584-clause-few c =
    few-by-length Two c.args.book.now refl 255 refl c.if-book-le3584.true

pub batch_sized-requires-else-book-le3584-clause-few : goal.batch_sized-requires-else-book-le3584-clause-few
batch_sized-requires-else-book-le3584-clause-few c =
    most-rules Two c.args.book.now refl
