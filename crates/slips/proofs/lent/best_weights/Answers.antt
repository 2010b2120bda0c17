-- `slips::lent::best_weights` meets its contract: by its length a short book has at most 30 rules, and none has more than 4,095.
use Rattle.slip.proofs.Read.{few-by-length, most-rules}
use Rattle.slips.proofs.lent.best_weights.Goals as goal

pub best_sized-requires-clause-few : goal.best_sized-requires-clause-few
best_sized-requires-clause-few c = record {
  few = few-by-length c.args.book.now 30
      c.if-book-le434.true;
  pair = c.requires;
}

pub best_sized-requires-else-book-le434-clause-few : goal.best_sized-requires-else-book-le434-clause-few
best_sized-requires-else-book-le434-clause-few c = record { few = most-rules c.args.book.now; pair = c.requires }
