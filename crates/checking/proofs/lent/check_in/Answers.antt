-- `checking::lent::check_in` meets its contract: the book is read, and a slip for an accepted one is judged.
use Rattle.slip.proofs.Read.{judged_asks, accepted-verdict, refused-verdict}
use Rattle.checking.proofs.lent.check_in.Goals as goal

pub judged-requires : goal.judged-requires
judged-requires c = judged_asks c.args.book.now _ _ c.in-Ok.head _ _ c.in-Ok.ensures c.requires

pub returns-in-Ok : goal.returns-in-Ok
returns-in-Ok c =
    accepted-verdict c.args.book.now _ _ c.in-Ok.head _ _ c.in-Ok.ensures c.requires c.args.slip c.judged.ensures

pub returns-in-Err : goal.returns-in-Err
returns-in-Err c = refused-verdict c.in-Err.ensures c.args.slip
