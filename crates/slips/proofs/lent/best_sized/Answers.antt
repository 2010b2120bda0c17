-- `slips::lent::best_sized` meets its contract: there is room for as many rules as the book can have.
use borrow.Author.Rules.{rules}
use Rattle.slip.proofs.Read.{few-roomy}
use Rattle.slips.proofs.lent.best_sized.Goals as goal

pub best_in-requires : goal.best_in-requires
best_in-requires g c =
    let s = c in
    record {
      room = few-roomy s.args.book.now g.row.RULES s.requires.few.few _ _ (search rules) (search rules);
      pair = s.requires.few.pair;
    }
