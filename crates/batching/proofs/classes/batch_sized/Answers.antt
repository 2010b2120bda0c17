-- `batching::classes::batch_sized` meets its contract: there is room for as many rules as the book can have.
use borrow.Author.Rules.{rules}
use Rattle.batching.proofs.Runs.{few-roomy}
use Rattle.batching.proofs.classes.batch_sized.Goals as goal

pub batch_in-requires : goal.batch_in-requires
batch_in-requires g c =
    let start = c in
    few-roomy start.args.book.now g.row.RULES start.requires.few _ _ _ _
    (search rules) (search rules) (search rules) (search rules)
