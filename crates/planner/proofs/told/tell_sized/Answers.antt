-- `planner::told::tell_sized` meets its contract: there is room for as many rules as the book can have.
use borrow.Author.Rules.{rules}
use Rattle.planner.proofs.Classes.{few-roomy}
use Rattle.planner.proofs.told.tell_sized.Goals as goal

pub tell_in-requires : goal.tell_in-requires
tell_in-requires g c =
    let k = c.args.book.now in
    few-roomy k.layout k.bytes g.row.RULES c.requires.few _ _ (search rules) (search rules)
