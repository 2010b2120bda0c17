-- `joining::join_sized` meets its contract: there is room for as many rules of each book as it can have.
use borrow.Author.Rules.{rules}
use Rattle.joining.proofs.Classes.{roomy}
use Rattle.joining.proofs.join_sized.Goals as goal

pub join_in-requires : goal.join_in-requires
join_in-requires g c =
    let start = c in
    roomy start.args.site.now start.args.tenant.now g.row.RULES start.requires.few _ _ (search rules) (search rules)
