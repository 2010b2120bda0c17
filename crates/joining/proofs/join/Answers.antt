-- `joining::join` meets its contract: by their lengths books that are not long have no more than 255 rules.
use mathlib.Core.Path.{refl}
use Rattle.joining.proofs.Classes.{few_of_lengths}
use Rattle.joining.proofs.join.Goals as goal

pub join_few-requires : goal.join_few-requires
join_few-requires c =
    few_of_lengths c.args.site.now c.args.tenant.now 255 3584 refl c.if-site-gt3584.false c.if-tenant-gt3584.false
