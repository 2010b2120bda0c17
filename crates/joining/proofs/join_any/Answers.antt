-- `joining::join_any` meets its contract: by their lengths books that are not long have no more than 255 rules, and none has more than
-- 4,095.
use mathlib.Core.Path.{refl}
use Rattle.joining.proofs.Classes.{few-by-length, most-rules}
use Rattle.joining.proofs.join_any.Goals as goal

pub join_few-requires : goal.join_few-requires
join_few-requires c =
    few-by-length c.args.site.now c.args.tenant.now 255 3584 refl c.within.ensures c.if-within.true

pub join_sized-requires-clause-few : goal.join_sized-requires-clause-few
join_sized-requires-clause-few c =
    most-rules c.args.site.now c.args.tenant.now
