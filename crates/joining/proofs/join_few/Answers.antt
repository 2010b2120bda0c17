-- `joining::join_few` meets its contract: by their lengths short books have no more rules than the short runs have room for.
use mathlib.Core.Path.{refl}
use Rattle.joining.proofs.Classes.{few-by-length}
use Rattle.joining.proofs.join_few.Goals as goal

pub join_sized-requires-clause-few : goal.join_sized-requires-clause-few
join_sized-requires-clause-few c =
    few-by-length c.args.site.now c.args.tenant.now 30 434 refl c.within.ensures c.if-within.true
