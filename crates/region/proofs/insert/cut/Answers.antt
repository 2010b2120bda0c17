-- `region::insert::cut` meets its contract: both ends are cut, and the new edge is put before what is left.
use Rattle.region.proofs.Cuts.{cut-none, cut-cutting, cut-put}
use Rattle.region.proofs.insert.cut.Goals as goal

pub returns-then-n-lt2 : goal.returns-then-n-lt2
returns-then-n-lt2 c =
    cut-none c.args.h c.requires c.front-dropped.ensures c.if-n-lt2.true

pub back-left-requires : goal.back-left-requires
back-left-requires c =
    cut-cutting c.args.h c.requires c.front-dropped.ensures c.if-n-lt2.false

pub returns : goal.returns
returns c =
    cut-put c.args.h c.requires c.front-dropped.ensures c.if-n-lt2.false c.back-left.ensures
