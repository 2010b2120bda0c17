-- `region::grow::grow` meets its contract: the ring of the rules that the order names.
use native.Mathlib.Omega.{arith}
use lib.ListN.{length-set}
use mathlib.Core.Path.{◌∙◌}
use Rattle.region.proofs.Growth.{seeded-length, grow-entering, grow-grown}
use Rattle.region.proofs.grow.grow.Goals as goal

pub bounds-ring-1 : goal.bounds-ring-1
bounds-ring-1 c = simp length-set (omega (arith, c.requires.room))

pub bounds-ring-2 : goal.bounds-ring-2
bounds-ring-2 c = simp length-set (omega (arith, c.requires.room))

pub enter-requires : goal.enter-requires
enter-requires c = grow-entering c.requires c.size.ensures

pub shape_of-ring : goal.shape_of-ring
shape_of-ring c =
    c.enter.ensures.same ∙ seeded-length c.requires

pub returns : goal.returns
returns c =
    grow-grown c.requires c.size.ensures
    c.enter.ensures
