-- `slips::pass::floors_held` meets its contract: the floors come first.
use Rattle.ints.proofs.Machine.{weaken}
use Rattle.slip.proofs.Sizes.{opposite-is}
use Rattle.slips.proofs.Sizes.{first_asks, second_asks, both-turned}
use Rattle.slips.proofs.pass.floors_held.Goals as goal

pub nothing_held-requires : goal.nothing_held-requires
nothing_held-requires c = c.requires.objective

pub turned-first-requires : goal.turned-first-requires
turned-first-requires c =
    let h = c.requires in
    first_asks h (opposite-is (weaken tt h.floors-small.lx_small)) c.nothing_held.ensures

pub turned-requires : goal.turned-requires
turned-requires c =
    let h = c.requires in
    let x = opposite-is (weaken tt h.floors-small.lx_small) in
    let y = opposite-is (weaken tt h.floors-small.ly_small) in
    second_asks h x c.nothing_held.ensures c.turned-first.ensures y

pub returns : goal.returns
returns c =
    let h = c.requires in
    let x = opposite-is (weaken tt h.floors-small.lx_small) in
    let y = opposite-is (weaken tt h.floors-small.ly_small) in
    both-turned h x c.nothing_held.ensures c.turned-first.ensures y c.turned.ensures
