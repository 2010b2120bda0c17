-- `checking::named::total` meets its contract: the weighted sums of a, b and c.
use Rattle.slip.proofs.Slots.{summed_read, last_summed, second_asks, first_asks, last-added, second-added, all-added}
use Rattle.checking.proofs.named.total.Goals as goal

pub added-last-requires : goal.added-last-requires
added-last-requires c = summed_read (last_summed c.requires)

pub added-rest-requires : goal.added-rest-requires
added-rest-requires c = second_asks c.requires (last-added c.requires c.added-last.ensures)

pub added-requires : goal.added-requires
added-requires c =
    let h = c.requires in
    first_asks h (second-added h (last-added h c.added-last.ensures) c.added-rest.ensures)

pub returns : goal.returns
returns c =
    let h = c.requires in
    all-added h (second-added h (last-added h c.added-last.ensures) c.added-rest.ensures)
    c.added.ensures
