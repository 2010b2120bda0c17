-- `one_book::start_numbers` meets its contract: what was put into the buffer is the planner's view.
use Rattle.one_book.proofs.Buffers.{start_seen}
use Rattle.one_book.proofs.start_numbers.Goals as goal

pub returns : goal.returns
returns c =
    let seen = c.start_after in
    start_seen _ _ _ seen.result seen.ensures _ _ _ c.put_start.ensures
