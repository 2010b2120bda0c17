-- `engine::start::start` meets its contract: the start point stays where it keeps the new constraint; no entry is looked at then.
use Rattle.engine.proofs.start.start.Goals as goal

pub returns-then-kept : goal.returns-then-kept
returns-then-kept c = rw c.if-kept.true

pub returns-else-kept : goal.returns-else-kept
returns-else-kept c = rw (c.if-kept.false, c.restart.ensures)
