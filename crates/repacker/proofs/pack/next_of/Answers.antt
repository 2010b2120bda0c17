-- `repacker::pack::next_of` meets its contract: the last record's link is 0.
use borrow.Author.Tests.{lt-ltb, le-ltb}
use Rattle.repacker.proofs.pack.next_of.Goals as goal

pub returns-then-k-n : goal.returns-then-k-n
returns-then-k-n c = rw (lt-ltb c.args.k c.args.n c.if-k-n.true)

pub returns-else-k-n : goal.returns-else-k-n
returns-else-k-n c = rw (le-ltb c.args.k c.args.n c.if-k-n.false)
