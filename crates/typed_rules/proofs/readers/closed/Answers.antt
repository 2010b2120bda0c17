-- `typed_rules::readers::closed` meets its contract: the parenthesis after a side.
use Rattle.typed_rules.proofs.Rests.{item}
use Rattle.typed_rules.proofs.Reading.{closed-yes}
use Rattle.typed_rules.proofs.readers.closed.Goals as goal

pub returns-then-byte_at-eq41 : goal.returns-then-byte_at-eq41
returns-then-byte_at-eq41 c =
    closed-yes (item c.skip-item.ensures c.byte_at.ensures) c.if-byte_at-eq41.true c.after.ensures c.requires
