-- `records::layouts::fields_inside` meets its contract: the bytes that each version's fields take are there.
use Rattle.records.specs.Record.{record_at}
use Rattle.records.proofs.layouts.fields_inside.Goals as goal

pub returns-in-One : goal.returns-in-One
unfolding record_at
returns-in-One c = rw (← c.book.view_is, c.in-One.is) c.fields_one.ensures

pub returns-in-Two : goal.returns-in-Two
unfolding record_at
returns-in-Two c = rw (← c.book.view_is, c.in-Two.is) c.fields_two.ensures
