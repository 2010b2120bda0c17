-- `records::Book::fields_past` meets its contract: a copy with zeros for what is missing has the same fields.
use mathlib.Core.Path.{◌∙◌}
use lib.Dec.{lit≤}
use Rattle.records.specs.Layout.{v1, v2}
use Rattle.records.specs.Record.{record_at}
use Rattle.records.proofs.Offsets.{fields_copied}
use Rattle.records.proofs.Book.fields_past.Goals as goal

pub returns-in-One : goal.returns-in-One
unfolding record_at
returns-in-One c =
    rw (← c.self.view_is, c.in-One.is)
    (c.fields_one.ensures ∙ fields_copied v1 c.window.ensures (lit≤ tt))

pub returns-in-Two : goal.returns-in-Two
unfolding record_at
returns-in-Two c =
    rw (← c.self.view_is, c.in-Two.is)
    (c.fields_two.ensures ∙ fields_copied v2 c.window-in-Two.ensures (lit≤ tt))
