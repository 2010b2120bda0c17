-- `decoding::inspect` meets its contract: whichever way the fields are read, what they come to is the definition.
use mathlib.Core.Path.{ap, ◌∙◌}
use Rattle.records.specs.Record.{decoded_from, decoded_of}
use Rattle.decoding.proofs.inspect.Goals as goal

pub returns-then-is_inside : goal.returns-then-is_inside
unfolding decoded_of
returns-then-is_inside c = c.judged.ensures ∙ ap decoded_from c.fields_at.ensures

pub returns-else-is_inside : goal.returns-else-is_inside
unfolding decoded_of
returns-else-is_inside c = c.judged-else-is_inside.ensures ∙ ap decoded_from c.fields_past.ensures
