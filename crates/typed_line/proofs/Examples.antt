-- The lines of the table are those spelt out beside them: one computation.
use mathlib.Core.Path.{◌≡◌, refl}
use mathlib.Core.List.{map}
use Rattle.text.specs.Text.{text}
use Rattle.text.specs.Number.{decimal, signed, number, integer, refused}
use Rattle.typed_line.specs.Typed.{rule_fields, typed_fields, typed_line}
use Rattle.typed_line.specs.Examples.{Example, examples}

pub lines_as_spelt : map (λ (e : Example). typed_line e.typed) examples ≡ map (λ (e : Example). text e.line) examples
unfolding decimal signed number integer refused rule_fields typed_fields typed_line
lines_as_spelt = refl
