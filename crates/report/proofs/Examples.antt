-- The lines of the table are those spelt out beside them: one computation over the table.
use mathlib.Core.Path.{◌≡◌, refl}
use mathlib.Core.List.{map}
use Rattle.text.specs.Text.{text}
use Rattle.text.specs.Number.{decimal, signed, number, integer, refused}
use Rattle.pairs.specs.Pair.{pair, direction}
use Rattle.report.specs.Line.{counts, rule_of_two, rule, entry, entries, witness, best, unlimited, impossible, fields, answer_fields, line_named}
use Rattle.report.specs.Examples.{Example, examples}

pub lines_as_spelt : map (λ (e : Example). line_named e.naming e.answer) examples ≡ map (λ (e : Example). text e.line) examples
unfolding decimal signed number integer refused pair direction counts rule_of_two rule entry entries witness best unlimited impossible fields answer_fields line_named
lines_as_spelt = refl
