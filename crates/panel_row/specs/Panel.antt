-- The panel as bytes: one line a rule, its label, then its slack's numerator and denominator, in decimal, one space between them. It
-- rests on the parts of a line (`text`).
use Rattle.std.specs.Prelude.{List, [], ◌∷◌, ◌++◌, ℕ}
use Rattle.text.specs.Text.{text}
use Rattle.text.specs.Number.{decimal, integer}
use Rattle.panel_row.specs.declared.Row.{Row}

unfoldable pub row_line : Row → List ℕ
row_line r = decimal r.label ++ (integer r.slack.numerator ++ (integer r.slack.denominator ++ text "\n"))

abbrev pub row_lines : List Row → List ℕ
row_lines [] = []
row_lines (r ∷ rows) = row_line r ++ row_lines rows
