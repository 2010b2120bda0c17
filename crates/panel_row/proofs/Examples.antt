-- The lines of the table are those spelt out beside it: one computation.
use mathlib.Core.Path.{◌≡◌, refl}
use Rattle.text.specs.Text.{text}
use Rattle.text.specs.Number.{decimal, signed, integer}
use Rattle.panel_row.specs.Panel.{row_line, row_lines}
use Rattle.panel_row.specs.Examples.{rows, rows_spelt}

pub rows_as_spelt : row_lines rows ≡ text rows_spelt
unfolding decimal signed integer row_line
rows_as_spelt = refl
