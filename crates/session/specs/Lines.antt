-- A line is within its buffer.
use Rattle.std.specs.Prelude.{ℕ, ◌≤◌}
use Rattle.session.specs.declared.input.Line.{Line}
use Rattle.session.specs.declared.input.Line.TheVariants.{Ended, Long, Text}

abbrev pub Within : Line → ℕ → Type 0
Within Ended size = Unit {0}
Within Long size = Unit {0}
Within (Text n) size = n ≤ size
