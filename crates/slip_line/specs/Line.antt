-- The printed line of a slip: its text, or for a refused book the `refused` line, and a line feed.
use Rattle.std.specs.Prelude.{List, ◌++◌, ℕ, Ok, Err}
use Rattle.text.specs.Text.{text}
use Rattle.text.specs.Number.{refused}
use Rattle.text.specs.Append.{Fills}
use Rattle.slip_text.specs.Text.{slip_text}
use Rattle.slips.specs.Writing.{Written}

unfoldable pub written_fields : Written → List ℕ
written_fields (Err x) = refused x.number x.at
written_fields (Ok s) = slip_text s

unfoldable pub slip_line : Written → List ℕ
slip_line w = written_fields w ++ text "\n"

-- the buffer's least size, enough for the line of any slip
abbrev pub slip_room : ℕ
slip_room = 256

abbrev pub LineWritten : Written → List ℕ → List ℕ → ℕ → Type 0
LineWritten w = Fills (slip_line w) slip_room
