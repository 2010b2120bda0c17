-- What writing an answer's line into a lent buffer promises. It rests on the line (Line), and on what it means to fill a buffer (`text`).
use Rattle.std.specs.Prelude.{List, ℕ}
use Rattle.text.specs.Append.{Fills}
use Rattle.answers.specs.Answer.{Answer}
use Rattle.report.specs.declared.Naming.{Naming}
use Rattle.report.specs.Line.{line_named, line_of}

-- the buffer's least size, enough for the line of any answer
abbrev pub line_room : ℕ
line_room = 256

abbrev pub WrittenOf : Naming → Answer → List ℕ → List ℕ → ℕ → Type 0
WrittenOf m answer = Fills (line_named m answer) line_room

abbrev pub Written : Answer → List ℕ → List ℕ → ℕ → Type 0
Written answer = Fills (line_of answer) line_room
