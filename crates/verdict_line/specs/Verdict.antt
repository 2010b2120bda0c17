-- The line of what the checker says: `yes`, `no` or the `refused` line.
use Rattle.std.specs.Prelude.{List, ◌++◌, ℕ}
use Rattle.text.specs.Text.{text}
use Rattle.text.specs.Number.{refused}
use Rattle.text.specs.Append.{Fills}
use Rattle.slip.specs.declared.Verdict.{Verdict}
use Rattle.slip.specs.declared.Verdict.TheVariants.{Refused, Yes, No}

unfoldable pub verdict_text : Verdict → List ℕ
verdict_text (Refused x) = refused x.number x.at
verdict_text Yes = text "yes"
verdict_text No = text "no"

unfoldable pub verdict_line : Verdict → List ℕ
verdict_line v = verdict_text v ++ text "\n"

abbrev pub verdict_room : ℕ
verdict_room = 64

abbrev pub VerdictWritten : Verdict → List ℕ → List ℕ → ℕ → Type 0
VerdictWritten v = Fills (verdict_line v) verdict_room
