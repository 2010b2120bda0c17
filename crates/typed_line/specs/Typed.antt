-- The line of what a typed text reads as: `rule kind a b c`, or the line of a refusal, which names record 0. It rests on the parts of
-- a line (`text`).
use Rattle.std.specs.Prelude.{List, ◌++◌, ℕ, Ok, Err}
use Rattle.text.specs.Text.{text}
use Rattle.text.specs.Number.{number, integer, refused}
use Rattle.text.specs.Append.{Fills}
use Rattle.forms.specs.declared.Sense.{Sense}
use Rattle.forms.specs.declared.Written.{Written}
use Rattle.forms.specs.Value.{Typed, kind_of, refusal_of}

unfoldable pub rule_fields : Written Sense → List ℕ
rule_fields w = text "rule" ++ (number (kind_of w.sense) ++ (integer w.a ++ (integer w.b ++ integer w.c)))

unfoldable pub typed_fields : Typed → List ℕ
typed_fields (Ok w) = rule_fields w
typed_fields (Err e) = refused (refusal_of e).number (refusal_of e).at

unfoldable pub typed_line : Typed → List ℕ
typed_line t = typed_fields t ++ text "\n"

-- the buffer's least size, enough for the line of any rule
abbrev pub typed_room : ℕ
typed_room = 96

abbrev pub TypedWritten : Typed → List ℕ → List ℕ → ℕ → Type 0
TypedWritten t = Fills (typed_line t) typed_room
