-- A corner as a line: X, Y and D in decimal, one space between them, and a line feed (request 110).
use Rattle.std.specs.Prelude.{List, [], ◌∷◌, ◌++◌, ℕ}
use Rattle.lp.specs.declared.Point.{Point}
use Rattle.text.specs.Text.{text}
use Rattle.text.specs.Number.{signed, integer}

unfoldable pub corner_line : Point → List ℕ
corner_line v = signed v.x ++ (integer v.y ++ (integer v.d ++ text "\n"))

-- of a list of corners, one after the other
abbrev pub corner_lines : List Point → List ℕ
corner_lines [] = []
corner_lines (v ∷ l) = corner_line v ++ corner_lines l
