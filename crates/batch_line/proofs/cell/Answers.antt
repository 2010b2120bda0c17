-- `batch_line::cell` meets its contract: the eight bytes are a copy (`cell-copied`).
use mathlib.Core.Path.{ap, ◌∙◌}
use mir.Syntax.{w64}
use mir.Val.{to_z}
use mir.Facts.{to_z-of_z}
use borrow.Author.Rules.{sfits_of}
use Rattle.batch_line.proofs.Numbers.{cell-copied}
use Rattle.batch_line.proofs.cell.Goals as goal

pub returns : goal.returns
returns c = to_z-of_z {w = w64} (sfits_of c.from_le_bytes.type_inv) ∙ c.from_le_bytes.ensures ∙ ap (to_z w64) (cell-copied c.window.ensures)
