-- `judging::tables::noted` meets its contract: the shift is a division by the bit's power of two, and a number beyond the table was not
-- noted.
use mathlib.Core.Path.{refl, sym}
use Rattle.book.specs.Tables.{is_noted}
use Rattle.book.proofs.TableLaws.{noted-out}
use Rattle.judging.proofs.tables.noted.Goals as goal

pub returns-then-place-table : goal.returns-then-place-table
unfolding is_noted
returns-then-place-table c = refl

pub returns-else-place-table : goal.returns-else-place-table
returns-else-place-table c = sym (noted-out c.args.table.now c.args.number c.if-place-table.false)
