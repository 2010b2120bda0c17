-- `joint_line::line::append_book` meets its contract. The test picks the name.
use native.Mathlib.Omega.{arith}
use mathlib.Core.Path.{sym, ap}
use Rattle.text.proofs.Adding.{fits, roomier, spelt}
use Rattle.joint_line.specs.JointLine.{book_name}
use Rattle.joint_line.proofs.line.append_book.Goals as goal

pub returns-then-tenant : goal.returns-then-tenant
unfolding book_name
returns-then-tenant c =
    roomier (omega arith) (spelt (sym (ap book_name c.if-tenant.true)) (fits (omega arith) c.append_word.ensures))

pub returns-else-tenant : goal.returns-else-tenant
unfolding book_name
returns-else-tenant c =
    roomier (omega arith) (spelt (sym (ap book_name c.if-tenant.false)) (fits (omega arith) c.append_word-else-tenant.ensures))
