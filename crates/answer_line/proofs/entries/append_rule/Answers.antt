-- `answer_line::entries::append_rule` meets its contract. Each arm of the match is given the naming that it is for.
use mathlib.Core.Path.{ap, sym}
use native.Mathlib.Omega.{arith}
use Rattle.report.specs.declared.Naming.{Naming}
use Rattle.report.specs.Line.{rule}
use Rattle.text.proofs.Adding.{fits, spelt, roomier}
use Rattle.answer_line.proofs.entries.append_rule.Goals as goal

pub returns-in-OneBook : goal.returns-in-OneBook
unfolding rule
returns-in-OneBook c =
    spelt
    (ap (λ (m : Naming). rule m c.args.name) (sym c.in-OneBook.is))
    (roomier (omega arith) (fits (omega arith) c.append_number.ensures))

pub returns-in-TwoBooks : goal.returns-in-TwoBooks
unfolding rule
returns-in-TwoBooks c = spelt (ap (λ (m : Naming). rule m c.args.name) (sym c.in-TwoBooks.is)) c.append_rule_of_two.ensures
