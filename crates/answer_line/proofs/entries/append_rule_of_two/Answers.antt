-- `answer_line::entries::append_rule_of_two` meets its contract. The test picks the book.
use native.Mathlib.Omega.{arith}
use Rattle.text.proofs.Adding.{fits, followed, spelt}
use Rattle.report.proofs.Witness.{site-rule, tenant-rule}
use Rattle.answer_line.proofs.entries.append_rule_of_two.Goals as goal

pub returns-then-name-lt4096 : goal.returns-then-name-lt4096
returns-then-name-lt4096 c =
    let letter = fits (omega arith) c.append_word.ensures in
    spelt (site-rule c.args.name c.if-name-lt4096.true) (followed letter (fits (omega arith) c.append_decimal.ensures))

pub returns-else-name-lt4096 : goal.returns-else-name-lt4096
returns-else-name-lt4096 c =
    let letter = fits (omega arith) c.append_word-else-name-lt4096.ensures in
    spelt
    (tenant-rule c.args.name c.if-name-lt4096.false)
    (followed letter (fits (omega arith) c.append_decimal-else-name-lt4096.ensures))
