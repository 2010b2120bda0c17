-- `typed_line::written::append_rule` meets its contract. Word, kind and three numbers in turn, each number read back whole from its bits.
use mathlib.Core.Path.{ap}
use native.Mathlib.Omega.{arith}
use Rattle.text.specs.Number.{number}
use Rattle.text.proofs.Adding.{fits, followed, spelt}
use Rattle.text.proofs.Integer.{whole}
use Rattle.typed_line.specs.Typed.{rule_fields}
use Rattle.typed_line.proofs.written.append_rule.Goals as goal

pub returns : goal.returns
unfolding rule_fields
returns c =
    let w = c.args.w in
    let word = fits (omega arith) c.append_word.ensures in
    let kind = spelt (ap number c.number.ensures) (fits (omega arith) c.append_number.ensures) in
    let a = whole w.a (record { sfits = omega arith }) (fits (omega arith) c.append_integer.ensures) in
    let b = whole w.b (record { sfits = omega arith }) (fits (omega arith) c.append_integer-2.ensures) in
    let d = whole w.c (record { sfits = omega arith }) (fits (omega arith) c.append_integer-3.ensures) in
    followed word (followed kind (followed a (followed b d)))
