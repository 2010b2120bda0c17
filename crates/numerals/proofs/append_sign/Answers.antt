-- `numerals::append_sign` meets its contract. The sign's test says which of the two stands there.
use native.Mathlib.Omega.{arith}
use Rattle.text.proofs.Adding.{fits, roomier, spelt}
use Rattle.text.proofs.Integer.{minus-sign, no_sign}
use Rattle.numerals.proofs.append_sign.Goals as goal

pub returns-then-z-lt0 : goal.returns-then-z-lt0
returns-then-z-lt0 c =
    spelt (minus-sign c.args.z c.ranges.z c.if-z-lt0.true) (fits (omega arith) c.append_word.ensures)

pub returns-else-z-lt0 : goal.returns-else-z-lt0
returns-else-z-lt0 c =
    spelt (no_sign c.args.z c.ranges.z c.if-z-lt0.false) (roomier (omega arith) (fits (omega arith) c.append_word-else-z-lt0.ensures))
