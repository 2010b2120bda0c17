-- `forms::numeral` meets its contract: the value of a number.
use mir.Syntax.{w64}
use mir.Facts.{to_z_pos}
use borrow.Author.Tests.{lt-leb}
use native.Mathlib.Omega.{arith}
use Rattle.forms.specs.Value.{numeral}
use Rattle.forms.proofs.Values.{numeral-yes}
use Rattle.forms.proofs.numeral.Goals as goal

pub returns-then-n-le1000000000 : goal.returns-then-n-le1000000000
unfolding numeral
returns-then-n-le1000000000 c =
    numeral-yes c.args.n _ c.if-n-le1000000000.true (to_z_pos w64 (omega arith))

pub returns-else-n-le1000000000 : goal.returns-else-n-le1000000000
unfolding numeral
returns-else-n-le1000000000 c =
    record { same = rw (lt-leb _ _ c.if-n-le1000000000.false); small = tt }
