-- Euclid's equations.
use mathlib.Core.Path.{sym, ◌∙◌, ap}
use native.Mathlib.Omega.{arith}
use Rattle.ints.specs.Gcd.{gcd}
use Rattle.ints.proofs.Gcd.{gcd-zero, gcd-step}
use Rattle.fraction.proofs.+divisor.Goals as goal

pub returns-then-n-eq0 : goal.returns-then-n-eq0
returns-then-n-eq0 t c = sym (ap (gcd c.args.m) c.if-n-eq0.true ∙ gcd-zero c.args.m)

pub returns-else-n-eq0 : goal.returns-else-n-eq0
returns-else-n-eq0 t c = c.divisor.ensures ∙ sym (gcd-step c.args.m c.args.n (omega arith))
