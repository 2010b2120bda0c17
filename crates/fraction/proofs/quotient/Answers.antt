-- `fraction::quotient` meets its contract where the divisor is no i64: it is greater than the number.
use native.Mathlib.Omega.{arith}
use Rattle.fraction.proofs.Quotients.{by-greater}
use Rattle.fraction.proofs.quotient.Goals as goal

pub returns-in-Err : goal.returns-in-Err
returns-in-Err c = by-greater c.args.z c.args.g c.magnitude.ensures c.ranges.z.sfits (omega arith)
