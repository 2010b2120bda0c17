-- `numerals::digits::put_decimal` meets its contract. One digit or two are all; else the digits of the hundredth part come first, and the
-- last two after them.
use mathlib.Core.Path.{refl, sym, ap}
use native.Mathlib.Nat.{le_refl}
use native.Mathlib.Omega.{arith}
use lib.ListN.{length}
use Rattle.text.proofs.Decimal.{decimal-single, decimal-pair, decimal_hundred, decimal-one, decimal-two-longer}
use Rattle.text.proofs.Put.{followed, exactly}
use Rattle.numerals.proofs.digits.+put_decimal.Goals as goal

pub bounds-out-0 : goal.bounds-out-0
bounds-out-0 t c = omega (arith, decimal-one c.args.n (omega arith))

pub put_two-requires : goal.put_two-requires
put_two-requires t c =
    record { small = omega arith; free = omega (arith, ap length (decimal-pair c.args.n (omega arith) (omega arith))) }

pub put_decimal-next-requires : goal.put_decimal-next-requires
put_decimal-next-requires t c = (omega arith, record { free = omega (arith, decimal-two-longer c.args.n (omega arith)) })

pub put_two-requires-else-n-lt100 : goal.put_two-requires-else-n-lt100
put_two-requires-else-n-lt100 t c =
    record { small = omega arith; free = omega (arith, decimal-two-longer c.args.n (omega arith)) }

pub returns-then-n-lt10 : goal.returns-then-n-lt10
returns-then-n-lt10 t c =
    exactly (sym (decimal-single c.args.n (omega arith))) (record { stored = refl; moved = refl; small = le_refl 1 })

pub returns-then-n-lt100 : goal.returns-then-n-lt100
returns-then-n-lt100 t c = exactly (sym (decimal-pair c.args.n (omega arith) (omega arith))) c.put_two.ensures

pub returns-else-n-lt100 : goal.returns-else-n-lt100
returns-else-n-lt100 t c =
    exactly (sym (decimal_hundred c.args.n (omega arith))) (followed c.put_decimal-next.ensures c.put_two-else-n-lt100.ensures)
