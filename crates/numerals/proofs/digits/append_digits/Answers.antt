-- `numerals::digits::append_digits` meets its contract. The digits in a part of the line's buffer are in the whole from its place on.
use mathlib.Core.Path.{refl}
use native.Mathlib.Omega.{arith}
use Rattle.text.specs.Number.{decimal}
use Rattle.text.proofs.Put.{in_part}
use Rattle.numerals.proofs.digits.append_digits.Goals as goal

pub returns : goal.returns
returns c =
    let l = c.args.line.now in
    record {
      appended = in_part l.out.now c.put_decimal-count.new.out (decimal c.args.n) l.at (omega arith) c.put_decimal-count.ensures;
      lent = refl;
      sized = omega arith;
    }
