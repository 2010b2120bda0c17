-- What is left of the text makes of the size so far what the whole text makes of 0, and its digits end where the whole text's end.
use Rattle.std.specs.Prelude.{◌≡◌}
use lib.ListN.{length}
use Rattle.slip_reader.specs.Fields.{size_from, past}
use Rattle.slip_reader.proofs.fields.digits.Given as goal

abbrev pub invariant-loop-b : goal.invariant-loop-b
invariant-loop-b l =
    record {
      value : size_from l.size l.rest ≡ size_from 0 l.text;
      goes_on : past l.rest ≡ past l.text;
    }

abbrev pub decreases-loop-b : goal.decreases-loop-b
decreases-loop-b l = length l.rest
