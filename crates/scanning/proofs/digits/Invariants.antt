-- What is left of the text makes of the number so far what the whole text makes of 0, and its digits end where the whole text's end.
use Rattle.std.specs.Prelude.{◌≡◌}
use lib.ListN.{length}
use Rattle.scanning.specs.Bytes.{run, past}
use Rattle.scanning.specs.Runs.{capped}
use Rattle.scanning.proofs.digits.Given as goal

abbrev pub invariant-loop-b : goal.invariant-loop-b
invariant-loop-b l =
    record {
      number : capped l.limit l.number (run l.rest) ≡ capped l.limit 0 (run l.text);
      rest : past l.rest ≡ past l.text;
    }

abbrev pub decreases-loop-b : goal.decreases-loop-b
decreases-loop-b l = length l.rest
