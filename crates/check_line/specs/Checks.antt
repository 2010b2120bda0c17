-- What the checker of lines promises: of the slip that a text says, what the checker says of that slip; of a text that says none, what it
-- says of a slip that is out of range for every book.
use Rattle.std.specs.Prelude.{◌≡◌, List, ℕ}
use Rattle.records.specs.Layout.{v2}
use Rattle.book.specs.Reading.{read_of}
use Rattle.slip.specs.declared.Slip.{Slip}
use Rattle.slip.specs.declared.Verdict.{Verdict}
use Rattle.slip.specs.Facts.{verdict_of}
use Rattle.slip_numbers.specs.Form.{out_of_range}
use Rattle.slip_reader.specs.Reading.{Says}

pub record Checks (book l : List ℕ) (r : Verdict) : Type 0 where
  pub said : (s : Slip) → Says l s → r ≡ verdict_of (read_of v2 book) s
  pub unsaid : ((s : Slip) → Says l s → ⊥) → r ≡ verdict_of (read_of v2 book) out_of_range
