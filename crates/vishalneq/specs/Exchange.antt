-- What is handed back of the planner's slip of a book, as a run of 14 numbers.
use Rattle.std.specs.Prelude.{◌≡◌, List, ℕ, ℤ, Err, Ok}
use Rattle.slip_numbers.specs.Form.{Laid}
use Rattle.slips.specs.Writing.{Written, Writes}
use Rattle.handed.specs.Told.{told_of}

-- of what was written: the refusal, and the run as it was; or the slip's numbers
abbrev pub LaidBy : Written → List ℤ → List ℤ → ℕ → Type 0
LaidBy (Err x) before after count = (after ≡ before) × (count ≡ told_of (Err x))
LaidBy (Ok s) before after count = Laid s before count after

-- the promise of the planner's slip: it is one as `slip_of` promises
pub record SlipWritten (s : List ℕ) (before after : List ℤ) (count : ℕ) : Type 0 where
  pub slip : Written
  pub writes : Writes s slip
  pub laid : LaidBy slip before after count
