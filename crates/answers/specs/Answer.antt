-- What is said of a book: its plan, or else its refusal.
use Rattle.std.specs.Prelude.{Result}
use Rattle.answers.specs.declared.Plan.{Plan}
use Rattle.answers.specs.declared.Refusal.{Refusal}

abbrev pub Answer : Type 0
Answer = Result Plan Refusal
