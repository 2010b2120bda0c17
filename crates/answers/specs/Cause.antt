-- The published numbers of the causes, 1 to 19.
use Rattle.std.specs.Prelude.{ℕ, List, [], ◌∷◌, Option, Some, None}
use Rattle.answers.specs.declared.Cause.{Cause}
use Rattle.answers.specs.declared.Cause.TheVariants.{
  Length,
  Version,
  Count,
  Objective,
  Tail,
  Link,
  Loop,
  Kind,
  Slope,
  Bound,
  Room,
  Label,
  Text,
  Product,
  Size,
  Objectives,
  Slip,
  Full,
  Empty,
}

-- the causes in the order of the tables
abbrev pub causes : List Cause
causes =
    Length ∷ Version ∷ Count ∷ Objective ∷ Tail ∷ Link ∷ Loop ∷ Kind ∷ Slope ∷ Bound ∷ Room ∷ Label ∷ Text
    ∷ Product ∷ Size ∷ Objectives ∷ Slip ∷ Full ∷ Empty ∷ []

abbrev pub number_of_cause : Cause → ℕ
number_of_cause Length = 1
number_of_cause Version = 2
number_of_cause Count = 3
number_of_cause Objective = 4
number_of_cause Tail = 5
number_of_cause Link = 6
number_of_cause Loop = 7
number_of_cause Kind = 8
number_of_cause Slope = 9
number_of_cause Bound = 10
number_of_cause Room = 11
number_of_cause Label = 12
number_of_cause Text = 13
number_of_cause Product = 14
number_of_cause Size = 15
number_of_cause Objectives = 16
number_of_cause Slip = 17
number_of_cause Full = 18
number_of_cause Empty = 19

-- the number of the cause that applies; 0 where none does
abbrev pub numbered : Option Cause → ℕ
numbered (Some cause) = number_of_cause cause
numbered None = 0
