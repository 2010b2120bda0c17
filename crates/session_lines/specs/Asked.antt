-- What the private functions hand back, one record for each. A text stands for what is left of it.
use Rattle.std.specs.Prelude.{◌≡◌, List, Bool, ℕ, Option}
use Rattle.scanning.specs.Bytes.{past}
use Rattle.session_lines.specs.declared.numbers.Number.{Number}
use Rattle.session_lines.specs.Fields.{number_with, number_in, past_field}

pub record FindsFrom (negative : Bool) (text from : List ℕ) (n : Option Number) (l : List ℕ) : Type 0 where
  pub number : n ≡ number_with negative text from
  pub rest : l ≡ past from

pub record Finds (text : List ℕ) (n : Option Number) (l : List ℕ) : Type 0 where
  pub number : n ≡ number_in text
  pub rest : l ≡ past_field text
