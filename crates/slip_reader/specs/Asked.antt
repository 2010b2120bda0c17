-- What the private functions hand back, one record for each: what they read of a text, and what is left of it then.
use Rattle.std.specs.Prelude.{◌≡◌, List, ◌++◌, ◌⊎◌, Bool, true, false, ℕ, ℤ, pos}
use Rattle.text.specs.Text.{text}
use Rattle.lp.specs.declared.Point.{Point}
use Rattle.slip.specs.declared.Slip.{Slip}
use Rattle.slip.specs.Facts.{ranges}
use Rattle.slip_reader.specs.Fields.{size_from, past, signed_of, integer_in, code_in, past_field}
use Rattle.slip_reader.specs.Fields.{slot_code, slot_weight, past_slot, point_in, past_pair}
use Rattle.slip_reader.specs.Reading.{Stands}

pub record Runs (text : List ℕ) (size : ℕ) (rest : List ℕ) : Type 0 where
  pub value : size ≡ size_from 0 text
  pub goes_on : rest ≡ past text

pub record FindsNumber (negative : Bool) (text : List ℕ) (z : ℤ) (rest : List ℕ) : Type 0 where
  pub value : z ≡ signed_of negative (size_from 0 text)
  pub goes_on : rest ≡ past text

pub record Finds (text : List ℕ) (z : ℤ) (rest : List ℕ) : Type 0 where
  pub value : z ≡ integer_in text
  pub goes_on : rest ≡ past_field text

pub record FindsCode (text : List ℕ) (z : ℤ) (rest : List ℕ) : Type 0 where
  pub value : z ≡ code_in text
  pub goes_on : rest ≡ past_field text

pub record FindsSlot (counts : Bool) (text : List ℕ) (code weight : ℤ) (rest : List ℕ) : Type 0 where
  pub entry : code ≡ slot_code counts text
  pub value : weight ≡ slot_weight counts text
  pub goes_on : rest ≡ past_slot counts text

pub record FindsPair (text : List ℕ) (v : Point) (rest : List ℕ) : Type 0 where
  pub value : v ≡ point_in text
  pub goes_on : rest ≡ past_pair text

-- ---- comparisons

pub record Judges (written l : List ℕ) (r : Bool) : Type 0 where
  pub met : r ≡ true → (l ≡ written) ⊎ (l ≡ written ++ text "\n")
  pub unmet : r ≡ false → (l ≡ written) ⊎ (l ≡ written ++ text "\n") → ⊥

pub record JudgesLine (s : Slip) (l : List ℕ) (r : Bool) : Type 0 where
  pub few : r ≡ true → ranges (pos 0) s.weights.count (pos 3) ≡ true
  pub met : r ≡ true → Stands s l
  pub unmet : r ≡ false → ranges (pos 0) s.weights.count (pos 3) ≡ true → Stands s l → ⊥
