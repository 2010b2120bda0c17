-- The number of a run of digits, read digit by digit. A number that is beyond the limit stays where it is; that any test of the limit
-- comes out as for the whole number is shown in proofs/Numbers.antt.
use Rattle.std.specs.Prelude.{◌≡◌, cond, List, [], ◌∷◌, ℕ, ◌+◌, ◌*◌, ◌-◌, leb}
use Rattle.scanning.specs.Bytes.{run, past}

abbrev pub grown : ℕ → ℕ → ℕ → ℕ
grown limit n d = cond (leb n limit) (n * 10 + (d - 48)) n

unfoldable pub capped : ℕ → ℕ → List ℕ → ℕ
capped limit n [] = n
capped limit n (d ∷ s) = capped limit (grown limit n d) s

-- a run's number n, and the text l that is left behind it
pub record Runs (limit : ℕ) (text : List ℕ) (n : ℕ) (l : List ℕ) : Type 0 where
  pub number : n ≡ capped limit 0 (run text)
  pub rest : l ≡ past text
