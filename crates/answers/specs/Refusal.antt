-- A refusal of its two numbers: the cause's, and the record that it names.
use Rattle.std.specs.Prelude.{ℕ}
use Rattle.answers.specs.declared.Refusal.{Refusal}

abbrev pub refusal : ℕ → ℕ → Refusal
refusal number at = record { number = number; at = at }

-- nothing is turned back
abbrev pub not_refused : Refusal
not_refused = refusal 0 0
