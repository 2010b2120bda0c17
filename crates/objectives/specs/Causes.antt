-- Cause 16 as a statement. `bad_objectives` computes a test; that it is what is said here is a theorem (proofs/Wrong.antt).
use Rattle.std.specs.Prelude.{ℕ, ◌/◌, ◌%◌, ◌<◌, ◌≡◌, List, length, negsuc}
use Rattle.objectives.specs.Objectives.{objective_at}

-- 16: not 4 to 128 bytes in multiples of 4, or one of −32,768
pub data WrongObjectives (s : List ℕ) : Type 0 where
  short : length s < 4 → WrongObjectives s
  long : 128 < length s → WrongObjectives s
  uneven : (length s % 4 ≡ 0 → ⊥) → WrongObjectives s
  p-least : (i : ℕ) → i < length s / 4 → (objective_at s i).p ≡ negsuc 32767 → WrongObjectives s
  q-least : (i : ℕ) → i < length s / 4 → (objective_at s i).q ≡ negsuc 32767 → WrongObjectives s
