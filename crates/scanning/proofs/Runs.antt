-- Runs of digits, byte by byte: what a digit and another byte make of the run at the front of a text and of the text after it.
use mathlib.Core.Path.{◌≡◌, refl}
use mathlib.Core.Bool.{Bool, true, false, cond, ◌&&◌}
use mathlib.Core.List.{List, [], ◌∷◌}
use Prim.Native.Nat.{ℕ, ◌+◌, ◌≤◌}
use native.Mathlib.Omega.{arith}
use lib.Dec.{leb}
use lib.ListN.{length}
use borrow.Author.Tests.{leb-true}
use Rattle.scanning.specs.Bytes.{first, digit, run, past}

pub run-digit : (b : ℕ) (s : List ℕ) → digit b ≡ true → run (b ∷ s) ≡ b ∷ run s
unfolding run
run-digit b s e = rw e

pub past-digit : (b : ℕ) (s : List ℕ) → digit b ≡ true → past (b ∷ s) ≡ past s
unfolding past
past-digit b s e = rw e

pub run-other : (b : ℕ) (s : List ℕ) → digit b ≡ false → run (b ∷ s) ≡ []
unfolding run
run-other b s e = rw e

pub past-other : (b : ℕ) (s : List ℕ) → digit b ≡ false → past (b ∷ s) ≡ b ∷ s
unfolding past
past-other b s e = rw e

pub run_none : run [] ≡ []
unfolding run
run_none = refl

pub past-none : past [] ≡ []
unfolding past
past-none = refl

pub digit_range : (b : ℕ) → digit b ≡ true → (48 ≤ b) × (b ≤ 57)
digit_range b e = go (leb 48 b) refl e
  where
    go : (t : Bool) → leb 48 b ≡ t → t && leb b 57 ≡ true → (48 ≤ b) × (b ≤ 57)
    go true h e = (leb-true 48 b h, leb-true b 57 e)
    go false h e = absurd (let z : ◌≡◌ {A = ℕ} 0 1 = cc in omega arith)

-- where the first byte is a digit, there is a digit
pub run-some : (s : List ℕ) → digit (first s) ≡ true → 1 ≤ length (run s)
run-some [] e = absurd (let z : ◌≡◌ {A = ℕ} 0 1 = cc in omega arith)
run-some (b ∷ s) e = rw (run-digit b s e) (omega arith)

-- a run and the text behind it are the whole
pub run_past : (s : List ℕ) → length (past s) + length (run s) ≡ length s
unfolding run past
run_past [] = refl
run_past (b ∷ s) = go (digit b) (run_past s)
  where
    go : (t : Bool) →
        length (past s) + length (run s) ≡ length s →
        length (cond t (past s) (b ∷ s)) + length (cond t (b ∷ run s) []) ≡ length (b ∷ s)
    go true h = omega (arith, h)
    go false h = omega arith
