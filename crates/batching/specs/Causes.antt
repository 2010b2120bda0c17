-- Request 109's causes as statements, and their order: the book's own, then 16, then 11. `batch_of` computes a number; that it is the one
-- said here, and that nothing else turns a batch back, are theorems (proofs/Demands.antt).
use Rattle.std.specs.Prelude.{ℕ, ◌*◌, ◌<◌, List, length}
use Rattle.records.specs.Layout.{v2}
use Rattle.book.specs.Causes.{Applies}
use Rattle.objectives.specs.Causes.{WrongObjectives}

-- a cause applies to a book, objectives and an output with so many bytes, and none before it does
pub data Declines (s objectives : List ℕ) (room : ℕ) : ℕ → ℕ → Type 0 where
  own : {k i : ℕ} → Applies v2 s k i → Declines s objectives room k i
  sixteen : ((k i : ℕ) → Applies v2 s k i → ⊥) → WrongObjectives objectives → Declines s objectives room 16 0
  eleven : ((k i : ℕ) → Applies v2 s k i → ⊥) →
      (WrongObjectives objectives → ⊥) →
      room < 8 * length objectives →
      Declines s objectives room 11 0
