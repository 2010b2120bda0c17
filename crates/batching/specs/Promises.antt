-- What a batch comes to: the first refusal that applies, or the answers; what it hands back, and every byte of the output.
use Rattle.std.specs.Prelude.{ℕ, ◌*◌, ◌≡◌, cond, List, ◌++◌, Result, Ok, Err, ltb, length, drop}
use Rattle.answers.specs.declared.Refusal.{Refusal}
use Rattle.answers.specs.Refusal.{refusal}
use Rattle.records.specs.Layout.{v2}
use Rattle.book.specs.Reading.{Reading, refused, accepted, read_of, rules_of}
use Rattle.objectives.specs.Objectives.{objectives_of, bad_objectives}
use Rattle.offering.specs.Offers.{answers_for}

-- a cause's number and a record, or the bytes of all answers
pub data Batch : Type 0 where
  declined : ℕ → ℕ → Batch
  answered : List ℕ → Batch

-- the book's own refusals, then 16, then 11. An answer has 32 bytes and an objective 4. The header's objective plays no part
unfoldable pub batch_of : Reading → List ℕ → ℕ → Batch
batch_of (refused n r) objectives room = declined n r
batch_of (accepted t es) objectives room =
    cond (bad_objectives objectives) (declined 16 0)
    (cond (ltb room (8 * length objectives)) (declined 11 0)
    (answered (answers_for t.floors (rules_of es) (objectives_of objectives))))

-- what is handed back, and what the output then holds
abbrev pub batched_of : Batch → Result ℕ Refusal
batched_of (declined n r) = Err (refusal n r)
batched_of (answered bs) = Ok (length bs)

abbrev pub output_of : Batch → List ℕ → List ℕ
output_of (declined n r) out = out
output_of (answered bs) out = bs ++ drop (length bs) out

-- the promise of `batch`
pub record Batches (s objectives out : List ℕ) (r : Result ℕ Refusal) (after : List ℕ) : Type 0 where
  pub answer : r ≡ batched_of (batch_of (read_of v2 s) objectives (length out))
  pub output : after ≡ output_of (batch_of (read_of v2 s) objectives (length out)) out
