-- The promise of a batch, where what it comes to is handed back as one number.
use Rattle.std.specs.Prelude.{◌≡◌, List, ℕ, length}
use Rattle.records.specs.Layout.{v2}
use Rattle.book.specs.Reading.{read_of}
use Rattle.batching.specs.Promises.{batch_of, batched_of, output_of}
use Rattle.handed.specs.Told.{told_of}

pub record BatchWritten (s objectives before after : List ℕ) (count : ℕ) : Type 0 where
  pub output : after ≡ output_of (batch_of (read_of v2 s) objectives (length before)) before
  pub told : count ≡ told_of (batched_of (batch_of (read_of v2 s) objectives (length before)))
