-- What the repacker promises: its answer, and every byte of the output.
use Rattle.std.specs.Prelude.{ℕ, ◌≡◌, List, ◌++◌, Result, Ok, Err, length, drop}
use Rattle.answers.specs.declared.Refusal.{Refusal}
use Rattle.answers.specs.Refusal.{refusal}
use Rattle.records.specs.Layout.{Layout}
use Rattle.repacker.specs.Repacking.{Packing, declined, packed, repack_of}

-- what repacking answers, and what the output then holds
abbrev pub repacked_of : Packing → Result ℕ Refusal
repacked_of (declined n r) = Err (refusal n r)
repacked_of (packed bs) = Ok (length bs)

abbrev pub output_of : Packing → List ℕ → List ℕ
output_of (declined n r) out = out
output_of (packed bs) out = bs ++ drop (length bs) out

-- the promise of `repack`
pub record Repacks (L : Layout) (s out : List ℕ) (r : Result ℕ Refusal) (after : List ℕ) : Type 0 where
  pub answer : r ≡ repacked_of (repack_of L s (length out))
  pub output : after ≡ output_of (repack_of L s (length out)) out
