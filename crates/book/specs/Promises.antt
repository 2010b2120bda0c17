-- The answers of the code for each thing defined, and what the public functions promise.
use Rattle.std.specs.Prelude.{ℕ, ◌≡◌, List, length, ℤ, Result, Ok, Err}
use Rattle.answers.specs.declared.Refusal.{Refusal}
use Rattle.answers.specs.Refusal.{refusal}
use Rattle.records.specs.Layout.{Layout}
use Rattle.book.specs.declared.Head.{Head}
use Rattle.book.specs.Reading.{Reading, refused, accepted, read_of, passed_of}
use Rattle.book.specs.Runs.{put_records, put_rules}

-- what a book reads as, but for its chain
abbrev pub head_of : Reading → Result Head Refusal
head_of (refused n r) = Err (refusal n r)
head_of (accepted t es) = Ok (record { terms = t; n = length es })

-- the promise of `read`
pub record ReadInto
    (L : Layout) (s : List ℕ) (records : List ℕ) (rules : List ℤ)
    (h : Result Head Refusal) (records' : List ℕ) (rules' : List ℤ) : Type 0 where
  pub answer : h ≡ head_of (read_of L s)
  pub recorded : records' ≡ put_records records 0 (passed_of L s)
  pub ruled : rules' ≡ put_rules rules 0 (passed_of L s)
