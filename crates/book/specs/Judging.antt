-- One link of the chain judged, as the code does it: by a table of the labels met, and by the links passed where a label was met. Only
-- functions that the crate keeps to itself cite it.
use Rattle.std.specs.Prelude.{ℕ, zero, suc, ◌≡◌, ◌≤◌, ◌<◌, Bool, false, cond, ◌||◌, List, eqb, ltb, Result, Ok, Err}
use Rattle.answers.specs.declared.Cause.{Cause}
use Rattle.answers.specs.declared.Refusal.{Refusal}
use Rattle.answers.specs.Cause.{number_of_cause}
use Rattle.answers.specs.Refusal.{refusal}
use Rattle.records.specs.declared.Heading.{Heading}
use Rattle.records.specs.Layout.{Layout}
use Rattle.records.specs.declared.Sound.{Sound}
use Rattle.records.specs.Record.{record_at, link_of, decoded_of}
use Rattle.records.specs.Header.{heading_of}
use Rattle.book.specs.Tables.{is_noted, noting}

-- the record that n links lead to, from the header on
unfoldable pub record_after : Layout → List ℕ → ℕ → ℕ
record_after L s zero = 0
record_after L s (suc n) = link_of L (record_at L s (record_after L s n))

-- whether one of the first n links leads to record i
unfoldable pub is_passed : Layout → List ℕ → ℕ → ℕ → Bool
is_passed L s zero i = false
is_passed L s (suc n) i = is_passed L s n i || eqb i (record_after L s (suc n))

-- a link to record i, held by record `at`, where n records were passed and the label of record i is that of one of them: it is that record
-- itself, or another
abbrev pub again : Layout → List ℕ → (n at i : ℕ) → Refusal
again L s n at i = cond (is_passed L s n i) (refusal 7 at) (refusal 12 i)

-- record i, by what it holds: 8, 9 and 10, and by its label 7 or 12
abbrev pub judged_as : Layout → List ℕ → (labels : List ℕ) → (n at i : ℕ) → Result Sound Cause → Result Sound Refusal
judged_as L s labels n at i (Err cause) = Err (refusal (number_of_cause cause) i)
judged_as L s labels n at i (Ok sound) = cond (is_noted labels sound.rule.label) (Err (again L s n at i)) (Ok sound)

-- a link to record i, held by record `at`, in a book that counts so many records, where n records were passed: 6 of the link, and what the
-- record has. A record that was passed has none of 8, 9 and 10, so that this is the documents' order (`proofs/Leading.antt` shows it)
unfoldable pub judged : Layout → List ℕ → (labels : List ℕ) → (count n at i : ℕ) → Result Sound Refusal
judged L s labels count n at i =
    cond (ltb count i) (Err (refusal 6 at)) (judged_as L s labels n at i (decoded_of L (record_at L s i)))

-- the table after it
abbrev pub labels_after : Result Sound Refusal → List ℕ → List ℕ
labels_after (Ok s) labels = noting labels s.rule.label
labels_after (Err r) labels = labels

-- a sound record's label has sixteen bits, as the code's rules have
abbrev pub SmallLabel : Layout → List ℕ → ℕ → Type 0
SmallLabel L s i = (sound : Sound) → Ok sound ≡ decoded_of L (record_at L s i) → sound.rule.label < 65536

-- the promise of `judge`
pub record Judges
    (L : Layout) (s : List ℕ) (labels : List ℕ) (count n at i : ℕ)
    (r : Result Sound Refusal) (labels' : List ℕ) : Type 0 where
  pub answer : r ≡ judged L s labels count n at i
  pub met : labels' ≡ labels_after r labels
  pub small : i ≤ count → SmallLabel L s i

-- what a walk starts from: the heading of a header that is not refused
pub record Headed (L : Layout) (s : List ℕ) (h : Heading) : Type 0 where
  pub heading : heading_of L s ≡ Ok h
