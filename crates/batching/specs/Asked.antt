-- What a batch's private functions ask of the runs that they are lent, and what they hand back.
use Rattle.std.specs.Prelude.{◌≡◌, List, ℕ, ◌+◌, ◌*◌, ◌≤◌, Result, Ok, Err, length, ℤ}
use Rattle.lp.specs.declared.Floors.{Floors}
use Rattle.lp.specs.Range.{SmallFloors, SmallSystem}
use Rattle.answers.specs.declared.Refusal.{Refusal}
use Rattle.answers.specs.Cause.{number_of_cause}
use Rattle.answers.specs.Refusal.{refusal}
use Rattle.records.specs.Layout.{v2}
use Rattle.records.specs.Header.{header_fault, count_of}
use Rattle.engine.specs.Entries.{entries}
use Rattle.offering.specs.declared.Unanswered.{Unanswered}
use Rattle.offering.specs.declared.Unanswered.TheVariants as unanswered

-- n rules after the floors' places, each within its range
pub record Laid (floors : Floors) (n : ℕ) (l : List ℤ) : Type 0 where
  pub floors-small : SmallFloors floors
  pub room : 3 * (n + 2) ≤ length l
  pub rules-small : SmallSystem (entries l 2 n)

-- ---- the region

-- the runs of a book have room: its chain, its rules between the floors and the horizon, the ring, and its corners
pub record Roomy (s records : List ℕ) (run : List ℤ) (ring : List ℕ) (corners : List ℤ) : Type 0 where
  pub names : header_fault v2 s ≡ 0 → count_of v2 s ≤ length records
  pub rules : header_fault v2 s ≡ 0 → 3 * (count_of v2 s + 3) ≤ length run
  pub floors : 6 ≤ length run
  pub ring-room : header_fault v2 s ≡ 0 → count_of v2 s + 4 ≤ length ring
  pub corners-room : header_fault v2 s ≡ 0 → 3 * (count_of v2 s + 3) ≤ length corners

-- what is handed back for what the objectives were answered
abbrev pub batched_by : Result ℕ Unanswered → Result ℕ Refusal
batched_by (Err unanswered.Outside) = Ok 0
batched_by (Err (unanswered.Declined cause)) = Err (refusal (number_of_cause cause) 0)
batched_by (Ok n) = Ok n
