-- What is written to a lent buffer, and that nothing else of it changes: the line of a plan, the start pair after a prefix, and the
-- repacked form. (The lines of a panel are the planner's own promise.)
use Rattle.std.specs.Prelude.{◌≡◌, List, ℕ, ◌≤◌, ◌<◌, length, ℤ, Ok, Err, unwrap_or}
use Rattle.records.specs.Layout.{Layout}
use Rattle.book.specs.Reading.{read_of}
use Rattle.repacker.specs.Repacking.{repack_of}
use Rattle.repacker.specs.Promises.{repacked_of, output_of}
use Rattle.answers.specs.Answer.{Answer}
use Rattle.report.specs.Written.{Written}
use Rattle.answers.specs.declared.Refusal.{Refusal}
use Rattle.planner.specs.declared.StartView.{StartView}
use Rattle.planner.specs.Planning.{Answers}
use Rattle.planner.specs.View.{view_of}
use Rattle.handed.specs.Told.{told_of}
use Rattle.handed.specs.Start.{put_point, nowhere, view_told}

-- the promise of the printed line: it is that of an answer to the book, which is one as `plan` promises
pub record PlanLine (L : Layout) (s before after : List ℕ) (count : ℕ) : Type 0 where
  pub answer : Answer
  pub answers : Answers L s answer
  pub written : Written answer before after count

-- the promise of the view: a refused book, and fewer than three numbers, leave what is lent as it was
pub record StartWritten (L : Layout) (s : List ℕ) (k : ℕ) (before after : List ℤ) (count : ℕ) : Type 0 where
  pub written :
      (v : StartView) →
      view_of (read_of L s) k ≡ Ok v →
      3 ≤ length before →
      after ≡ put_point before (unwrap_or v.start nowhere)
  pub refused-untouched : (r : Refusal) → view_of (read_of L s) k ≡ Err r → after ≡ before
  pub short-untouched : length before < 3 → after ≡ before
  pub told : count ≡ view_told (view_of (read_of L s) k)

-- the promise of the repacker, where what it comes to is handed back as one number
pub record RepackWritten (L : Layout) (s before after : List ℕ) (count : ℕ) : Type 0 where
  pub output : after ≡ output_of (repack_of L s (length before)) before
  pub told : count ≡ told_of (repacked_of (repack_of L s (length before)))
