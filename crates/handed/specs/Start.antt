-- A start pair put into a lent run of numbers, and that nothing else of the run changes.
use Rattle.std.specs.Prelude.{◌≡◌, List, ℕ, ◌≤◌, ◌<◌, length, set, ℤ, pos, Result, Ok, Err, unwrap_or}
use Rattle.lp.specs.declared.Point.{Point}
use Rattle.lp.specs.Program.{point}
use Rattle.answers.specs.declared.Refusal.{Refusal}
use Rattle.planner.specs.declared.StartView.{StartView}
use Rattle.handed.specs.Told.{told_of}

-- a point as three numbers at the start of a run
abbrev pub put_point : List ℤ → Point → List ℤ
put_point l v = set (set (set l 0 v.x) 1 v.y) 2 v.d

pub record PointRoom (l : List ℤ) : Type 0 where
  pub room : 3 ≤ length l

-- three zeros, which stand where there is no pair
abbrev pub nowhere : Point
nowhere = point (pos 0) (pos 0) (pos 0)

-- what is handed back of a view
abbrev pub view_told : Result StartView Refusal → ℕ
view_told (Ok v) = v.restarts
view_told (Err r) = told_of (Err r)

-- a refused book, and fewer than three numbers, leave what is lent as it was
pub record StartPut (view : Result StartView Refusal) (before after : List ℤ) (count : ℕ) : Type 0 where
  pub written :
      (v : StartView) →
      view ≡ Ok v →
      3 ≤ length before →
      after ≡ put_point before (unwrap_or v.start nowhere)
  pub refused-untouched : (r : Refusal) → view ≡ Err r → after ≡ before
  pub short-untouched : length before < 3 → after ≡ before
  pub told : count ≡ view_told view
