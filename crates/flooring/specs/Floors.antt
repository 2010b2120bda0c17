-- The floors as the first two entries of a flat list of numbers, three to an entry: a, b, c, a, b, c, .. An entry put into the list, and
-- both floors put into it.
use Rattle.std.specs.Prelude.{◌≡◌, List, Bool, cond, ◌&&◌, ℕ, ◌+◌, ◌*◌, leb, length, set, ℤ}
use Rattle.lp.specs.declared.Constraint.{Constraint}
use Rattle.lp.specs.declared.Floors.{Floors}
use Rattle.lp.specs.Program.{floor_x, floor_y}
use Rattle.amounts.specs.Tests.{floors_in_range}

abbrev pub put_entry : List ℤ → ℕ → Constraint → List ℤ
put_entry l k c = set (set (set l (3 * k) c.a) (3 * k + 1) c.b) (3 * k + 2) c.c

-- entries 0 and 1 are the floors
abbrev pub laid : Floors → List ℤ → List ℤ
laid f l = put_entry (put_entry l 0 (floor_x f)) 1 (floor_y f)

-- so they are where six numbers have room and the floors are within their range; else the run is as it was
abbrev pub with_floors : Floors → List ℤ → List ℤ
with_floors f l = cond (leb 6 (length l) && floors_in_range f) (laid f l) l

-- the promise of laying them
pub record Lays (f : Floors) (before : List ℤ) (t : Bool) (after : List ℤ) : Type 0 where
  pub told : t ≡ (leb 6 (length before) && floors_in_range f)
  pub run : after ≡ with_floors f before
