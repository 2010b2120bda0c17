-- What the walk asks and hands back once it carries the region's boundary along, one record for each function.
use Rattle.std.specs.Prelude.{◌≡◌, List, Bool, true, false, ◌&&◌, ℕ, ◌+◌, ◌-◌, ◌≤◌, ◌<◌, leb, ltb, length, ℤ, Option}
use Rattle.lp.specs.declared.Constraint.{Constraint}
use Rattle.lp.specs.declared.Functional.{Functional}
use Rattle.lp.specs.declared.Floors.{Floors}
use Rattle.lp.specs.declared.Tie.{Tie}
use Rattle.lp.specs.declared.Point.{Point}
use Rattle.lp.specs.Program.{floor_x, floor_y}
use Rattle.lp.specs.Outcome.{every, meet}
use Rattle.lp.specs.Document.{tie}
use Rattle.lp.specs.Range.{SmallConstraint, SmallFloors}
use Rattle.lp.specs.declared.Ray.{Ray}
use Rattle.model.specs.declared.Walk.{Walk}
use Rattle.model.specs.Step.{begin, step, walk_from}
use Rattle.model.specs.Bounds.{SmallWalk}
use Rattle.boundary.specs.Size.{size}
use Rattle.boundary.proofs.Corner.{Corner}
use Rattle.boundary.proofs.Ends.{after}
use Rattle.engine.specs.declared.insert.Held.{Held}
use Rattle.engine.specs.declared.between.Gap.{Gap}
use Rattle.engine.specs.declared.carry.Carried.{Carried}
use Rattle.engine.specs.Entries.{entry, entries}
use Rattle.amounts.specs.Tests.{rule_in_range}
use Rattle.engine.specs.Sizes.{Entries, Restarting, Moving, Improving, Stepping, Walking}
use Rattle.engine.specs.Row.{cut_of}
use Rattle.engine.specs.Rings.{When, Standing, Carries}

-- ---- the change-over

-- the budget of entries is spent, more than 48 of n rules are left, and the ring's run has room for n
abbrev pub changes_over : ℕ → ℕ → ℕ → Bool
changes_over budget n rest = ltb budget 1 && ltb 48 rest && leb n 8190

-- ---- the ends of a new edge

-- the edge of h lies in the gap: walked upwards it ends at the edge before it, and else at the one behind it
abbrev pub end_point : Bool → Constraint → Gap → Point
end_point up h gap = elim up [ true ↦ meet gap.before h | false ↦ meet h gap.behind ]

pub record Ends (h : Constraint) (gap : Gap) : Type 0 where
  pub h-small : SmallConstraint h
  pub before-small : SmallConstraint gap.before
  pub behind-small : SmallConstraint gap.behind

-- in a ring that encloses the first n entries with h
pub record Between (l : List ℤ) (n : ℕ) (h : Constraint) (gap : Gap) : Type 0 where
  pub size : Constraint
  pub before-small : SmallConstraint gap.before
  pub behind-small : SmallConstraint gap.behind
  pub before : Corner size (after (entries l 0 n) h) gap.before h
  pub behind : Corner size (after (entries l 0 n) h) h gap.behind

-- if h has cut the ring
pub record RestartingAt (t : Tie) (l : List ℤ) (n : ℕ) (h : Constraint) (gap : Option Gap) : Type 0 where
  pub restarting : Restarting t l n h
  pub between : When (Between l n h) gap

pub record MovingAt (f : Functional) (t : Tie) (l : List ℤ) (n : ℕ) (h : Constraint) (gap : Option Gap) : Type 0 where
  pub moving : Moving f t l n h
  pub between : When (Between l n h) gap

pub record ImprovingAt (f : Functional) (t : Tie) (l : List ℤ) (n : ℕ) (h : Constraint) (cone : Option (Ray × Ray)) (b : Option Point)
    (broken : Bool) (gap : Option Gap) : Type 0 where
  pub improving : Improving f t l n h cone b broken
  pub between : When (Between l n h) gap

pub record SteppingAt (f : Functional) (t : Tie) (l : List ℤ) (n : ℕ) (h : Constraint) (w : Walk) (gap : Option Gap) : Type 0 where
  pub stepping : Stepping f t l n h w
  pub between : When (Between l n h) gap

-- ---- the ring of the entries so far

-- m entries, the floors first; the run has room for the triangle in its middle
pub record Growing (e : List ℤ) (run : List ℕ) (D : Constraint) (m : ℕ) : Type 0 where
  pub floors : Floors
  pub floors-small : SmallFloors floors
  pub size_is : D ≡ size floors
  pub first : entry e 0 ≡ floor_x floors
  pub second : entry e 1 ≡ floor_y floors
  pub entries : Entries e m
  pub two : 2 ≤ m
  pub few : m ≤ 8192
  pub room : 8 ≤ length run

pub record Grown (e : List ℤ) (before : List ℕ) (D : Constraint) (m : ℕ) (held : Held) (run : List ℕ) : Type 0 where
  pub same : length run ≡ length before
  pub holding : Carries e run D m held

-- ---- one rule, at entry i

-- the edges beside the first, if the ring has been cut
abbrev pub Beside : List ℤ → List ℕ → Held → Type 0
Beside e run held = When (Standing e run) (cut_of held)

pub record Advancing (f : Functional) (D : Constraint) (e : List ℤ) (run : List ℕ) (i : ℕ) (h : Constraint) (w : Walk)
    (held : Held) : Type 0 where
  pub stepping : Stepping f tie e i h w
  pub is : h ≡ entry e i
  pub few : i < 8192
  pub taken : Entries e (i + 1)
  pub size_small : SmallConstraint D
  pub holding : Carries e run D i held

pub record Advanced (f : Functional) (D : Constraint) (e : List ℤ) (before : List ℕ) (i : ℕ) (h : Constraint) (w : Walk) (r : Carried)
    (run : List ℕ) : Type 0 where
  pub same : length run ≡ length before
  pub walk : r.walk ≡ step tie f (entries e 0 i) i h w
  pub holding : Carries e run D (i + 1) r.held

-- ---- from entry i on

-- w is held there: the walk along what is left gives the whole, and what is left decides whether every rule is within its range
pub record Carrying (f : Functional) (floors : Floors) (l : List ℤ) (n : ℕ) (w : Walk) (i : ℕ) : Type 0 where
  pub walking : Walking f floors l n
  pub few : n ≤ 8190
  pub inside : i ≤ n + 2
  pub floors-first : 2 ≤ i
  pub taken : Entries l i
  pub small : SmallWalk (i - 2) w
  pub rest :
      walk_from tie f (entries l 0 i) i (entries l i (n + 2 - i)) w ≡ walk_from tie f (entries l 0 2) 2 (entries l 2 n) (begin floors f)
  pub in-range : every rule_in_range (entries l i (n + 2 - i)) ≡ every rule_in_range (entries l 2 n)

pub record CarryingIn (f : Functional) (floors : Floors) (l : List ℤ) (n : ℕ) (w : Walk) (i : ℕ) (run : List ℕ) : Type 0 where
  pub carrying : Carrying f floors l n w i
  pub room : 8 ≤ length run
