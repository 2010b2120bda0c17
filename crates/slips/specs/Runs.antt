-- What the writer's private functions ask of their numbers, and the chain in its runs. The runs and their sizes are those of the checker.
use Rattle.std.specs.Prelude.{List, ℕ, ◌+◌, ◌*◌, ◌≤◌, ◌<◌, length, get_or, ℤ, pos}
use Rattle.lp.specs.declared.Constraint.{Constraint}
use Rattle.lp.specs.declared.Functional.{Functional}
use Rattle.lp.specs.declared.Floors.{Floors}
use Rattle.lp.specs.declared.Point.{Point}
use Rattle.lp.specs.Range.{SmallConstraint, SmallFunctional, SmallFloors}
use Rattle.slip.specs.Runs.{entry as rule_at, entries as rules_from, indices as records_from, Entries, SmallPair}
use Rattle.slips.specs.declared.pass.Side.{Side}
use Rattle.slips.specs.declared.pass.Held.{Held}
use Rattle.slips.specs.Pass.{side}

abbrev pub entries : List ℤ → ℕ → ℕ → List Constraint
entries l i n = rules_from l i n

abbrev pub indices : List ℕ → ℕ → ℕ → List ℕ
indices l i n = records_from l i n

abbrev pub side_at : List ℕ → List ℤ → ℕ → Side
side_at records rules i = side (pos (get_or records i 0 + 1)) (rule_at rules i)

pub record Room (records : List ℕ) (rules : List ℤ) (i : ℕ) : Type 0 where
  pub names : i < length records
  pub room : 3 * i + 2 < length rules

pub record Lines (r s : Constraint) : Type 0 where
  pub first : SmallConstraint r
  pub second : SmallConstraint s

pub record SmallHeld (h : Held) : Type 0 where
  pub left : SmallConstraint h.left.rule
  pub right : SmallConstraint h.right.rule
  pub level : SmallConstraint h.level.rule

pub record Placing (f : Constraint) (s : Side) (h : Held) : Type 0 where
  pub objective : SmallConstraint f
  pub entry : SmallConstraint s.rule
  pub held : SmallHeld h

pub record Turning (f : Constraint) (v : Point) (s : Side) (h : Held) : Type 0 where
  pub pair : SmallPair v
  pub placing : Placing f s h

pub record Flooring (f : Constraint) (v : Point) (floors : Floors) : Type 0 where
  pub objective : SmallConstraint f
  pub pair : SmallPair v
  pub floors-small : SmallFloors floors

pub record Passing (f : Functional) (v : Point) (floors : Floors) (records : List ℕ) (rules : List ℤ) (n : ℕ) : Type 0 where
  pub objective : SmallFunctional f
  pub pair : SmallPair v
  pub floors-small : SmallFloors floors
  pub names : n ≤ length records
  pub entries : Entries rules n
