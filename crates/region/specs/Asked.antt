-- What the private functions ask of numbers and runs, and what they hand back, one record for each. Of a ring that is not there nothing is
-- said but that it has no edges.
use Rattle.std.specs.Prelude.{◌≡◌, List, ℕ, ◌+◌, ◌*◌, ◌-◌, ◌^◌, ◌≤◌, ◌<◌, length, get_or, ℤ, Option}
use Rattle.lp.specs.declared.Constraint.{Constraint}
use Rattle.lp.specs.declared.Floors.{Floors}
use Rattle.lp.specs.declared.Point.{Point}
use Rattle.lp.specs.Program.{floor_x, floor_y}
use Rattle.lp.specs.Range.{SmallConstraint, SmallFloors}
use Rattle.engine.specs.Sizes.{Entries}
use Rattle.engine.specs.Entries.{entry}
use Rattle.boundary.specs.Size.{horizon}
use Rattle.boundary.specs.Ring.{closed, insert, grown_from, grown, corners, listed}
use Rattle.boundary.specs.declared.Arc.{Arc}
use Rattle.engine.specs.Row.{front_row}
use Rattle.engine.specs.Rings.{When, Meeting}
use Rattle.region.specs.Row.{edge, edges, row_of, Named}
use Rattle.region.specs.Listing.{put_points}

-- ---- one edge, and a corner

-- the index at place k of the run names one of the entries
pub record At (e : List ℤ) (run : List ℕ) (k : ℕ) : Type 0 where
  pub place : k < length run
  pub room : 3 * get_or run k 0 + 2 < length e

pub record Pair (e : List ℤ) (run : List ℕ) (h : Constraint) (i j : ℕ) : Type 0 where
  pub first : At e run i
  pub second : At e run j
  pub meeting : Meeting h (edge e run i) (edge e run j)

pub record Place (e : List ℤ) (run : List ℕ) (D h : Constraint) (i j : ℕ) : Type 0 where
  pub first : At e run i
  pub second : At e run j
  pub size_small : SmallConstraint D
  pub meeting : Meeting h (edge e run i) (edge e run j)

-- ---- the run of indices

pub record Sliding (run : List ℕ) (lo n : ℕ) : Type 0 where
  pub small : lo + n < 2 ^ 64
  pub fits : lo + n ≤ length run

pub record Slides (before : List ℕ) (lo n : ℕ) (after : List ℕ) : Type 0 where
  pub same : length after ≡ length before
  pub moved : (k : ℕ) → k < n → get_or after k 0 ≡ get_or before (lo + k) 0

-- there is room for one more
pub record Turning (run : List ℕ) (lo n : ℕ) : Type 0 where
  pub some : 0 < n
  pub fits : lo + n ≤ length run
  pub spare : n < length run

pub record Spared (before : List ℕ) (lo n : ℕ) (at : ℕ) (after : List ℕ) : Type 0 where
  pub same : length after ≡ length before
  pub spare : at + n < length after
  pub moved : (k : ℕ) → k < n → get_or after (at + k) 0 ≡ get_or before (lo + k) 0

pub record Turned (before : List ℕ) (lo n : ℕ) (at : ℕ) (after : List ℕ) : Type 0 where
  pub same : length after ≡ length before
  pub fits : at + n ≤ length after
  pub later : 0 < at
  pub others : (k : ℕ) → k + 1 < n → get_or after (at + k) 0 ≡ get_or before (lo + (k + 1)) 0
  pub last : (k : ℕ) → k + 1 ≡ n → get_or after (at + k) 0 ≡ get_or before lo 0

-- ---- the ring

-- n edges from place lo on, of some number of entries within their ranges
pub record Ring (e : List ℤ) (run : List ℕ) (lo n : ℕ) : Type 0 where
  pub count : ℕ
  pub entries : Entries e count
  pub fits : lo + n ≤ length run
  pub named : Named count run lo n

pub record Seeking (e : List ℤ) (run : List ℕ) (D h : Constraint) (lo n : ℕ) : Type 0 where
  pub ring : Ring e run lo n
  pub spare : n < length run
  pub two : 2 ≤ n
  pub size_small : SmallConstraint D
  pub h-small : SmallConstraint h

-- the run holds the row l, of entries that it held before
pub record Sought (e : List ℤ) (before : List ℕ) (lo n : ℕ) (l : List Constraint) (at : ℕ) (after : List ℕ) : Type 0 where
  pub same : length after ≡ length before
  pub fits : at + n ≤ length after
  pub row : edges e after at n ≡ l
  pub named : (m : ℕ) → Named m before lo n → Named m after at n

pub record Cutting (e : List ℤ) (run : List ℕ) (h : Constraint) (lo n : ℕ) : Type 0 where
  pub ring : Ring e run lo n
  pub some : 0 < n
  pub h-small : SmallConstraint h

-- there is room for one more before them
pub record Putting (e : List ℤ) (run : List ℕ) (h : Constraint) (lo n : ℕ) : Type 0 where
  pub cutting : Cutting e run h lo n
  pub later : 0 < lo

-- a ring stands there, and names what the run named before from place lo on, or index h
pub record Put (before : List ℕ) (h lo n : ℕ) (next : Arc) (after : List ℕ) : Type 0 where
  pub fits : next.lo + next.n ≤ length after
  pub two : 2 ≤ next.n
  pub named : (m : ℕ) → h < m → Named m before lo n → Named m after next.lo next.n

-- the run holds the row with both ends cut, and index h before it, or nothing
pub record Cut (e : List ℤ) (before : List ℕ) (h : ℕ) (line : Constraint) (lo n : ℕ) (next : Option Arc) (after : List ℕ) : Type 0 where
  pub same : length after ≡ length before
  pub row : line ≡ entry e h → row_of e after next ≡ closed line (front_row line (edges e before lo n))
  pub put : When (λ (a : Arc). Put before h lo n a after) next

-- two edges or more, each of m entries, in a run with room for one more
pub record Standing (run : List ℕ) (m : ℕ) (arc : Arc) : Type 0 where
  pub fits : arc.lo + arc.n ≤ length run
  pub spare : arc.n < length run
  pub two : 2 ≤ arc.n
  pub named : Named m run arc.lo arc.n

-- the entry at index h, one of a number of entries within their ranges, enters
pub record Inserting (e : List ℤ) (run : List ℕ) (D : Constraint) (h : ℕ) (arc : Option Arc) : Type 0 where
  pub count : ℕ
  pub entries : Entries e count
  pub below : h < count
  pub size_small : SmallConstraint D
  pub standing : When (Standing run count) arc

-- a ring stands there, and names what that of arc named, or index h
pub record Stands (before : List ℕ) (h : ℕ) (arc : Option Arc) (next : Arc) (after : List ℕ) : Type 0 where
  pub fits : next.lo + next.n ≤ length after
  pub two : 2 ≤ next.n
  pub named : (m : ℕ) → h < m → When (λ (a : Arc). Named m before a.lo a.n) arc → Named m after next.lo next.n

pub record Inserted (e : List ℤ) (before : List ℕ) (D : Constraint) (h : ℕ) (arc next : Option Arc) (after : List ℕ) : Type 0 where
  pub same : length after ≡ length before
  pub row : row_of e after next ≡ insert D (entry e h) (row_of e before arc)
  pub stands : When (λ (a : Arc). Stands before h arc a after) next

-- ---- all of it

-- the entries that the order names are to enter
pub record Entering (e : List ℤ) (order run : List ℕ) (D : Constraint) (arc : Arc) : Type 0 where
  pub ring : Ring e run arc.lo arc.n
  pub two : 2 ≤ arc.n
  pub ordered : Named ring.count order 0 (length order)
  pub room : arc.n + length order < length run
  pub size_small : SmallConstraint D

-- a ring stands there, and names what that of arc named, or what the order names
pub record Ordered (order before : List ℕ) (arc next : Arc) (after : List ℕ) : Type 0 where
  pub fits : next.lo + next.n ≤ length after
  pub two : 2 ≤ next.n
  pub named : (m : ℕ) → Named m order 0 (length order) → Named m before arc.lo arc.n → Named m after next.lo next.n

pub record Entered (e : List ℤ) (order before : List ℕ) (D : Constraint) (arc : Arc) (next : Option Arc) (after : List ℕ) : Type 0 where
  pub same : length after ≡ length before
  pub row : row_of e after next ≡ grown_from D (edges e before arc.lo arc.n) (edges e order 0 (length order))
  pub ordered : When (λ (a : Arc). Ordered order before arc a after) next

-- the floors are the first two of m entries, and the horizon the last
pub record Growing (e : List ℤ) (floors : Floors) (order run : List ℕ) (m : ℕ) : Type 0 where
  pub entries : Entries e m
  pub some : 2 < m
  pub few : m ≤ 65536
  pub floors-small : SmallFloors floors
  pub first : entry e 0 ≡ floor_x floors
  pub second : entry e 1 ≡ floor_y floors
  pub third : entry e (m - 1) ≡ horizon
  pub ordered : Named m order 0 (length order)
  pub room : length order + 4 ≤ length run

-- two edges or more, each of m entries
pub record Grows (m : ℕ) (arc : Arc) (after : List ℕ) : Type 0 where
  pub fits : arc.lo + arc.n ≤ length after
  pub two : 2 ≤ arc.n
  pub named : Named m after arc.lo arc.n

pub record Grown (e : List ℤ) (floors : Floors) (order before : List ℕ) (m : ℕ) (arc : Option Arc) (after : List ℕ) : Type 0 where
  pub same : length after ≡ length before
  pub row : row_of e after arc ≡ grown floors (edges e order 0 (length order))
  pub grows : When (λ (a : Arc). Grows m a after) arc

-- ---- the corners

pub record PointRoom (out : List ℤ) (k : ℕ) : Type 0 where
  pub room : 3 * k + 2 < length out

pub record Noting (out : List ℤ) (p q : Constraint) (k : ℕ) : Type 0 where
  pub p-small : SmallConstraint p
  pub q-small : SmallConstraint q
  pub room : 3 * k + 2 < length out

-- whatever points follow, they follow the corner of p and q
pub record Noted (before : List ℤ) (p q : Constraint) (k next : ℕ) (after : List ℤ) : Type 0 where
  pub same : length after ≡ length before
  pub fewer : next ≤ k + 1
  pub put : (vs : List Point) → put_points after next vs ≡ put_points before k (listed p q vs)
  pub counted : (vs : List Point) → next + length vs ≡ k + length (listed p q vs)

pub record Listing (e : List ℤ) (run : List ℕ) (arc : Arc) (out : List ℤ) : Type 0 where
  pub ring : Ring e run arc.lo arc.n
  pub some : 1 ≤ arc.n
  pub room : 3 * arc.n ≤ length out

pub record CornersPut (e : List ℤ) (run : List ℕ) (arc : Arc) (before : List ℤ) (k : ℕ) (after : List ℤ) : Type 0 where
  pub count : k ≡ length (corners (edges e run arc.lo arc.n))
  pub put : after ≡ put_points before 0 (corners (edges e run arc.lo arc.n))

-- ---- the floors before the rules, and the horizon after them

pub record Framing (f : Floors) (e : List ℤ) (n : ℕ) : Type 0 where
  pub floors-small : SmallFloors f
  pub room : 3 * (n + 3) ≤ length e
  pub few : n < 65534

-- ---- the tests

-- n rules after the floors have room
pub record Testing (e : List ℤ) (n : ℕ) : Type 0 where
  pub room : 3 * (n + 2) ≤ length e
  pub few : n < 65534
