-- What the functions of the region's boundary ask, and what they hand back, one record for each. They say of the ring that it encloses a
-- system, whichever system that is; and which of its turnings the run holds is left open, so that any search for a place will do. Of a
-- place that was not found, and of a ring that is not held, nothing is said.
use Rattle.std.specs.Prelude.{◌≡◌, List, [], ◌∷◌, ◌++◌, true, ℕ, ◌+◌, ◌*◌, ◌-◌, ◌^◌, ◌≤◌, ◌<◌, length, get_or, ℤ, Option, None, Some}
use Rattle.lp.specs.declared.Constraint.{Constraint}
use Rattle.lp.specs.declared.Point.{Point}
use Rattle.lp.specs.Range.{SmallConstraint}
use Rattle.boundary.specs.Size.{horizon}
use Rattle.boundary.specs.Ring.{closed}
use Rattle.boundary.proofs.Insert.{Encloses}
pub use Rattle.exact.specs.Sizes.{Meeting}
use Rattle.engine.specs.Entries.{entries}
use Rattle.engine.specs.Sizes.{Entries, SmallTriple}
use Rattle.engine.specs.Row.{edges_by, named, edge, edges, Named, following, is_between, front_row, back_row, ring_of, cut_of, row_by}
use Rattle.boundary.specs.declared.Arc.{Arc}
use Rattle.engine.specs.declared.insert.Held.{Held}

-- what is said of a thing, if there is one
abbrev pub When : {A : Type 0} → (A → Type 0) → Option A → Type 0
When P None = Unit {0}
When P (Some a) = P a

-- ---- one edge, and a corner

-- the index at place k of the run names the horizon, or an entry for which there is room
pub record At (e : List ℤ) (run : List ℕ) (k : ℕ) : Type 0 where
  pub place : k < length run
  pub room : 3 * get_or run k 0 ≤ length e

-- h at the corner of p and q
pub record Pair (e : List ℤ) (run : List ℕ) (h : Constraint) (i j : ℕ) : Type 0 where
  pub first : At e run i
  pub second : At e run j
  pub meeting : Meeting h (edge e run i) (edge e run j)

-- a constraint whose line meets that of the size in w, at two places
pub record Place (e : List ℤ) (run : List ℕ) (w : Point) (i j : ℕ) : Type 0 where
  pub first : At e run i
  pub second : At e run j
  pub first_small : SmallConstraint (edge e run i)
  pub second-small : SmallConstraint (edge e run j)
  pub w-small : SmallTriple w

-- ---- the ring

-- n edges from place lo on: the horizon, and some of a number of entries within their ranges
pub record Ring (e : List ℤ) (run : List ℕ) (lo n : ℕ) : Type 0 where
  pub count : ℕ
  pub entries : Entries e count
  pub fits : lo + n ≤ length run
  pub named : Named count run lo n

-- ---- turning it

-- to begin behind its edge k
pub record TurningTo (run : List ℕ) (lo n k : ℕ) : Type 0 where
  pub inside : k < n
  pub fits : lo + n ≤ length run

-- there is room behind it
pub record Forwards (run : List ℕ) (lo n k : ℕ) : Type 0 where
  pub inside : k < n
  pub room : lo + n + k + 1 ≤ length run

-- there is room before it, and for one more
pub record Backwards (run : List ℕ) (lo n k : ℕ) : Type 0 where
  pub inside : k < n
  pub fits : lo + n ≤ length run
  pub room : n < lo + k + 1

-- it holds the same edges, and encloses what it enclosed
pub record Turned (before : List ℕ) (lo n : ℕ) (at : ℕ) (after : List ℕ) : Type 0 where
  pub same : length after ≡ length before
  pub fits : at + n ≤ length after
  pub named : (m : ℕ) → Named m before lo n → Named m after at n
  pub ring :
      (e : List ℤ) (D : Constraint) (S : List Constraint) →
      Encloses D S (edges e before lo n) →
      Encloses D S (edges e after at n)

-- and edge k is its last, so that the one that followed it is its first
pub record Faces (before : List ℕ) (lo n k : ℕ) (at : ℕ) (after : List ℕ) : Type 0 where
  pub turned : Turned before lo n at after
  pub later : 0 < at
  pub last : get_or after (at + n - 1) 0 ≡ get_or before (lo + k) 0
  pub first : get_or after at 0 ≡ get_or before (lo + following n k) 0

-- if there was room
pub record Turns (before : List ℕ) (lo n k : ℕ) (at : Option ℕ) (after : List ℕ) : Type 0 where
  pub same : length after ≡ length before
  pub faces : When (λ (p : ℕ). Faces before lo n k p after) at

-- ---- the search for the place of a constraint whose line meets that of the size in w

pub record Ordering (v : Point) (x : Constraint) (w : Point) : Type 0 where
  pub v-small : SmallTriple v
  pub x-small : SmallConstraint x
  pub w-small : SmallTriple w

pub record Seeking (e : List ℤ) (run : List ℕ) (w : Point) (lo n : ℕ) : Type 0 where
  pub ring : Ring e run lo n
  pub two : 2 ≤ n
  pub w-small : SmallTriple w

pub record Halving (e : List ℤ) (run : List ℕ) (D : Constraint) (w : Point) (lo n : ℕ) : Type 0 where
  pub seeking : Seeking e run w lo n
  pub size_small : SmallConstraint D

-- it is between edge k and the one that follows
pub record Sought (e : List ℤ) (run : List ℕ) (w : Point) (lo n k : ℕ) : Type 0 where
  pub inside : k < n
  pub between : is_between w (edge e run (lo + k)) (edge e run (lo + following n k)) ≡ true

-- ---- what h leaves of the ring

pub record Cutting (e : List ℤ) (run : List ℕ) (h : Constraint) (lo n : ℕ) : Type 0 where
  pub ring : Ring e run lo n
  pub some : 0 < n
  pub h-small : SmallConstraint h

-- i edges at the front are dropped, whatever the run's indices name
pub record Dropped (name : ℕ → Constraint) (run : List ℕ) (lo n : ℕ) (h : Constraint) (i : ℕ) : Type 0 where
  pub some : i < n
  pub row : edges_by name run (lo + i) (n - i) ≡ front_row h (edges_by name run lo n)

-- k edges are left when those at the back are dropped
pub record Left (name : ℕ → Constraint) (run : List ℕ) (lo n : ℕ) (h : Constraint) (k : ℕ) : Type 0 where
  pub some : 0 < k
  pub fewer : k ≤ n
  pub row : edges_by name run lo k ≡ back_row h (edges_by name run lo n)

-- there is room for one more before them; index i names h
pub record Putting (e : List ℤ) (run : List ℕ) (i : ℕ) (h : Constraint) (lo n : ℕ) : Type 0 where
  pub cutting : Cutting e run h lo n
  pub later : 0 < lo
  pub is : h ≡ named e i

-- a ring stands there, with h as its first edge
pub record Put (e : List ℤ) (before : List ℕ) (i : ℕ) (h : Constraint) (lo n : ℕ) (next : Arc) (after : List ℕ) : Type 0 where
  pub fits : next.lo + next.n ≤ length after
  pub two : 2 ≤ next.n
  pub named : (m : ℕ) → i ≤ m → Named m before lo n → Named m after next.lo next.n
  pub first : edge e after next.lo ≡ h

-- the run holds the row with both ends cut, and h before it, or nothing
pub record Cut (e : List ℤ) (before : List ℕ) (i : ℕ) (h : Constraint) (lo n : ℕ) (next : Option Arc) (after : List ℕ) : Type 0 where
  pub same : length after ≡ length before
  pub row : row_by (named e) after next ≡ closed h (front_row h (edges e before lo n))
  pub put : When (λ (a : Arc). Put e before i h lo n a after) next

-- ---- h enters

pub record Following (lo n k : ℕ) : Type 0 where
  pub inside : k < n
  pub room : lo + n < 2 ^ 64

-- two edges or more
pub record Standing (e : List ℤ) (run : List ℕ) (arc : Arc) : Type 0 where
  pub ring : Ring e run arc.lo arc.n
  pub two : 2 ≤ arc.n

-- if a ring is held, it encloses the system
abbrev pub Holds : Constraint → List Constraint → List ℤ → List ℕ → Option Arc → Type 0
Holds D S e run = When (λ (a : Arc). Encloses D S (edges e run a.lo a.n))

pub record Inserting (e : List ℤ) (run : List ℕ) (D : Constraint) (i : ℕ) (h : Constraint) (held : Held) : Type 0 where
  pub standing : When (Standing e run) (ring_of held)
  pub size_small : SmallConstraint D
  pub h-small : SmallConstraint h
  pub is : h ≡ named e i

-- a ring stands there, where it stood before as that of arc, if one was held
pub record Stands (e : List ℤ) (before : List ℕ) (D : Constraint) (i : ℕ) (h : Constraint) (arc : Option Arc) (next : Arc)
    (after : List ℕ) : Type 0 where
  pub fits : next.lo + next.n ≤ length after
  pub two : 2 ≤ next.n
  pub named : (m : ℕ) → i ≤ m → When (λ (a : Arc). Named m before a.lo a.n) arc → Named m after next.lo next.n
  pub ring : (S : List Constraint) → Holds D S e before arc → Encloses D (S ++ (h ∷ [])) (edges e after next.lo next.n)

-- where h has cut the ring it is the first edge
pub record Inserted (e : List ℤ) (before : List ℕ) (D : Constraint) (i : ℕ) (h : Constraint) (held next : Held) (after : List ℕ) : Type 0
  where
    pub same : length after ≡ length before
    pub stands : When (λ (a : Arc). Stands e before D i h (ring_of held) a after) (ring_of next)
    pub first : When (λ (a : Arc). edge e after a.lo ≡ h) (cut_of next)

-- ---- the ring of the first m entries

pub record Holding (e : List ℤ) (run : List ℕ) (D : Constraint) (m : ℕ) (arc : Arc) : Type 0 where
  pub fits : arc.lo + arc.n ≤ length run
  pub two : 2 ≤ arc.n
  pub named : Named m run arc.lo arc.n
  pub ring : Encloses D (horizon ∷ entries e 0 m) (edges e run arc.lo arc.n)

-- if one is held
abbrev pub Carries : List ℤ → List ℕ → Constraint → ℕ → Held → Type 0
Carries e run D m held = When (Holding e run D m) (ring_of held)
