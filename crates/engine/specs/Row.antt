-- The region's boundary as it stands in a run of indices: n of them from place k on name the edges of the ring. Index 0 names the horizon,
-- and index k + 1 entry k: so the entries need no room for the horizon. And what is held of a ring: where it stands, and the gap in which
-- it has been cut.
use Rattle.std.specs.Prelude.{List, [], ◌∷◌, Bool, true, false, ◌&&◌, ℕ, zero, suc, ◌+◌, ◌-◌, ◌≤◌, ◌<◌, ltb, get_or, ℤ, pos}
use Rattle.std.specs.Prelude.{Option, None, Some}
use Rattle.std.specs.Int.Signed.{le_z}
use Rattle.lp.specs.declared.Constraint.{Constraint}
use Rattle.lp.specs.declared.Point.{Point}
use Rattle.lp.specs.Program.{slack}
use Rattle.lp.specs.Outcome.{keeps}
use Rattle.boundary.specs.Size.{horizon}
use Rattle.boundary.specs.Ring.{front, back}
use Rattle.boundary.specs.declared.Arc.{Arc}
use Rattle.engine.specs.declared.insert.Held.{Held}
use Rattle.engine.specs.declared.insert.Held.TheVariants.{Nothing, Kept, Cut}
use Rattle.engine.specs.declared.between.Gap.{Gap}
use Rattle.engine.specs.Entries.{entry}

-- the constraint that the index at place k names, and those that n of them from there on name, whatever an index names
abbrev pub edge_by : (ℕ → Constraint) → List ℕ → ℕ → Constraint
edge_by name run k = name (get_or run k 0)

abbrev pub edges_by : (ℕ → Constraint) → List ℕ → ℕ → ℕ → List Constraint
edges_by name run k zero = []
edges_by name run k (suc n) = edge_by name run k ∷ edges_by name run (suc k) n

-- as the engine names them

abbrev pub named : List ℤ → ℕ → Constraint
named e zero = horizon
named e (suc k) = entry e k

abbrev pub edge : List ℤ → List ℕ → ℕ → Constraint
edge e = edge_by (named e)

abbrev pub edges : List ℤ → List ℕ → ℕ → ℕ → List Constraint
edges e = edges_by (named e)

-- each of them names the horizon or one of m entries
abbrev pub Named : ℕ → List ℕ → ℕ → ℕ → Type 0
Named m run lo n = (k : ℕ) → k < n → get_or run (lo + k) 0 ≤ m

-- the edge that follows edge k of a ring of n
abbrev pub following : ℕ → ℕ → ℕ
following n k = elim (ltb (k + 1) n) [ true ↦ k + 1 | false ↦ 0 ]

-- ---- the place of a constraint whose line meets that of the size in w

-- at the place of h in a ring of size D, where w is `meet h D`: see proofs/Places.antt
abbrev pub is_between : Point → Constraint → Constraint → Bool
is_between w k e = keeps k w && le_z (slack e w) (pos 0)

-- ---- what a constraint leaves of a row of edges, which may be empty

abbrev pub front_row : Constraint → List Constraint → List Constraint
front_row h [] = []
front_row h (p ∷ l) = front h p l

abbrev pub back_row : Constraint → List Constraint → List Constraint
back_row h [] = []
back_row h (p ∷ l) = back h p l

-- ---- what is held of a ring

-- where it stands
abbrev pub ring_of : Held → Option Arc
ring_of Nothing = None
ring_of (Kept a) = Some a
ring_of (Cut a) = Some a

-- where it stands, if the constraint that entered last has cut it
abbrev pub cut_of : Held → Option Arc
cut_of Nothing = None
cut_of (Kept a) = None
cut_of (Cut a) = Some a

-- the edges of a ring, whatever the indices name; none if no ring is held
abbrev pub row_by : (ℕ → Constraint) → List ℕ → Option Arc → List Constraint
row_by name run None = []
row_by name run (Some a) = edges_by name run a.lo a.n

-- the last edge and the second
abbrev pub gap_in : List ℤ → List ℕ → Arc → Gap
gap_in e run a = record { before = edge e run (a.lo + a.n - 1); behind = edge e run (a.lo + 1) }

-- the gap in which a ring has been cut
abbrev pub gap_of : List ℤ → List ℕ → Held → Option Gap
gap_of e run Nothing = None
gap_of e run (Kept a) = None
gap_of e run (Cut a) = Some (gap_in e run a)
