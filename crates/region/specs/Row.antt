-- A ring as it stands in a run of indices: n of them from place k on name the entries that are its edges. The rules that are to enter the
-- ring stand in such a run too.
use Rattle.std.specs.Prelude.{List, [], ◌∷◌, ◌++◌, ℕ, ◌+◌, ◌<◌, get_or, ℤ, Option}
use Rattle.lp.specs.declared.Constraint.{Constraint}
use Rattle.engine.specs.Entries.{entry}
use Rattle.boundary.specs.declared.Arc.{Arc}
use Rattle.boundary.specs.Ring.{sought}
use Rattle.engine.specs.Row.{edge_by, edges_by, row_by}

abbrev pub edge : List ℤ → List ℕ → ℕ → Constraint
edge e = edge_by (entry e)

abbrev pub edges : List ℤ → List ℕ → ℕ → ℕ → List Constraint
edges e = edges_by (entry e)

-- those of a ring, none if there is no ring
abbrev pub row_of : List ℤ → List ℕ → Option Arc → List Constraint
row_of e = row_by (entry e)

-- each of them is below m, the number of entries
abbrev pub Named : ℕ → List ℕ → ℕ → ℕ → Type 0
Named m run lo n = (k : ℕ) → k < n → get_or run (lo + k) 0 < m

-- ---- the steps of an insertion on a row of edges, which may be empty

-- the first edge put behind the others
abbrev pub rotated : List Constraint → List Constraint
rotated [] = []
rotated (k ∷ l) = l ++ (k ∷ [])

abbrev pub sought_row : Constraint → Constraint → ℕ → List Constraint → List Constraint
sought_row D h n [] = []
sought_row D h n (k ∷ l) = sought D h n k l
