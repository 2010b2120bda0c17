-- The entries of a system in a flat list of numbers, three to an entry: a, b, c, a, b, c, .. Reading entries off the list;
-- putting one into it is the floors' part (crate `flooring`), and is passed on from there.
use Rattle.std.specs.Prelude.{List, [], ◌∷◌, ℕ, zero, suc, ◌+◌, ◌*◌, get_or, ℤ, pos}
use Rattle.lp.specs.declared.Constraint.{Constraint}
use Rattle.lp.specs.Program.{constraint}
pub use Rattle.flooring.specs.Floors.{put_entry}

abbrev pub entry : List ℤ → ℕ → Constraint
entry l k = constraint (get_or l (3 * k) (pos 0)) (get_or l (3 * k + 1) (pos 0)) (get_or l (3 * k + 2) (pos 0))

-- n entries from index i on
abbrev pub entries : List ℤ → ℕ → ℕ → List Constraint
entries l i zero = []
entries l i (suc n) = entry l i ∷ entries l (suc i) n
