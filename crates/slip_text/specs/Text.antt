-- The text of a slip as a list of bytes: `best X Y D scale k` and k times entry and weight, `unlimited X Y D dx dy`, or `impossible k` and
-- k times entry and weight, entries written as in the plan's line.
use Rattle.std.specs.Prelude.{List, [], ◌++◌, Bool, true, false, cond, ℕ, ℤ, pos, ◌-ℤ◌}
use Rattle.std.specs.Int.Signed.{le_z}
use Rattle.lp.specs.declared.Outcome.{Outcome}
use Rattle.lp.specs.declared.Outcome.TheVariants.{Infeasible, Unbounded, Optimal}
use Rattle.text.specs.Text.{text}
use Rattle.text.specs.Number.{field, integer}
use Rattle.pairs.specs.Pair.{pair, direction}
use Rattle.slip.specs.declared.Weights.{Weights}
use Rattle.slip.specs.declared.Slip.{Slip}
use Rattle.slip.specs.Slots.{one, two, three}

-- the floors have letters, and r + 1 is the rule in record r
unfoldable pub code_text : ℤ → List ℕ
code_text c =
    elim (le_z c (pos 0)) [
      | true ↦ field (text "X")
      | false ↦ elim (le_z c (pos 1)) [ true ↦ field (text "Y") | false ↦ integer (c -ℤ pos 1) ]
    ]

-- an entry that counts, and its weight
unfoldable pub slot_text : Bool → ℤ → ℤ → List ℕ
slot_text counts code weight = cond counts (code_text code ++ integer weight) []

-- k, then k times entry and weight
unfoldable pub entries_text : Weights → List ℕ
entries_text w =
    integer w.count
    ++ (slot_text (one w) w.first w.first_weight
    ++ (slot_text (two w) w.second w.second_weight ++ slot_text (three w) w.third w.third_weight))

unfoldable pub fields_of : Outcome → Weights → List ℕ
fields_of (Optimal v) w = text "best" ++ (pair v ++ (integer w.scale ++ entries_text w))
fields_of (Unbounded v d) w = text "unlimited" ++ (pair v ++ direction d)
fields_of Infeasible w = text "impossible" ++ entries_text w

abbrev pub slip_text : Slip → List ℕ
slip_text s = fields_of s.outcome s.weights
