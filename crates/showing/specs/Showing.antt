-- A panel as it is shown: for a best outcome a line for each record of the chain, for any other outcome none, for a refused book the line
-- of the refusal. That these are the lines of what a book reads as is proved in the planner, which lends the chain's records.
use Rattle.std.specs.Prelude.{cond, Result, Ok, Err, List, [], map, ℕ, ◌*◌, leb, length}
use Rattle.lp.specs.declared.Point.{Point}
use Rattle.lp.specs.declared.Outcome.{Outcome}
use Rattle.lp.specs.declared.Outcome.TheVariants as outcome
use Rattle.records.specs.Layout.{Layout}
use Rattle.records.specs.Record.{record_at, rule_of}
use Rattle.records.specs.Planned.{planned_rule}
use Rattle.answers.specs.declared.Refusal.{Refusal}
use Rattle.amounts.specs.Amounts.{amount_of}
use Rattle.text.specs.Append.{Fills}
use Rattle.panel_row.specs.declared.Row.{Row}
use Rattle.panel_row.specs.Panel.{row_lines}
use Rattle.report.specs.Line.{line_of}

-- 64 bytes for each record of the greatest book, more than any panel takes
abbrev pub panel_room : Layout → ℕ
panel_room L = 64 * L.records

-- the row of a record
abbrev pub row_for : Layout → List ℕ → Point → ℕ → Row
row_for L s v i =
    record { label = (rule_of L (record_at L s i)).label; slack = amount_of (planned_rule (rule_of L (record_at L s i))) v }

abbrev pub rows_from : Layout → List ℕ → List ℕ → Outcome → List Row
rows_from L s records outcome.Infeasible = []
rows_from L s records (outcome.Unbounded u d) = []
rows_from L s records (outcome.Optimal v) = map (row_for L s v) records

-- records of a chain: more than a book can have are shown as none
abbrev pub within : Layout → List ℕ → List ℕ
within L records = cond (leb (length records) L.records) records []

abbrev pub panel_from : Layout → List ℕ → Result Outcome Refusal → List ℕ → List ℕ
panel_from L s (Ok q) records = row_lines (rows_from L s (within L records) q)
panel_from L s (Err f) records = line_of (Err f)

-- the promise of `show`
abbrev pub Shows : Layout → List ℕ → Result Outcome Refusal → List ℕ → List ℕ → List ℕ → ℕ → Type 0
Shows L s q records = Fills (panel_from L s q records) (panel_room L)
