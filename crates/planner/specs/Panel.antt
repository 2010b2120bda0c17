-- The panel of a book, as the bytes of its lines: for a best outcome a line for each rule, its label and its slack, in chain order; for
-- any other outcome none; for a refused book the line of the refusal.
use Rattle.std.specs.Prelude.{List, [], map, ℕ, Err}
use Rattle.lp.specs.declared.Point.{Point}
use Rattle.lp.specs.declared.Outcome.{Outcome}
use Rattle.lp.specs.declared.Outcome.TheVariants as outcome
use Rattle.lp.specs.Outcome.{outcome}
use Rattle.lp.specs.Slack.{slack_of}
use Rattle.lp.specs.Document.{tie}
use Rattle.records.specs.Layout.{Layout}
use Rattle.records.specs.Planned.{planned_rule}
use Rattle.book.specs.Reading.{Reading, refused, accepted, Entry, read_of, rules_of}
use Rattle.answers.specs.Refusal.{refusal}
use Rattle.text.specs.Append.{Fills}
use Rattle.panel_row.specs.declared.Row.{Row}
use Rattle.report.specs.Line.{line_of}
use Rattle.panel_row.specs.Panel.{row_lines}
use Rattle.showing.specs.Showing.{panel_room}

-- a rule of the chain, kind 2 turned round, at a pair
abbrev pub row_of : Point → Entry → Row
row_of v e = record { label = e.rule.label; slack = slack_of (planned_rule e.rule) v }

abbrev pub rows_for : List Entry → Outcome → List Row
rows_for es outcome.Infeasible = []
rows_for es (outcome.Unbounded s d) = []
rows_for es (outcome.Optimal v) = map (row_of v) es

-- what is shown of what a book reads as
unfoldable pub panel_text : Reading → List ℕ
panel_text (refused n r) = line_of (Err (refusal n r))
panel_text (accepted t es) = row_lines (rows_for es (outcome tie t.floors t.objective (rules_of es)))

-- the promise of the panel's lines
abbrev pub Panels : Layout → List ℕ → List ℕ → List ℕ → ℕ → Type 0
Panels L s = Fills (panel_text (read_of L s)) (panel_room L)
