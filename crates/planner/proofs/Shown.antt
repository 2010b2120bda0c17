-- Request 101 on bytes: what the text of a book's panel is, for every book of whichever layout. The promise of `panel_lines` fills the
-- buffer with that text.
use mathlib.Core.Path.{◌≡◌, ap, ◌∙◌}
use mathlib.Core.List.Memᴰ
use mathlib.Core.List.{List, [], ◌∷◌, map, Memᴰ}
use mathlib.Core.Logic.{⊎_elim}
use Prim.Native.Nat.{ℕ, ◌≤◌, ◌<◌}
use native.Mathlib.Omega.{arith}
use native.Mathlib.Decide.{dec_lt}
use lib.ListN.{length, drop, length-append}
use lib.IntN.{pos}
use Rattle.ints.specs.Order.{◌≤ᶻ◌}
use Rattle.ints.proofs.Machine.{within_le}
use Rattle.lp.specs.declared.Terms.{Terms}
use Rattle.lp.specs.declared.Point.{Point}
use Rattle.lp.specs.declared.Ray.{Ray}
use Rattle.lp.specs.declared.Outcome.{Outcome}
use Rattle.lp.specs.declared.Outcome.TheVariants as outcome
use Rattle.lp.specs.Outcome as defined
use Rattle.lp.specs.Document.{tie}
use Rattle.records.specs.Layout.{Layout}
use Rattle.records.specs.Planned.{planned_rule}
use Rattle.book.specs.Reading.{refused, accepted, Entry, read_of, rules_of}
use Rattle.book.proofs.Bounds.{rules-small, terms-small}
use Rattle.std.proofs.Common.{Err}
use Rattle.answers.specs.Refusal.{refusal}
use Rattle.theory.proofs.Ties.{tie_good}
use Rattle.theory.proofs.Slack.{best-slacks}
use Rattle.theory.proofs.Largest.{best_numerators}
use Rattle.text.specs.Append.{Fills}
use Rattle.report.specs.Line.{line_of}
use Rattle.panel_row.specs.Panel.{row_lines}
use Rattle.planner.specs.Panel.{row_of, rows_for, panel_text}

planned-member : (e : Entry) (es : List Entry) → Memᴰ e es → Memᴰ (planned_rule e.rule) (rules_of es)
planned-member e [] i = absurd (Memᴰ.not-nil i)
planned-member e (x ∷ es) i =
    ⊎_elim (λ q. Memᴰ.head (ap (λ (y : Entry). planned_rule y.rule) q)) (λ j. Memᴰ.tail (planned-member e es j))
    (Memᴰ.cases_cons i)

module _ (L : Layout) (s : List ℕ) where
  -- a refused book: the line of its refusal
  pub refusal-shown : (n r : ℕ) → read_of L s ≡ refused n r → panel_text (read_of L s) ≡ line_of (Err (refusal n r))
  unfolding panel_text
  refusal-shown n r e = ap panel_text e

  module _ (t : Terms) (es : List Entry) (e : read_of L s ≡ accepted t es) where
    abbrev found : Outcome
    found = defined.outcome tie t.floors t.objective (rules_of es)

    by-outcome : (q : Outcome) → found ≡ q → panel_text (read_of L s) ≡ row_lines (rows_for es q)
    unfolding panel_text
    by-outcome q f = ap panel_text e ∙ ap (λ (x : Outcome). row_lines (rows_for es x)) f

    -- a best pair: a line for each rule, in chain order
    pub best-rows : (v : Point) → found ≡ outcome.Optimal v → panel_text (read_of L s) ≡ row_lines (map (row_of v) es)
    best-rows v f = by-outcome (outcome.Optimal v) f

    -- and no amount is below zero
    pub none-broken : (v : Point) →
        found ≡ outcome.Optimal v →
        (x : Entry) →
        Memᴰ x es →
        pos 0 ≤ᶻ (row_of v x).slack.numerator
    none-broken v f x i =
        best-slacks tie tie_good t.floors t.objective (rules_of es) v f (planned_rule x.rule) (planned-member x es i)

    -- nor is any above the largest determinant of three lawful rules, 4·32,767²·1,000,000,000
    pub slack-bounded : (v : Point) →
        found ≡ outcome.Optimal v →
        (x : Entry) →
        Memᴰ x es →
        (row_of v x).slack.numerator ≤ᶻ pos 4294705156000000000
    slack-bounded v f x i =
        within_le
        (best_numerators tie tie_good t.floors (terms-small L s e).floors-small t.objective (rules_of es) (rules-small L s e) v f
        (planned_rule x.rule) (planned-member x es i))

    -- any other outcome: no line
    pub impossible-shows-none : found ≡ outcome.Infeasible → panel_text (read_of L s) ≡ []
    impossible-shows-none f = by-outcome outcome.Infeasible f

    pub unlimited-shows-none : (v : Point) (d : Ray) → found ≡ outcome.Unbounded v d → panel_text (read_of L s) ≡ []
    unlimited-shows-none v d f = by-outcome (outcome.Unbounded v d) f

-- what is handed back is within the buffer, whatever its length
pub panel_within : {line : List ℕ} {room : ℕ} {before after : List ℕ} {count : ℕ} →
    Fills line room before after count →
    count ≤ length after
panel_within {line} {room} {before} {after} {count} f = go (dec_lt (length before) room)
  where
    go : Dec (length before < room) → count ≤ length after
    go (yes short) = omega (arith, f.nothing short)
    go (no n) =
        let long : room ≤ length before = omega arith in
        omega (
          arith,
          f.counted long,
          ap (λ (l : List ℕ). length l) (f.stands long),
          length-append line (drop (length line) before),
        )
