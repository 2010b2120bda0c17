-- A panel's lines: each stands after those before it, they take at most 64 bytes a rule, and those of a book's chain are its panel.
use mathlib.Core.Path.{◌≡◌, refl, sym, ◌∙◌, ap}
use mathlib.Core.Bool.{Bool, cond}
use mathlib.Core.List.{List, [], ◌∷◌, ◌++◌, map}
use Prim.Native.Nat.{ℕ, ◌+◌, ◌*◌, ◌≤◌, ◌<◌}
use native.Mathlib.Numerals.{add-one}
use native.Mathlib.Omega.{arith}
use borrow.Author.Tests.{le-leb}
use lib.ListN.{length, get_or, take}
use lib.Seq.{take-suc, take_all}
use Rattle.lp.specs.declared.Point.{Point}
use Rattle.lp.specs.declared.Outcome.{Outcome}
use Rattle.lp.specs.declared.Outcome.TheVariants as outcome
use Rattle.records.specs.Layout.{Layout}
use Rattle.std.proofs.Common.{Result, Ok}
use Rattle.answers.specs.declared.Refusal.{Refusal}
use Rattle.text.specs.declared.Line.{Line}
use Rattle.text.specs.Line.{Added, Adds}
use Rattle.text.proofs.Adding.{roomier, spelt, nothing}
use Rattle.panel_row.specs.declared.Row.{Row}
use Rattle.panel_row.specs.Panel.{row_line, row_lines}
use Rattle.panel_row.proofs.Rows.{row-after}
use Rattle.showing.specs.Showing.{row_for, panel_from}

map_append : (f : ℕ → Row) (l m : List ℕ) → map f (l ++ m) ≡ map f l ++ map f m
map_append f [] m = refl
map_append f (x ∷ l) m = ap (λ (r : List Row). f x ∷ r) (map_append f l m)

-- the lines of the first i records stand on the line
pub record Shown (f : ℕ → Row) (records : List ℕ) (l m : Line) (i : ℕ) : Type 0 where
  pub lines : Added l (row_lines (map f (take i records))) (64 * i) m
  pub past : i ≤ length records
  pub asked : l.at + 64 * length records ≤ length l.out.now

pub shown-start : (f : ℕ → Row) (records : List ℕ) (l : Line) →
    l.at + 64 * length records ≤ length l.out.now →
    Shown f records l l 0
shown-start f records l h = record { lines = nothing l 0; past = omega arith; asked = h }

module _ {f : ℕ → Row} {records : List ℕ} {l m : Line} {i : ℕ} (h : Shown f records l m i) where
  pub shown-step : i < length records →
      {x : Row} →
      x ≡ f (get_or records i 0) →
      {n : Line} →
      Adds m (row_line x) 64 n →
      Shown f records l n (i + 1)
  shown-step less {x} e put =
      record {
        lines = spelt more (row-after i (map f (take i records)) x (omega (arith, h.asked)) h.lines put);
        past = omega arith;
        asked = h.asked;
      }
    where
      more : row_lines (map f (take i records) ++ (x ∷ [])) ≡ row_lines (map f (take (i + 1) records))
      more =
          ap (λ (r : Row). row_lines (map f (take i records) ++ (r ∷ []))) e
          ∙ ap row_lines
          (sym (map_append f (take i records) (get_or records i 0 ∷ []))
          ∙ ap (map f) (sym (take-suc records i 0 less) ∙ ap (λ (k : ℕ). take k records) (sym (add-one i))))

  pub shown-end : length records ≤ i → Added l (row_lines (map f records)) (64 * length records) m
  shown-end end = spelt (ap (λ (l : List ℕ). row_lines (map f l)) (take_all i records end)) (roomier (omega (arith, h.past)) h.lines)

-- those of a book's chain are its panel, where a book can have so many records
pub best-lines : (L : Layout) (s records : List ℕ) {q : Result Outcome Refusal} {v : Point} →
    length records ≤ L.records →
    q ≡ Ok (outcome.Optimal v) →
    row_lines (map (row_for L s v) records) ≡ panel_from L s q records
best-lines L s records {q} {v} few e =
    ap (λ (b : Bool). row_lines (map (row_for L s v) (cond b records []))) (sym (le-leb (length records) L.records few))
    ∙ ap (λ (x : Result Outcome Refusal). panel_from L s x records) (sym e)
