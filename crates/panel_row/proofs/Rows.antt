-- The lines of a panel: one more stands after those before it, and none has more than 64 bytes where its numbers are a machine's.
use mathlib.Core.Path.{◌≡◌, sym, ◌∙◌, ap}
use mathlib.Core.List.{List, [], ◌∷◌, ◌++◌, append_assoc, append-nil}
use Prim.Native.Nat.{ℕ, ◌+◌, ◌*◌, ◌≤◌}
use native.Mathlib.Omega.{arith}
use lib.ListN.{length, length-append}
use mir.Syntax.{w16, w64}
use mir.Val.{Fits, SFits}
use Rattle.text.specs.Text.{text}
use Rattle.text.specs.Number.{decimal, integer}
use Rattle.text.specs.declared.Line.{Line}
use Rattle.text.specs.Line.{Added, Adds}
use Rattle.text.proofs.Adding.{fits, followed, roomier, spelt}
use Rattle.text.proofs.Decimal.{decimal-u16}
use Rattle.text.proofs.Integer.{integer-short}
use Rattle.panel_row.specs.declared.Row.{Row}
use Rattle.panel_row.specs.Panel.{row_line, row_lines}

pub lines_append : (rows : List Row) (r : Row) → row_lines (rows ++ (r ∷ [])) ≡ row_lines rows ++ row_line r
lines_append [] r = append-nil (row_line r)
lines_append (x ∷ rows) r =
    ap (λ (m : List ℕ). row_line x ++ m) (lines_append rows r) ∙ sym (append_assoc (row_line x) (row_lines rows) (row_line r))

-- a line more, on a line with room for it
pub row-after : {l m n : Line} (i : ℕ) (rows : List Row) (r : Row) →
    l.at + 64 * (i + 1) ≤ length l.out.now →
    Added l (row_lines rows) (64 * i) m →
    Adds m (row_line r) 64 n →
    Added l (row_lines (rows ++ (r ∷ []))) (64 * (i + 1)) n
row-after i rows r room f g =
    roomier (omega arith)
    (spelt (sym (lines_append rows r)) (followed f (fits (omega (arith, f.appended.moved, f.appended.small, f.sized)) g)))

-- ---- how long they are

-- a row's numbers are a machine's
pub record Machine (r : Row) : Type 0 where
  pub label : Fits w16 r.label
  pub numerator : SFits w64 r.slack.numerator
  pub denominator : SFits w64 r.slack.denominator

pub row_small : (r : Row) → Machine r → length (row_line r) ≤ 64
unfolding row_line
row_small r m =
    let n : List ℕ = integer r.slack.numerator in
    let d : List ℕ = integer r.slack.denominator in
    omega (
      arith,
      length-append (decimal r.label) (n ++ (d ++ text "\n")),
      length-append n (d ++ text "\n"),
      length-append d (text "\n"),
      decimal-u16 r.label m.label,
      integer-short r.slack.numerator m.numerator,
      integer-short r.slack.denominator m.denominator,
    )

-- each row's
abbrev pub Machines : List Row → Type 0
Machines [] = Unit
Machines (r ∷ rows) = Machine r × Machines rows

pub rows-small : (rows : List Row) → Machines rows → length (row_lines rows) ≤ 64 * length rows
rows-small [] m = omega arith
rows-small (r ∷ rows) m = omega (arith, length-append (row_line r) (row_lines rows), row_small r m.0, rows-small rows m.1)
