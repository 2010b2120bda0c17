-- The edges that a constraint drops at both ends of a row: what the loops ask of each corner, and the row with both ends cut.
use Rattle.std.specs.Prelude.{None, Some}
use mathlib.Core.Path.{◌≡◌, refl, sym, ◌∙◌, ap, subst}
use mathlib.Core.List.{List, ◌∷◌}
use Prim.Native.Nat.{ℕ, zero, suc, ◌+◌, ◌-◌, ◌≤◌, ◌<◌}
use native.Mathlib.Omega.{arith}
use native.Mathlib.Numerals.{add-one}
use lib.ListN.{length, get_or, set, length-set}
use lib.Seq.{get_or-set_same, get_or-set_other}
use lib.IntN.{ℤ}
use Rattle.lp.specs.declared.Constraint.{Constraint}
use Rattle.boundary.specs.Ring.{closed}
use Rattle.boundary.specs.declared.Arc.{Arc}
use Rattle.engine.specs.Row.{named, edges, Named, back_row}
use Rattle.engine.specs.Rings.{Pair, Cutting, Dropped, Left, Putting, Cut}
use Rattle.engine.proofs.Rows.{ring-pair}
use Rattle.engine.proofs.Named.{edges-put}
use Rattle.engine.proofs.Dropping.{Back}

-- ---- the corners that are looked at

module _ {e : List ℤ} {run : List ℕ} {lo n : ℕ} {h : Constraint} (s : Cutting e run h lo n) where
  pub front-pair : (i : ℕ) → i + 1 < n → Pair e run h (lo + i) (lo + i + 1)
  front-pair i b =
      ring-pair s.ring s.h-small (lo + i) (lo + i + 1) (omega arith) (omega arith) (omega arith) (omega arith)

  pub back-pair : {k : ℕ} → Back (named e) run lo n h k → 1 < k → Pair e run h (lo + k - 2) (lo + k - 2 + 1)
  back-pair {k} t b =
      ring-pair s.ring s.h-small (lo + k - 2) (lo + k - 2 + 1) (omega arith) (omega (arith, t.inside)) (omega arith)
      (omega (arith, t.inside))

-- ---- both ends cut

abbrev pub arc : ℕ → ℕ → Arc
arc lo n = record { lo = lo; n = n }

module _ {e : List ℤ} {run : List ℕ} {h : ℕ} {line : Constraint} {lo n : ℕ} (s : Putting e run h line lo n) {i : ℕ}
    (d : Dropped (named e) run lo n line i) where
  pub cut-none : n - i < 2 → Cut e run h line lo n None run
  cut-none b =
      record {
        same = refl;
        row = sym (ap (closed line) (sym d.row ∙ ap (edges e run (lo + i)) one));
        put = tt;
      }
    where
      one : n - i ≡ suc 0
      one = omega (arith, d.some)

  pub cut-cutting : 2 ≤ n - i → Cutting e run line (lo + i) (n - i)
  cut-cutting b =
      record {
        ring =
            record {
              count = s.cutting.ring.count;
              entries = s.cutting.ring.entries;
              fits = omega (arith, s.cutting.ring.fits);
              named = later s.cutting.ring.count s.cutting.ring.named;
            };
        some = omega arith;
        h-small = s.cutting.h-small;
      }
    where
      later : (m : ℕ) → Named m run lo n → Named m run (lo + i) (n - i)
      later m g k c = subst (λ (j : ℕ). get_or run j 0 ≤ m) over (g (i + k) (omega arith))
        where
          over : lo + (i + k) ≡ lo + i + k
          over = omega arith

  pub cut-put :
      2 ≤ n - i →
      {k : ℕ} →
      Left (named e) run (lo + i) (n - i) line k →
      Cut e run h line lo n (Some (arc (lo + i - 1) (k + 1))) (set run (lo + i - 1) h)
  cut-put b {k} l =
      record {
        same = length-set run (lo + i - 1) h;
        row =
            ap (edges e (set run (lo + i - 1) h) (lo + i - 1)) (add-one k)
            ∙ edges-put (named e) run h (lo + i - 1) k (omega (arith, room))
            ∙ (λ j. sym s.is j ∷ edges e run (after j) k)
            ∙ ap (λ r. line ∷ r) l.row
            ∙ subst (λ (m : ℕ). line ∷ back_row line (edges e run (lo + i) m) ≡ closed line (edges e run (lo + i) m)) (sym two) refl
            ∙ ap (closed line) d.row;
        put =
            record {
              fits = subst (λ (m : ℕ). lo + i - 1 + (k + 1) ≤ m) (sym (length-set run (lo + i - 1) h)) room;
              two = omega (arith, l.some);
              named = named_put;
              first = ap (named e) (get_or-set_same run (lo + i - 1) h 0 (omega (arith, room))) ∙ sym s.is;
            };
      }
    where
      room : lo + i - 1 + (k + 1) ≤ length run
      room = omega (arith, s.cutting.ring.fits, s.later, l.fewer, l.some)

      after : suc (lo + i - 1) ≡ lo + i
      after = omega (arith, s.later)

      two : n - i ≡ suc (suc (n - i - 2))
      two = omega arith

      named_put : (m : ℕ) → h ≤ m → Named m run lo n → Named m (set run (lo + i - 1) h) (lo + i - 1) (k + 1)
      named_put m below g zero c =
          subst (λ (v : ℕ). v ≤ m)
          (sym (ap (λ (p : ℕ). get_or (set run (lo + i - 1) h) p 0) here ∙ get_or-set_same run (lo + i - 1) h 0 (omega (arith, room))))
          below
        where
          here : lo + i - 1 + 0 ≡ lo + i - 1
          here = omega arith
      named_put m below g (suc j) c =
          subst (λ (v : ℕ). v ≤ m)
          (sym (get_or-set_other run (lo + i - 1) (lo + i - 1 + suc j) h 0 (λ q. omega arith) ∙ ap (λ (p : ℕ). get_or run p 0) there))
          (g (i + j) (omega (arith, l.fewer)))
        where
          there : lo + i - 1 + suc j ≡ lo + (i + j)
          there = omega (arith, s.later)
