-- An insertion, step by step: the row with both ends cut, and the ring with the constraint in it. Engine's Drops cuts the like in a run
-- whose index 0 names the horizon: its indices are at most the number of entries, and these below it, so that one law would be longer.
use Rattle.std.specs.Prelude.{Option, None, Some}
use mathlib.Core.Path.{◌≡◌, refl, sym, ◌∙◌, ap, subst}
use mathlib.Core.List.{List, ◌∷◌}
use mathlib.Core.Bool.{Bool, true, false}
use Prim.Native.Nat.{ℕ, suc, ◌+◌, ◌-◌, ◌≤◌, ◌<◌}
use native.Mathlib.Omega.{arith}
use native.Mathlib.Numerals.{add-one}
use borrow.Author.Tests.{ltb-true, ltb-false}
use lib.Dec.{ltb}
use lib.ListN.{length, get_or, set, length-set}
use lib.Seq.{get_or-set_same, get_or-set_other}
use lib.IntN.{ℤ}
use Rattle.lp.specs.declared.Constraint.{Constraint}
use Rattle.lp.specs.Range.{SmallConstraint}
use Rattle.engine.specs.Entries.{entry}
use Rattle.boundary.specs.Ring.{keeps_at, closed, entered, insert}
use Rattle.boundary.specs.declared.Arc.{Arc}
use Rattle.engine.specs.Row.{front_row, back_row}
use Rattle.engine.specs.Rings.{Dropped, Left}
use Rattle.engine.proofs.Named.{edges-put}
use Rattle.engine.proofs.Insertions.{given, when-so}
use Rattle.region.specs.Row.{edge, edges, row_of, Named, rotated, sought_row}
use Rattle.region.specs.Asked.{Turned, Ring, Pair, Seeking, Sought, Cutting, Putting, Put, Cut, Standing, Inserting, Stands}
use Rattle.region.specs.Asked.{Inserted}
use Rattle.region.proofs.Rows.{ring-pair, edges-length, edges-turned}
use Rattle.region.proofs.Loops.{turned-named}

abbrev pub arc : ℕ → ℕ → Arc
arc lo n = record { lo = lo; n = n }

-- ---- both ends cut

module _ {e : List ℤ} {run : List ℕ} (h : ℕ) {line : Constraint} {lo n : ℕ} (s : Putting e run line lo n) {i : ℕ}
    (d : Dropped (entry e) run lo n line i) where
  pub cut-none : n - i < 2 → Cut e run h line lo n None run
  cut-none b =
      record {
        same = refl;
        row = λ c. sym (ap (closed line) (sym d.row ∙ ap (edges e run (lo + i)) one));
        put = tt;
      }
    where
      one : n - i ≡ suc 0
      one = omega (arith, d.some)

  pub cut-cutting : 2 ≤ n - i → Cutting e run line (lo + i) (n - i)
  cut-cutting b =
      record {
        ring =
            record {
              count = s.cutting.ring.count;
              entries = s.cutting.ring.entries;
              fits = omega (arith, s.cutting.ring.fits);
              named = later s.cutting.ring.count s.cutting.ring.named;
            };
        some = omega arith;
        h-small = s.cutting.h-small;
      }
    where
      later : (m : ℕ) → Named m run lo n → Named m run (lo + i) (n - i)
      later m g k c = subst (λ (j : ℕ). get_or run j 0 < m) over (g (i + k) (omega arith))
        where
          over : lo + (i + k) ≡ lo + i + k
          over = omega arith

  pub cut-put :
      2 ≤ n - i →
      {k : ℕ} →
      Left (entry e) run (lo + i) (n - i) line k →
      Cut e run h line lo n (Some (arc (lo + i - 1) (k + 1))) (set run (lo + i - 1) h)
  cut-put b {k} l =
      record {
        same = length-set run (lo + i - 1) h;
        row = λ c.
            ap (edges e (set run (lo + i - 1) h) (lo + i - 1)) (add-one k)
            ∙ edges-put (entry e) run h (lo + i - 1) k (omega (arith, room))
            ∙ (λ j. c' c j ∷ edges e run (after j) k)
            ∙ ap (λ r. line ∷ r) l.row
            ∙ subst (λ (m : ℕ). line ∷ back_row line (edges e run (lo + i) m) ≡ closed line (edges e run (lo + i) m)) (sym two) refl
            ∙ ap (closed line) d.row;
        put =
            record {
              fits = subst (λ (m : ℕ). lo + i - 1 + (k + 1) ≤ m) (sym (length-set run (lo + i - 1) h)) room;
              two = omega (arith, l.some);
              named = named;
            };
      }
    where
      room : lo + i - 1 + (k + 1) ≤ length run
      room = omega (arith, s.cutting.ring.fits, s.later, l.fewer, l.some)

      c' : line ≡ entry e h → entry e h ≡ line
      c' c = sym c

      after : suc (lo + i - 1) ≡ lo + i
      after = omega (arith, s.later)

      two : n - i ≡ suc (suc (n - i - 2))
      two = omega arith

      named : (m : ℕ) → h < m → Named m run lo n → Named m (set run (lo + i - 1) h) (lo + i - 1) (k + 1)
      named m below g j c = go (ltb j 1) refl
        where
          go : (t : Bool) → ltb j 1 ≡ t → get_or (set run (lo + i - 1) h) (lo + i - 1 + j) 0 < m
          go true t =
              subst (λ (v : ℕ). v < m)
              (sym (ap (λ (p : ℕ). get_or (set run (lo + i - 1) h) p 0) here
              ∙ get_or-set_same run (lo + i - 1) h 0 (omega (arith, room))))
              below
            where
              here : lo + i - 1 + j ≡ lo + i - 1
              here = omega (arith, ltb-true j 1 t)
          go false t =
              subst (λ (v : ℕ). v < m)
              (sym (get_or-set_other run (lo + i - 1) (lo + i - 1 + j) h 0 (λ q. omega (arith, ltb-false j 1 t))
              ∙ ap (λ (p : ℕ). get_or run p 0) there))
              (g (i + (j - 1)) (omega (arith, l.fewer, ltb-false j 1 t)))
            where
              there : lo + i - 1 + j ≡ lo + (i + (j - 1))
              there = omega (arith, s.later, ltb-false j 1 t)

-- ---- the entry at index h enters

module _ {e : List ℤ} {run : List ℕ} {D : Constraint} {h : ℕ} {o : Option Arc} (s : Inserting e run D h o) where
  module _ {a : Arc} (ea : o ≡ Some a) {line : Constraint} (is : line ≡ entry e h) where
    stood : Standing run s.count a
    stood = given (Standing run s.count) ea s.standing

    line_small : SmallConstraint line
    line_small = subst SmallConstraint (sym is) (s.entries.small h s.below)

    pub insert-seeking : Seeking e run D line a.lo a.n
    insert-seeking =
        record {
          ring = record { count = s.count; entries = s.entries; fits = stood.fits; named = stood.named };
          spare = stood.spare;
          two = stood.two;
          size_small = s.size_small;
          h-small = line_small;
        }

    module _ {now : List ℕ} {at : ℕ} (t : Sought e run a.lo a.n (sought_row D line a.n (edges e run a.lo a.n)) at now) where
      sought-ring : Ring e now at a.n
      sought-ring = record { count = s.count; entries = s.entries; fits = t.fits; named = t.named s.count stood.named }

      pub insert-pair : Pair e now line at (at + 1)
      insert-pair = ring-pair sought-ring line_small at (omega arith) (omega (arith, stood.two))

      looked :
          {b : Bool} →
          b ≡ keeps_at line (edge e now at) (edge e now (at + 1)) →
          elim b [ true ↦ edges e now at a.n | false ↦ closed line (front_row line (rotated (edges e now at a.n))) ]
          ≡ insert D (entry e h) (row_of e run o)
      looked {b} eb =
          opened a.n (a.n - 2) (omega (arith, stood.two))
          ∙ ap (entered line) t.row
          ∙ whole a.n (a.n - 2) (omega (arith, stood.two))
          ∙ ap (λ (r : Constraint). insert D r (edges e run a.lo a.n)) is
          ∙ sym (ap (λ (o : Option Arc). insert D (entry e h) (row_of e run o)) ea)
        where
          opened :
              (n m : ℕ) →
              n ≡ suc (suc m) →
              elim b [ true ↦ edges e now at n | false ↦ closed line (front_row line (rotated (edges e now at n))) ]
              ≡ entered line (edges e now at n)
          opened n m en =
              subst
              (λ (j : ℕ).
              elim b [ true ↦ edges e now at j | false ↦ closed line (front_row line (rotated (edges e now at j))) ]
              ≡ entered line (edges e now at j))
              (sym en)
              (ap
              (λ b. elim b [
                | true ↦ edges e now at (suc (suc m))
                | false ↦ closed line (front_row line (rotated (edges e now at (suc (suc m)))))
              ])
              (eb ∙ ap (λ (j : ℕ). keeps_at line (edge e now at) (edge e now j)) (add-one at)))

          whole :
              (n m : ℕ) →
              n ≡ suc (suc m) →
              entered line (sought_row D line n (edges e run a.lo n)) ≡ insert D line (edges e run a.lo n)
          whole n m en =
              subst
              (λ (j : ℕ). entered line (sought_row D line j (edges e run a.lo j)) ≡ insert D line (edges e run a.lo j))
              (sym en)
              (ap (λ (c : ℕ). entered line (sought_row D line c (edges e run a.lo (suc (suc m)))))
              (sym (edges-length e run a.lo (suc (suc m)))))

      pub insert-kept :
          {b : Bool} →
          b ≡ keeps_at line (edge e now at) (edge e now (at + 1)) →
          b ≡ true →
          Inserted e run D h o (Some (arc at a.n)) now
      insert-kept eb k =
          record {
            same = t.same;
            row = looked (sym k ∙ eb);
            stands =
                record {
                  fits = t.fits;
                  two = stood.two;
                  named = λ m below g. t.named m (given (λ (b : Arc). Named m run b.lo b.n) ea g);
                };
          }

      module _ {next : List ℕ} {to : ℕ} (u : Turned now at a.n to next) where
        pub insert_putting : Putting e next line to a.n
        insert_putting =
            record {
              cutting =
                  record {
                    ring =
                        record {
                          count = s.count;
                          entries = s.entries;
                          fits = u.fits;
                          named = turned-named u (t.named s.count stood.named);
                        };
                    some = omega (arith, stood.two);
                    h-small = line_small;
                  };
              later = u.later;
            }

        pub insert-cut :
            {b : Bool} →
            b ≡ keeps_at line (edge e now at) (edge e now (at + 1)) →
            b ≡ false →
            {z : Option Arc} {after : List ℕ} →
            Cut e next h line to a.n z after →
            Inserted e run D h o z after
        insert-cut eb k {z} {after} c =
            record {
              same = c.same ∙ u.same ∙ t.same;
              row = c.row is
                  ∙ ap (λ l. closed line (front_row line l)) (row a.n (a.n - 1) (omega (arith, stood.two)) u)
                  ∙ looked (sym k ∙ eb);
              stands = when-so (λ (b : Arc). Put next h to a.n b after) (λ (b : Arc). Stands run h o b after) one z c.put;
            }
          where
            one : (b : Arc) → Put next h to a.n b after → Stands run h o b after
            one b p =
                record {
                  fits = p.fits;
                  two = p.two;
                  named = λ m below g. p.named m below (turned-named u (t.named m (given (λ (b : Arc). Named m run b.lo b.n) ea g)));
                }

            row : (n m : ℕ) → n ≡ suc m → Turned now at n to next → edges e next to n ≡ rotated (edges e now at n)
            row n m en u =
                subst (λ (j : ℕ). edges e next to j ≡ rotated (edges e now at j)) (sym en)
                (edges-turned e now next at m to (subst (λ (j : ℕ). Turned now at j to next) en u))
