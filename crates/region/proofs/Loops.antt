-- The loops over a run of indices, one record for each, with its start, its step and its end; and what their callers make of them.
use mathlib.Core.Path.{◌≡◌, refl, sym, ◌∙◌, ap, subst}
use mathlib.Core.List.{List}
use mathlib.Core.Bool.{Bool, true, false}
use Prim.Native.Nat.{ℕ, suc, ◌+◌, ◌-◌, ◌≤◌, ◌<◌}
use native.Mathlib.Omega.{arith}
use native.Mathlib.Numerals.{add-one}
use borrow.Author.Tests.{ltb-true, ltb-false}
use lib.Dec.{ltb}
use lib.ListN.{length, get_or, set, length-set}
use lib.Seq.{get_or-set_same, get_or-set_other}
use lib.IntN.{ℤ}
use Rattle.lp.specs.declared.Constraint.{Constraint}
use Rattle.boundary.specs.Ring.{at_place}
use Rattle.engine.specs.Entries.{entry}
use Rattle.engine.proofs.Dropping.{Back}
use Rattle.region.specs.Row.{edge, edges, Named, rotated, sought_row}
use Rattle.region.specs.Asked.{Sliding, Slides, Turning, Spared, Turned, Ring, Seeking, Sought, Cutting, Pair, Place}
use Rattle.region.proofs.Rows.{ring-pair, ring-place, edges-turned, sought-two}

-- ---- moving the ring to the start of its run

pub record Slide (before : List ℕ) (lo n : ℕ) (now : List ℕ) (i : ℕ) : Type 0 where
  pub inside : i ≤ n
  pub same : length now ≡ length before
  pub moved : (k : ℕ) → k < i → get_or now k 0 ≡ get_or before (lo + k) 0
  pub ahead : (k : ℕ) → i ≤ k → get_or now k 0 ≡ get_or before k 0

pub slide-start : (before : List ℕ) (lo n : ℕ) → Slide before lo n before 0
slide-start before lo n =
    record { inside = omega arith; same = refl; moved = λ k b. absurd (nothing k b); ahead = λ k b. refl }
  where
    nothing : (k : ℕ) → k < 0 → ⊥
    nothing k b = omega arith

module _ {before : List ℕ} {lo n : ℕ} (h : Sliding before lo n) {now : List ℕ} {i : ℕ} (s : Slide before lo n now i) where
  pub slide-read : i < n → lo + i < length now
  slide-read b = omega (arith, h.fits, s.same)

  pub slide_write : i < n → i < length now
  slide_write b = omega (arith, h.fits, s.same)

  pub slide-step : i < n → Slide before lo n (set now i (get_or now (lo + i) 0)) (i + 1)
  slide-step b =
      record {
        inside = omega arith;
        same = length-set now i (get_or now (lo + i) 0) ∙ s.same;
        moved = λ k c. go k c (ltb k i) refl;
        ahead = λ k c. get_or-set_other now i k (get_or now (lo + i) 0) 0 (λ d. omega arith) ∙ s.ahead k (omega arith);
      }
    where
      here : get_or (set now i (get_or now (lo + i) 0)) i 0 ≡ get_or before (lo + i) 0
      here = get_or-set_same now i (get_or now (lo + i) 0) 0 (slide_write b) ∙ s.ahead (lo + i) (omega arith)

      go : (k : ℕ) → k < i + 1 → (t : Bool) → ltb k i ≡ t → get_or (set now i (get_or now (lo + i) 0)) k 0 ≡ get_or before (lo + k) 0
      go k c true e =
          get_or-set_other now i k (get_or now (lo + i) 0) 0 (λ d. omega (arith, ltb-true k i e)) ∙ s.moved k (ltb-true k i e)
      go k c false e = subst (λ (j : ℕ). get_or (set now i (get_or now (lo + i) 0)) j 0 ≡ get_or before (lo + j) 0) at here
        where
          at : i ≡ k
          at = omega (arith, ltb-false k i e)

  pub slide-end : n ≤ i → Slides before lo n now
  slide-end b = record { same = s.same; moved = λ k c. s.moved k (omega arith) }

-- ---- one turn

module _ {before : List ℕ} {lo n : ℕ} (h : Turning before lo n) where
  pub spared-moved : {after : List ℕ} → Slides before lo n after → Spared before lo n 0 after
  spared-moved {after} s =
      record {
        same = s.same;
        spare = omega (arith, h.spare, s.same);
        moved = λ k c. ap (λ (p : ℕ). get_or after p 0) (none k) ∙ s.moved k c;
      }
    where
      none : (k : ℕ) → 0 + k ≡ k
      none k = omega arith

  pub turned : {now : List ℕ} {at : ℕ} → Spared before lo n at now → Turned before lo n (at + 1) (set now (at + n) (get_or now at 0))
  turned {now} {at} s =
      record {
        same = length-set now (at + n) (get_or now at 0) ∙ s.same;
        fits = subst (λ (m : ℕ). at + 1 + n ≤ m) (sym (length-set now (at + n) (get_or now at 0))) (omega (arith, s.spare));
        later = omega arith;
        others = λ k b.
            ap (λ (p : ℕ). get_or (set now (at + n) (get_or now at 0)) p 0) (over k)
            ∙ get_or-set_other now (at + n) (at + (k + 1)) (get_or now at 0) 0 (λ d. omega arith)
            ∙ s.moved (k + 1) b;
        last = λ k b.
            ap (λ (p : ℕ). get_or (set now (at + n) (get_or now at 0)) p 0) (onto k b)
            ∙ get_or-set_same now (at + n) (get_or now at 0) 0 s.spare
            ∙ first;
      }
    where
      over : (k : ℕ) → at + 1 + k ≡ at + (k + 1)
      over k = omega arith

      onto : (k : ℕ) → k + 1 ≡ n → at + 1 + k ≡ at + n
      onto k b = omega arith

      none : (p : ℕ) → p + 0 ≡ p
      none p = omega arith

      first : get_or now at 0 ≡ get_or before lo 0
      first =
          sym (ap (λ (p : ℕ). get_or now p 0) (none at)) ∙ s.moved 0 h.some ∙ ap (λ (p : ℕ). get_or before p 0) (none lo)

-- a turn names no other entries
pub turned-named :
    {before after : List ℕ} {lo n at : ℕ} →
    Turned before lo n at after →
    {m : ℕ} →
    Named m before lo n →
    Named m after at n
turned-named {before} {after} {lo} {n} {at} t {m} g k b = go (ltb (k + 1) n) refl
  where
    go : (s : Bool) → ltb (k + 1) n ≡ s → get_or after (at + k) 0 < m
    go true e =
        subst (λ (j : ℕ). j < m) (sym (t.others k (ltb-true (k + 1) n e))) (g (k + 1) (ltb-true (k + 1) n e))
    go false e = subst (λ (j : ℕ). j < m) (sym (t.last k last ∙ first)) (g 0 (omega arith))
      where
        last : k + 1 ≡ n
        last = omega (arith, ltb-false (k + 1) n e)

        none : lo ≡ lo + 0
        none = omega arith

        first : get_or before lo 0 ≡ get_or before (lo + 0) 0
        first = ap (λ (j : ℕ). get_or before j 0) none

-- ---- the place of h

pub record Seek (e : List ℤ) (before : List ℕ) (D h : Constraint) (lo n : ℕ) (now : List ℕ) (at left : ℕ) : Type 0 where
  pub inside : left ≤ n
  pub same : length now ≡ length before
  pub fits : at + n ≤ length now
  pub named : (m : ℕ) → Named m before lo n → Named m now at n
  pub rest : sought_row D h left (edges e now at n) ≡ sought_row D h n (edges e before lo n)

module _ {e : List ℤ} {before : List ℕ} {D h : Constraint} {lo n : ℕ} (s : Seeking e before D h lo n) where
  pub seek-start : Seek e before D h lo n before lo n
  seek-start = record { inside = omega arith; same = refl; fits = s.ring.fits; named = λ m k. k; rest = refl }

  module _ {now : List ℕ} {at left : ℕ} (t : Seek e before D h lo n now at left) where
    pub seek-ring : Ring e now at n
    seek-ring =
        record {
          count = s.ring.count;
          entries = s.ring.entries;
          fits = t.fits;
          named = t.named s.ring.count s.ring.named;
        }

    pub seek-place : Place e now D h at (at + 1)
    seek-place = ring-place seek-ring s.size_small s.h-small at (omega arith) (omega (arith, s.two))

    pub seek-turning : Turning now at n
    seek-turning = record { some = omega (arith, s.two); fits = t.fits; spare = omega (arith, s.spare, t.same) }

    -- one more look at the ring
    looked :
        (m c : ℕ) →
        n ≡ suc (suc m) →
        left ≡ suc c →
        {b : Bool} →
        b ≡ at_place D h (edge e now at) (edge e now (at + 1)) →
        elim b [ true ↦ edges e now at n | false ↦ sought_row D h c (rotated (edges e now at n)) ] ≡ sought_row D h n (edges e before lo n)
    looked m c en ec {b} eb =
        subst
        (λ (j : ℕ).
        elim b [ true ↦ edges e now at j | false ↦ sought_row D h c (rotated (edges e now at j)) ] ≡ sought_row D h left (edges e now at j))
        (sym en)
        (sym (ap (λ (j : ℕ). sought_row D h j (edges e now at (suc (suc m)))) ec
        ∙ sought-two e D h c now at m (sym (eb ∙ ap (λ (j : ℕ). at_place D h (edge e now at) (edge e now j)) (add-one at)))))
        ∙ t.rest

    pub seek_stop :
        0 < left →
        at_place D h (edge e now at) (edge e now (at + 1)) ≡ true →
        Sought e before lo n (sought_row D h n (edges e before lo n)) at now
    seek_stop b k =
        record {
          same = t.same;
          fits = t.fits;
          row = looked (n - 2) (left - 1) (omega (arith, s.two)) (omega arith) (sym k);
          named = t.named;
        }

    pub seek-step :
        0 < left →
        at_place D h (edge e now at) (edge e now (at + 1)) ≡ false →
        {next : List ℕ} {to : ℕ} →
        Turned now at n to next →
        Seek e before D h lo n next to (left - 1)
    seek-step b k {next} {to} u =
        record {
          inside = omega (arith, t.inside);
          same = u.same ∙ t.same;
          fits = u.fits;
          named = λ m g. turned-named u (t.named m g);
          rest =
              ap (sought_row D h (left - 1)) (row (n - 1) (omega (arith, s.two)))
              ∙ looked (n - 2) (left - 1) (omega (arith, s.two)) (omega arith) (sym k);
        }
      where
        row : (m : ℕ) → n ≡ suc m → edges e next to n ≡ rotated (edges e now at n)
        row m en =
            subst (λ (j : ℕ). edges e next to j ≡ rotated (edges e now at j)) (sym en)
            (edges-turned e now next at m to (subst (λ (j : ℕ). Turned now at j to next) en u))

    pub seek-end : left ≤ 0 → Sought e before lo n (sought_row D h n (edges e before lo n)) at now
    seek-end b = record { same = t.same; fits = t.fits; row = done (n - 1) (omega (arith, s.two)); named = t.named }
      where
        none : left ≡ 0
        none = omega arith

        done : (m : ℕ) → n ≡ suc m → edges e now at n ≡ sought_row D h n (edges e before lo n)
        done m en =
            subst (λ (j : ℕ). edges e now at j ≡ sought_row D h 0 (edges e now at j)) (sym en) refl
            ∙ sym (ap (λ (c : ℕ). sought_row D h c (edges e now at n)) none)
            ∙ t.rest

-- ---- the corners that are looked at for what h drops

module _ {e : List ℤ} {run : List ℕ} {lo n : ℕ} {h : Constraint} (s : Cutting e run h lo n) where
  pub front-pair : (i : ℕ) → i + 1 < n → Pair e run h (lo + i) (lo + i + 1)
  front-pair i b = ring-pair s.ring s.h-small (lo + i) (omega arith) (omega arith)

  pub back-pair : {k : ℕ} → Back (entry e) run lo n h k → 1 < k → Pair e run h (lo + k - 2) (lo + k - 2 + 1)
  back-pair {k} t b = ring-pair s.ring s.h-small (lo + k - 2) (omega arith) (omega (arith, t.inside))
