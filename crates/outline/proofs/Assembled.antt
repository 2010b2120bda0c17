-- How code comes to the list: the ring's corners are laid out as points, their indices arranged, and the points of the kept indices
-- written. What it then hands back and leaves is what the book's outline says.
use Rattle.std.specs.Prelude.{Ok, Err}
use mathlib.Core.Path.{◌≡◌, sym, ◌∙◌, ap, subst}
use mathlib.Core.List.{List, ◌++◌, map, Memᴰ}
use Prim.Native.Nat.{ℕ, ◌+◌, ◌*◌, ◌≤◌, ◌<◌}
use native.Mathlib.Nat.{zero-add}
use native.Mathlib.Omega.{arith}
use lib.ListN.{length, take, drop, length-map}
use lib.Seq.{take_at, take_all}
use lib.IntN.{ℤ}
use Rattle.lp.specs.declared.Constraint.{Constraint}
use Rattle.lp.specs.declared.Floors.{Floors}
use Rattle.lp.specs.declared.Point.{Point}
use Rattle.lp.specs.declared.Terms.{Terms}
use Rattle.lp.specs.Range.{SmallConstraint, SmallFloors}
use Rattle.lp.specs.Corners.{corners_of}
use Rattle.boundary.specs.Ring.{grown, corners}
use Rattle.answers.specs.Refusal.{refusal}
use Rattle.records.specs.Layout.{v2}
use Rattle.book.specs.Reading.{accepted, Entry, read_of, rules_of}
use Rattle.sorting.specs.Keys.{point_at, comes_at}
use Rattle.arranging.specs.Arranging.{indices, kept, kept_run, order_of}
use Rattle.arranging.proofs.Ring.{ring-kept}
use Rattle.listing.specs.Listing.{points_bytes, points_of, written}
use Rattle.listing.proofs.Written.{length-points}
use Rattle.outline.specs.Outline.{listed, outlined_of, output_of, Outlines}
use Rattle.outline.proofs.Laws.{crowded, fitting}

module _ (f : Floors) (rules : List Constraint) (small-floors : SmallFloors f)
    (small-rules : (r : Constraint) → Memᴰ r rules → SmallConstraint r) (order : List Constraint)
    (to : (r : Constraint) → Memᴰ r rules → Memᴰ r order)
    (from : (r : Constraint) → Memᴰ r order → Memᴰ r rules) (keys : List ℤ) (n : ℕ)
    (laid : map (point_at keys) (indices 0 n) ≡ corners (grown f order)) where
  abbrev kept_ones : List ℕ
  kept_ones = kept (comes_at keys) (order_of (comes_at keys) n)

  -- the points at the run's front are the list
  pub front-points : {run : List ℕ} {k : ℕ} →
      run ≡ kept_run (comes_at keys) (order_of (comes_at keys) n) →
      k ≡ length kept_ones →
      points_of keys run k ≡ corners_of f rules
  front-points {run} {k} er ek =
      ap (λ l. points_of keys l k) er
      ∙ ap (λ l. map (point_at keys) l) (take_at kept_ones (drop (length kept_ones) (order_of (comes_at keys) n)) k (sym ek))
      ∙ ring-kept f rules small-floors small-rules order to from keys n laid

  -- their count is the list's
  pub front-count : {k : ℕ} → k ≡ length kept_ones → k ≡ length (corners_of f rules)
  front-count ek =
      ek
      ∙ sym (length-map kept_ones (point_at keys))
      ∙ ap length (ring-kept f rules small-floors small-rules order to from keys n laid)

-- ---- what is handed back

module _ (s out : List ℕ) (t : Terms) (es : List Entry) (e : read_of v2 s ≡ accepted t es) where
  abbrev list : List Point
  list = corners_of t.floors (rules_of es)

  -- the list does not fit
  pub outlines-crowded : {k : ℕ} →
      k ≡ length list →
      length out < 24 * k →
      Outlines s out (Err (record { refusal = refusal 11 0; count = k })) out
  outlines-crowded {k} ek h =
      let o = crowded s (length out) e (subst (λ (m : ℕ). length out < 24 * m) ek h) in
      record {
        answer = ap (λ (m : ℕ). Err (record { refusal = refusal 11 0; count = m })) ek ∙ sym (ap outlined_of o);
        output = sym (ap (λ x. output_of x out) o);
      }

  -- the list was written
  pub outlines-listed : (keys : List ℤ) (run : List ℕ) {k : ℕ} {after : List ℕ} →
      k ≡ length list →
      points_of keys run k ≡ list →
      24 * k ≤ length out →
      after ≡ written keys run k out →
      Outlines s out (Ok k) after
  outlines-listed keys run {k} {after} ek ep h ea =
      let o = fitting s (length out) e (subst (λ (m : ℕ). 24 * m ≤ length out) ek h) in
      let all : take (24 * k) (points_bytes list) ≡ points_bytes list =
      take_all (24 * k) (points_bytes list) (let m = length-points list in omega arith) in
      record {
        answer = ap (λ (m : ℕ). Ok m) ek ∙ sym (ap outlined_of o);
        output =
            ea
            ∙ ap (λ l. take (24 * k) (points_bytes l) ++ drop (0 + 24 * k) out) ep
            ∙ (λ i. all i ++ drop (zero-add (24 * k) i) out)
            ∙ ap (λ (m : ℕ). points_bytes list ++ drop (24 * m) out) ek
            ∙ sym (ap (λ x. output_of x out) o);
      }
