-- The corners that the boundary lists, as the first points of a run: they are the feasible vertices of the system, and within the bounds.
use Rattle.std.specs.Prelude.{Option, Some}
use mathlib.Core.Path.{◌≡◌, refl, sym, ◌∙◌, ap, subst}
use mathlib.Core.List.{List, ◌∷◌, map, Memᴰ}
use mathlib.Core.Logic.{◌↔◌}
use mathlib.Core.Bool.{true}
use Prim.Native.Nat.{ℕ, zero, suc, ◌+◌, ◌<◌}
use native.Mathlib.Omega.{arith}
use native.Mathlib.Nat.{add-zero}
use lib.ListN.{length}
use lib.IntN.{ℤ}
use Rattle.lp.specs.declared.Floors.{Floors}
use Rattle.lp.specs.declared.Point.{Point}
use Rattle.lp.specs.Program.{system}
use Rattle.lp.specs.Range.{SmallSystem}
use Rattle.model.specs.Bounds.{SmallPoint}
use Rattle.theory.proofs.Enumeration.{allowed_vertices, vertex_of}
use Rattle.engine.specs.Entries.{entries}
use Rattle.amounts.proofs.Tests.{floors-small}
use Rattle.region.specs.Listing.{corners_of}
use Rattle.region.proofs.Theorems.{places, listed-exactly}
use Rattle.region.proofs.Frames.{framed-length}
use Rattle.region.proofs.Points.{read_point}
use Rattle.laying.specs.Laying.{within, Lays}
use Rattle.laying.proofs.Layouts.{
  Within,
  within-said,
  listed-within,
  names,
  all_listed,
  all_read,
  run_framed,
  rules_stay,
  few-corners,
  count_of,
  system-small,
}
use Rattle.offering.specs.Listed.{point_at, points_from}
use Rattle.offering.specs.Asked.{Listing}
use Rattle.offering.proofs.Sizes.{vertex-small}

-- ---- points of a run

module _ (l : List ℤ) where
  points-places : (k n : ℕ) → map (read_point l) (places k n) ≡ points_from l k n
  points-places k zero = refl
  points-places k (suc n) = ap (λ (vs : List Point). point_at l k ∷ vs) (points-places (suc k) n)

  point-listed : (k n i : ℕ) → i < n → Memᴰ (point_at l (k + i)) (points_from l k n)
  point-listed k zero i h = absurd (let z : ⊥ = omega arith in z)
  point-listed k (suc n) zero h = Memᴰ.head (ap (point_at l) (add-zero k))
  point-listed k (suc n) (suc i) h =
      let e : suc k + i ≡ k + suc i = omega arith in
      Memᴰ.tail (subst (λ (j : ℕ). Memᴰ (point_at l j) (points_from l (suc k) n)) e (point-listed (suc k) n i (omega arith)))

-- ---- what is listed

module _
    (f : Floors) (e : List ℤ) (order ring : List ℕ) (corners : List ℤ)
    {r : Option ℕ} {e' : List ℤ} {order' ring' : List ℕ} {corners' : List ℤ}
    (h : Lays f e order ring corners r e' order' ring' corners')
    (as_long : length corners' ≡ length corners)
    (k : ℕ) (q : r ≡ Some k) where
  abbrev n : ℕ
  n = length order

  pub all-within : within f e n (length ring) (length corners) ≡ true
  all-within = listed-within f e order ring corners h q

  inner : Within f e n (length ring) (length corners)
  inner = within-said f e n (length ring) (length corners) all-within

  small-rules : SmallSystem (entries e 2 n)
  small-rules = system-small (entries e 2 n) inner.rules

  counted : k ≡ length (corners_of f e order')
  counted = ap count_of (sym q ∙ all_listed f e order ring corners h all-within)

  points-laid : points_from corners' 0 k ≡ corners_of f e order'
  points-laid =
      ap (points_from corners' 0) counted
      ∙ sym (points-places corners' 0 (length (corners_of f e order')))
      ∙ all_read f e order ring corners h all-within

  -- the first k points are the feasible vertices of the system, some of them perhaps more than once
  pub exactly : (v : Point) → Memᴰ v (points_from corners' 0 k) ↔ Memᴰ v (allowed_vertices (system f (entries e 2 n)))
  exactly v =
      let x = names f e order ring corners h all-within in
      subst (λ (vs : List Point). Memᴰ v vs ↔ Memᴰ v (allowed_vertices (system f (entries e 2 n)))) (sym points-laid)
      (listed-exactly n order' x.to x.from f e v)

  small : (i : ℕ) → i < k → SmallPoint (point_at corners' i)
  small i b =
      vertex-small (entries e 2 n) (floors-small {f = f} inner.order.floors) small-rules (point_at corners' i)
      (vertex_of (system f (entries e 2 n)) (point_at corners' i)
      ((exactly (point_at corners' i)).0
      (subst (λ (j : ℕ). Memᴰ (point_at corners' j) (points_from corners' 0 k)) (plain i) (point-listed corners' 0 k i b))))
    where
      plain : (i : ℕ) → 0 + i ≡ i
      plain i = omega arith

  pub listing : Listing n k e' corners'
  listing =
      record {
        ruled =
            record {
              room = omega (arith, inner.room, ap length (run_framed f e order ring corners h all-within), framed-length f e n);
              rules-small = subst SmallSystem (sym (rules_stay f e order ring corners h all-within)) small-rules;
            };
        points =
            record {
              room = omega (arith, counted, few-corners f e order ring corners h all-within, as_long, inner.order.corners-room);
              small = small;
            };
      }
