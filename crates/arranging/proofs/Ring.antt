-- The ring's corners, laid out as points and arranged, are the list of request 110. Their denominators are lawful, since every edge of the
-- ring is a lawful constraint.
use mathlib.Core.Path.{◌≡◌, sym, ◌∙◌, ap, subst}
use mathlib.Core.List.Memᴰ
use mathlib.Core.List.{List, [], ◌∷◌, map, Memᴰ}
use mathlib.Core.Bool.{true, ◌&&◌}
use mathlib.Core.Logic.{◌⊎◌, inl, inr}
use Prim.Native.Nat.{ℕ}
use lib.IntN.{ℤ, pos, negsuc}
use lib.Signed.{le_z, le_z_yes}
use Rattle.ints.specs.Order.{◌≤ᶻ◌, ◌<ᶻ◌}
use Rattle.ints.specs.Within.{Within}
use Rattle.ints.proofs.Machine.{within_quot, within_le, weaken}
use Rattle.lp.specs.declared.Constraint.{Constraint}
use Rattle.lp.specs.declared.Floors.{Floors}
use Rattle.lp.specs.declared.Point.{Point}
use Rattle.lp.specs.Program.{system}
use Rattle.lp.specs.Range.{SmallConstraint, SmallFloors}
use Rattle.lp.specs.Corners.{arranged, corners_of}
use Rattle.model.proofs.Bounds.{floorX-small, floorY-small, det-small}
use Rattle.theory.proofs.Lists.{for-members, is_true}
use Rattle.theory.proofs.Vertex.{Vertex, vertex-proper, vertex-lowest}
use Rattle.theory.proofs.Enumeration.{vertex_of}
use Rattle.boundary.specs.Ring.{grown, corners}
use Rattle.boundary.proofs.Theorems.{ring-corners}
use Rattle.compare.specs.Comparing.{is_denominator}
use Rattle.corner_theory.proofs.Ring.{ring-arranged}
use Rattle.sorting.specs.Keys.{point_at, comes_at}
use Rattle.arranging.specs.Arranging.{kept, indices, order_of}
use Rattle.arranging.proofs.Meaning.{Pair, kept-arranged}

-- ---- the denominator of a lawful system's vertex

positive-one : {d : ℤ} → pos 0 <ᶻ d → pos 1 ≤ᶻ d
positive-one {d = pos n} h = le_z_yes h.lt
positive-one {d = negsuc n} h = absurd h.lt

lawful-denominator : (d : ℤ) → pos 0 <ᶻ d → Within 2147483647 d → is_denominator d ≡ true
lawful-denominator d h k =
    λ i. is_true (le_z (pos 1) d) (positive-one h).le i && is_true (le_z d (pos 2147483647)) (within_le k).le i

module _ (f : Floors) (rules : List Constraint) (small-floors : SmallFloors f)
    (small-rules : (r : Constraint) → Memᴰ r rules → SmallConstraint r) where
  entry-small : (r : Constraint) → Memᴰ r (system f rules) → SmallConstraint r
  entry-small =
      for-members SmallConstraint _ _ (floorX-small small-floors)
      (for-members SmallConstraint _ rules (floorY-small small-floors) small-rules)

  vertex-pair : (v : Point) → Vertex (system f rules) v → Pair v
  vertex-pair v x =
      record {
        proper = record { positive = vertex-proper (system f rules) v x; lowest = vertex-lowest (system f rules) v x };
        lawful = lawful-denominator v.d (vertex-proper (system f rules) v x) small;
      }
    where
      small : Within 2147483647 v.d
      small =
          subst (λ w. Within 2147483647 w.d) (sym x.lowest)
          (weaken tt (within_quot _ (det-small (entry-small x.one x.one-member) (entry-small x.other x.other-member))))

  -- ---- the theorem

  module _ (order : List Constraint) (to : (r : Constraint) → Memᴰ r rules → Memᴰ r order)
      (from : (r : Constraint) → Memᴰ r order → Memᴰ r rules) where
    ring-pair : (v : Point) → Memᴰ v (corners (grown f order)) → Pair v
    ring-pair v i = vertex-pair v (vertex_of (system f rules) v ((ring-corners f rules order to from v).0 i))

    -- where the first n points of the keys are the ring's corners, the points of the kept indices are the list
    pub ring-kept : (keys : List ℤ) (n : ℕ) →
        map (point_at keys) (indices 0 n) ≡ corners (grown f order) →
        map (point_at keys) (kept (comes_at keys) (order_of (comes_at keys) n)) ≡ corners_of f rules
    ring-kept keys n e =
        kept-arranged keys (indices 0 n) pairs ∙ ap arranged e ∙ ring-arranged f rules order to from
      where
        listed : (l : List ℕ) (i : ℕ) → Memᴰ i l → Memᴰ (point_at keys i) (map (point_at keys) l)
        listed [] i m = absurd (Memᴰ.not-nil m)
        listed (j ∷ l) i m = go (Memᴰ.cases_cons m) (listed l i)
          where
            go :
                (i ≡ j) ⊎ Memᴰ i l →
                (Memᴰ i l → Memᴰ (point_at keys i) (map (point_at keys) l)) →
                Memᴰ (point_at keys i) (map (point_at keys) (j ∷ l))
            go (inl q) g = Memᴰ.head (ap (point_at keys) q)
            go (inr k) g = Memᴰ.tail (g k)

        pairs : (i : ℕ) → Memᴰ i (indices 0 n) → Pair (point_at keys i)
        pairs i m =
            ring-pair (point_at keys i) (subst (λ l. Memᴰ (point_at keys i) l) e (listed (indices 0 n) i m))
