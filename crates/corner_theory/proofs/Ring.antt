-- The list of corners by the region's boundary: whatever order the rules enter the ring in, the ring's corners put in order are the list;
-- so there are never more than n + 2 of them.
use mathlib.Core.Path.{◌≡◌}
use mathlib.Core.List.{List, Memᴰ}
use mathlib.Core.Logic.{◌↔◌}
use Prim.Native.Nat.{◌+◌, ◌≤◌}
use native.Mathlib.Omega.{arith}
use lib.ListN.{length}
use Rattle.lp.specs.declared.Constraint.{Constraint}
use Rattle.lp.specs.declared.Floors.{Floors}
use Rattle.lp.specs.declared.Point.{Point}
use Rattle.lp.specs.Program.{system}
use Rattle.lp.specs.Corners.{Corner, Rising, arranged, corners_of}
use Rattle.theory.proofs.Vertex.{vertex-proper, vertex-lowest}
use Rattle.theory.proofs.Enumeration.{vertex_of, feasible_of, feasible-listed}
use Rattle.boundary.specs.Ring.{grown, corners}
use Rattle.boundary.proofs.Theorems.{ring-corners}
use Rattle.boundary.proofs.Count as boundary
use Rattle.corner_theory.proofs.Rising.{AllProper, arranged-member, member-arranged, arranged-rising}
use Rattle.corner_theory.proofs.Theorems.{vertex-corner, corner-vertex, corners-unique, corners-few}

module _ (f : Floors) (rules order : List Constraint) (to : (r : Constraint) → Memᴰ r rules → Memᴰ r order)
    (from : (r : Constraint) → Memᴰ r order → Memᴰ r rules) where
  abbrev S : List Constraint
  S = system f rules

  -- a point is a corner of the ring exactly when it is a corner
  pub ring-exactly : (v : Point) → Memᴰ v (corners (grown f order)) ↔ Corner S v
  ring-exactly v = (
    (λ i. let j = (ring-corners f rules order to from v).0 i in vertex-corner S v (vertex_of S v j) (feasible_of S v j)),
    (λ k. (ring-corners f rules order to from v).1 (feasible-listed S v (corner-vertex S v k) k.feasible)),
  )

  pub ring-proper : AllProper (corners (grown f order))
  ring-proper v i =
      let x = vertex_of S v ((ring-corners f rules order to from v).0 i) in
      record { positive = vertex-proper S v x; lowest = vertex-lowest S v x }

  -- a rising list with the members of the ring's corners is the list
  pub ring-list :
      (l : List Point) →
      Rising l →
      ((v : Point) → Memᴰ v l → Memᴰ v (corners (grown f order))) →
      ((v : Point) → Memᴰ v (corners (grown f order)) → Memᴰ v l) →
      l ≡ corners_of f rules
  ring-list l r a b = corners-unique S l r (λ v. ((λ i. (ring-exactly v).0 (a v i)), (λ k. b v ((ring-exactly v).1 k))))

  pub ring-arranged : arranged (corners (grown f order)) ≡ corners_of f rules
  ring-arranged =
      ring-list (arranged (corners (grown f order))) (arranged-rising (corners (grown f order)) ring-proper)
      (arranged-member (corners (grown f order)))
      (member-arranged (corners (grown f order)) ring-proper)

-- there are never more than n + 2
pub corners-at-most : (f : Floors) (rules : List Constraint) → length (corners_of f rules) ≤ length rules + 2
corners-at-most f rules =
    let many = boundary.corners-at-most f rules in
    let few = corners-few (system f rules) (corners (grown f rules)) (λ v k. (ring-exactly f rules rules (λ r i. i) (λ r i. i) v).1 k) in
    omega arith
