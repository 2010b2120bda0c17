-- The first of a system's corners in an order, picked from any list of them: it is the same however they are listed.
use mathlib.Core.Path.{◌≡◌, refl, subst}
use mathlib.Core.List.{List, [], ◌∷◌, Memᴰ}
use mathlib.Core.Bool.{not}
use lib.Dec.{T}
use lib.IntN.{pos}
use Rattle.ints.specs.Order.{◌<ᶻ◌}
use Rattle.ints.proofs.Ring.{⊝◌, ◌≐◌, con}
use Rattle.ints.proofs.Order.{pos_nn}
use Rattle.lp.specs.declared.Constraint.{Constraint}
use Rattle.lp.specs.declared.Functional.{Functional}
use Rattle.lp.specs.declared.Point.{Point}
use Rattle.lp.specs.Program.{between}
use Rattle.lp.specs.Outcome.{pick, better}
use Rattle.theory.proofs.Solver.{equal, P, betweenᵖ}
use Rattle.theory.proofs.Lists.{Picked, picked}
use Rattle.theory.proofs.Direction.{Upward, AtMost, ray_path, at-most_trans, at-most-both}
use Rattle.theory.proofs.Lexicographic.{Up, above-up, not-above-up, up-null}
use Rattle.theory.proofs.Reduction.{lowest-unique}
use Rattle.theory.proofs.Vertex.{vertex-proper, vertex-lowest}
use Rattle.theory.proofs.Enumeration.{allowed_vertices, vertex_of}

module _ (fs : List Functional) (O : Upward (Up fs)) where
  at-most-self : (v : Point) → AtMost (Up fs) v v
  at-most-self v =
      up-null fs (between v v)
      (record {
        no_dx = equal (P ∷ []) (λ v. (betweenᵖ v v).dx ≐ con (pos 0)) refl v;
        no_dy = equal (P ∷ []) (λ v. (betweenᵖ v v).dy ≐ con (pos 0)) refl v;
      })

  not-better-at-most : (v w : Point) → T (not (better fs w v)) → AtMost (Up fs) w v
  not-better-at-most v w t =
      subst (Up fs) (ray_path (equal (P ∷ P ∷ []) (λ v w. ⊝ (betweenᵖ v w).dx ≐ (betweenᵖ w v).dx) refl v w)
      (equal (P ∷ P ∷ []) (λ v w. ⊝ (betweenᵖ v w).dy ≐ (betweenᵖ w v).dy) refl v w)) (not-above-up fs (between v w) t)

  -- a member, and no member comes before it
  abbrev First : Point → List Point → Point → Type 0
  First v vs q =
      Picked (better fs) (λ x. pos 0 <ᶻ x.d) (AtMost (Up fs)) (λ x h. at-most-self x)
      (λ x y z hx hy hz. at-most_trans (Up fs) O x y z (pos_nn hx) hy (pos_nn hz)) (λ x y hx hy t. above-up fs (between x y) t)
      (λ x y hx hy t. not-better-at-most x y t) v vs q

  first-picked : (v : Point) (vs : List Point) →
      ((x : Point) → Memᴰ x (v ∷ vs) → pos 0 <ᶻ x.d) →
      First v vs (pick (better fs) v vs)
  first-picked v vs proper =
      picked (better fs) (λ x. pos 0 <ᶻ x.d) (AtMost (Up fs)) (λ x h. at-most-self x)
      (λ x y z hx hy hz. at-most_trans (Up fs) O x y z (pos_nn hx) hy (pos_nn hz)) (λ x y hx hy t. above-up fs (between x y) t)
      (λ x y hx hy t. not-better-at-most x y t) v vs proper

  module _ (S : List Constraint) (v : Point) (vs : List Point) (w : Point) (ws : List Point)
      (to : (x : Point) → Memᴰ x (v ∷ vs) → Memᴰ x (w ∷ ws))
      (from : (x : Point) → Memᴰ x (w ∷ ws) → Memᴰ x (v ∷ vs))
      (listed : (x : Point) → Memᴰ x (w ∷ ws) → Memᴰ x (allowed_vertices S)) where
    pub same-pick : pick (better fs) v vs ≡ pick (better fs) w ws
    same-pick =
        lowest-unique p q (vertex-proper S p (vertex_of S p p-corner)) (vertex-proper S q (vertex_of S q q-corner))
        (vertex-lowest S p (vertex_of S p p-corner)) (vertex-lowest S q (vertex_of S q q-corner))
        (at-most-both (Up fs) O p q (there.first p (to p here.member)) (here.first q (from q there.member)))
      where
        p : Point
        p = pick (better fs) v vs

        q : Point
        q = pick (better fs) w ws

        proper : (x : Point) → Memᴰ x (allowed_vertices S) → pos 0 <ᶻ x.d
        proper x i = vertex-proper S x (vertex_of S x i)

        here : First v vs p
        here = first-picked v vs (λ x i. proper x (listed x (to x i)))

        there : First w ws q
        there = first-picked w ws (λ x i. proper x (listed x i))

        p-corner : Memᴰ p (allowed_vertices S)
        p-corner = listed p (to p here.member)

        q-corner : Memᴰ q (allowed_vertices S)
        q-corner = listed q there.member
