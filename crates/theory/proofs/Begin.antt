-- Before the first rule: the floors' corner is the start point, the axes span the rays, and the corner is the optimum unless an axis gains.
use Rattle.std.specs.Prelude.{Option, None, Some}
use mathlib.Core.Path.{◌≡◌, refl, sym, ◌∙◌, ap, subst}
use mathlib.Core.List.Memᴰ
use mathlib.Core.List.{List, [], ◌∷◌, Memᴰ}
use mathlib.Core.Logic.{inl, inr}
use Prim.Native.Nat.{ℕ, ◌≤◌, ◌<◌}
use native.Mathlib.Omega.{arith}
use lib.IntN.{ℤ, pos, negsuc, ◌-ℤ◌, ◌*ℤ◌}
use lib.Signed.{le_z_yes}
use Rattle.ints.specs.Order.{◌≤ᶻ◌}
use Rattle.ints.specs.Gcd.{gcd3}
use Rattle.ints.proofs.Ring.{◌⊕◌, ◌⊖◌, ◌⊗◌, ⊝◌, ◌≐◌, con}
use Rattle.ints.proofs.Order.{nn_zero, neg_nn, nn_neg, pos_nat}
use Rattle.ints.proofs.Divides.{quot_reduced}
use Rattle.ints.proofs.Gcd.{gcd3-pos, gcd3_le}
use Rattle.lp.specs.declared.Constraint.{Constraint}
use Rattle.lp.specs.declared.Functional.{Functional}
use Rattle.lp.specs.declared.Floors.{Floors}
use Rattle.lp.specs.declared.Point.{Point}
use Rattle.lp.specs.declared.Ray.{Ray}
use Rattle.lp.specs.declared.Tie.{Tie}
use Rattle.lp.specs.Program.{point, ray, rise, between, Keeps, Feasible, floor_x, floor_y, system}
use Rattle.lp.specs.Outcome.{meet, reduce, tie_order, gain_order}
use Rattle.model.specs.Step.{gaining, opening}
use Rattle.theory.proofs.Solver.{equal, nn_by, P, R, Z}
use Rattle.theory.proofs.Lists.{for-members}
use Rattle.theory.proofs.Direction.{opposite, ray_path}
use Rattle.theory.proofs.Lexicographic.{Up}
use Rattle.theory.proofs.Cone.{Recedes, Quadrant, Wedged}
use Rattle.theory.proofs.Reduction.{point_path}
use Rattle.theory.proofs.Vertex.{Vertex}
use Rattle.theory.proofs.Ties.{GoodTie, tie-falls, gain-falls}
use Rattle.theory.proofs.Standing.{Standing, BestStands, gains-nowhere}

-- any system with the floors in it has its rays in the quadrant
pub floors-quadrant : (floors : Floors) (rules : List Constraint) → Quadrant (system floors rules)
floors-quadrant floors rules d r = (
  nn_by (R ∷ []) (λ d. d.dx ≐ ⊝ (con (negsuc 0) ⊗ d.dx ⊕ con (pos 0) ⊗ d.dy)) refl d (neg_nn (r (floor_x floors) (Memᴰ.head refl))),
  nn_by (R ∷ []) (λ d. d.dy ≐ ⊝ (con (pos 0) ⊗ d.dx ⊕ con (negsuc 0) ⊗ d.dy)) refl d
      (neg_nn (r (floor_y floors) (Memᴰ.tail (Memᴰ.head refl)))),
)

-- a point with denominator 1 is in lowest terms
reduce-whole : (x y : ℤ) → reduce (point x y (pos 1)) ≡ point x y (pos 1)
reduce-whole x y = point_path (quot_reduced x one) (quot_reduced y one) (quot_reduced (pos 1) one)
  where
    one : gcd3 x y (pos 1) ≡ 1
    one = between-one (gcd3 x y (pos 1)) (gcd3-pos x y (pos 1) (pos_nat 0)) (gcd3_le x y (pos 1) (pos_nat 0))
      where
        between-one : (g : ℕ) → 0 < g → g ≤ 1 → g ≡ 1
        between-one g a b = omega arith

module _ (floors : Floors) where
  abbrev S : List Constraint
  S = system floors []

  abbrev corner : Point
  corner = point floors.lx floors.ly (pos 1)

  -- both floors, and nothing else
  both-floors {ℓ} : (Q : Constraint → Type ℓ) → Q (floor_x floors) → Q (floor_y floors) → (r : Constraint) → Memᴰ r S → Q r
  both-floors Q x y =
      for-members Q (floor_x floors) (floor_y floors ∷ []) x (for-members Q (floor_y floors) [] y (λ r i. absurd (Memᴰ.not-nil i)))

  corner-feasible : Feasible S corner
  corner-feasible =
      record {
        proper = pos_nat 0;
        kept = both-floors (λ r. Keeps r corner)
            (nn_zero (equal (Z ∷ Z ∷ []) (λ x y. ⊝ x ⊗ con (pos 1) ⊖ (con (negsuc 0) ⊗ x ⊕ con (pos 0) ⊗ y) ≐ con (pos 0)) refl
            floors.lx floors.ly))
            (nn_zero (equal (Z ∷ Z ∷ []) (λ x y. ⊝ y ⊗ con (pos 1) ⊖ (con (pos 0) ⊗ x ⊕ con (negsuc 0) ⊗ y) ≐ con (pos 0)) refl
            floors.lx floors.ly));
      }

  corner-vertex : Vertex S corner
  corner-vertex =
      record {
        one = floor_x floors;
        other = floor_y floors;
        one-member = Memᴰ.head refl;
        other-member = Memᴰ.tail (Memᴰ.head refl);
        crosses = pos_nat 0;
        lowest =
            sym (ap reduce (point_path {v = meet (floor_x floors) (floor_y floors)} {w = corner} meet-x meet-y refl)
            ∙ reduce-whole floors.lx floors.ly);
      }
    where
      meet-x : (meet (floor_x floors) (floor_y floors)).x ≡ floors.lx
      meet-x = equal (Z ∷ Z ∷ []) (λ x y. ⊝ x ⊗ con (negsuc 0) ⊖ ⊝ y ⊗ con (pos 0) ≐ x) refl floors.lx floors.ly

      meet-y : (meet (floor_x floors) (floor_y floors)).y ≡ floors.ly
      meet-y = equal (Z ∷ Z ∷ []) (λ x y. con (negsuc 0) ⊗ ⊝ y ⊖ con (pos 0) ⊗ ⊝ x ≐ y) refl floors.lx floors.ly

  -- from the corner to any feasible point goes a direction of the quadrant
  module _ (w : Point) (h : Feasible S w) where
    abbrev out : Ray
    out = ray (w.x -ℤ floors.lx *ℤ w.d) (w.y -ℤ floors.ly *ℤ w.d)

    out-x : pos 0 ≤ᶻ out.dx
    out-x =
        nn_by (P ∷ Z ∷ []) (λ w x. w.x ⊖ x ⊗ w.d ≐ ⊝ x ⊗ w.d ⊖ (con (negsuc 0) ⊗ w.x ⊕ con (pos 0) ⊗ w.y)) refl w floors.lx
        (h.kept (floor_x floors) (Memᴰ.head refl))

    out-y : pos 0 ≤ᶻ out.dy
    out-y =
        nn_by (P ∷ Z ∷ []) (λ w y. w.y ⊖ y ⊗ w.d ≐ ⊝ y ⊗ w.d ⊖ (con (pos 0) ⊗ w.x ⊕ con (negsuc 0) ⊗ w.y)) refl w floors.ly
        (h.kept (floor_y floors) (Memᴰ.tail (Memᴰ.head refl)))

    back : opposite out ≡ between w corner
    back =
        ray_path
        (equal (P ∷ Z ∷ []) (λ w x. ⊝ (w.x ⊖ x ⊗ w.d) ≐ x ⊗ w.d ⊖ w.x ⊗ con (pos 1)) refl w floors.lx)
        (equal (P ∷ Z ∷ []) (λ w y. ⊝ (w.y ⊖ y ⊗ w.d) ≐ y ⊗ w.d ⊖ w.y ⊗ con (pos 1)) refl w floors.ly)

    out-recedes : Recedes S out
    out-recedes =
        both-floors (λ r. rise r out ≤ᶻ pos 0)
        (nn_neg (nn_by (R ∷ []) (λ d. ⊝ (con (negsuc 0) ⊗ d.dx ⊕ con (pos 0) ⊗ d.dy) ≐ d.dx) refl out out-x))
        (nn_neg (nn_by (R ∷ []) (λ d. ⊝ (con (pos 0) ⊗ d.dx ⊕ con (negsuc 0) ⊗ d.dy) ≐ d.dy) refl out out-y))

  abbrev axes : Option (Ray × Ray)
  axes = Some (ray (pos 1) (pos 0), ray (pos 0) (pos 1))

  axes_span : Wedged S (ray (pos 1) (pos 0)) (ray (pos 0) (pos 1))
  axes_span =
      record {
        lo_recedes = both-floors (λ r. rise r (ray (pos 1) (pos 0)) ≤ᶻ pos 0) (le_z_yes tt) (le_z_yes tt);
        hi-recedes = both-floors (λ r. rise r (ray (pos 0) (pos 1)) ≤ᶻ pos 0) (le_z_yes tt) (le_z_yes tt);
        lo_forward = record { nn_dx = le_z_yes tt; nn_dy = le_z_yes tt; size = pos_nat 0 };
        hi-forward = record { nn_dx = le_z_yes tt; nn_dy = le_z_yes tt; size = pos_nat 0 };
        after_lo = λ d r. nn_by (R ∷ []) (λ d. con (pos 1) ⊗ d.dy ⊖ con (pos 0) ⊗ d.dx ≐ d.dy) refl d (floors-quadrant floors [] d r).1;
        before-hi =
            λ d r. nn_by (R ∷ []) (λ d. d.dx ⊗ con (pos 1) ⊖ d.dy ⊗ con (pos 0) ≐ d.dx) refl d (floors-quadrant floors [] d r).0;
        lo_candidate = (floor_y floors, Memᴰ.tail (Memᴰ.head refl), inr refl);
        hi-candidate = (floor_x floors, Memᴰ.head refl, inl refl);
      }

  module _ (t : Tie) (good : GoodTie t) (f : Functional) where
    corner-opens : (g : Option Ray) → gaining f axes ≡ g → BestStands t f S axes (opening f corner axes g)
    corner-opens (Some d) e = (d, e)
    corner-opens None e = (
      record {
        feasible = corner-feasible;
        greatest =
            λ w h. subst (Up (gain_order f t)) (back w h)
            (gain-falls t good f (out w h) (out-x w h) (out-y w h)
            (gains-nowhere S f axes (floors-quadrant floors []) axes_span e (out w h) (out-recedes w h)));
        vertex = corner-vertex;
      },
      e,
    )

    pub standing_at_first : Standing t f S corner axes (opening f corner axes (gaining f axes))
    standing_at_first =
        record {
          quadrant = floors-quadrant floors [];
          start =
              record {
                feasible = corner-feasible;
                greatest = λ w h. subst (Up (tie_order t)) (back w h)
                    (tie-falls t good (out w h) (out-x w h) (out-y w h));
                vertex = corner-vertex;
              };
          spans = axes_span;
          optimum = corner-opens (gaining f axes) refl;
        }
