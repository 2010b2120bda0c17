-- The ring of a system encloses what the system allows: the floors and the horizon make a triangle, and each rule enters it by the law
-- of the insertion. It is a boundary of the system with the horizon, or it is empty and nothing of positive size is left.
use mathlib.Core.Path.{◌≡◌, refl, sym, subst}
use mathlib.Core.List.Memᴰ
use mathlib.Core.List.{List, [], ◌∷◌, ◌++◌, append-nil, append_assoc, Memᴰ}
use lib.IntN.{ℤ, pos, negsuc, ◌+ℤ◌}
use Rattle.ints.specs.Order.{◌≤ᶻ◌, ◌<ᶻ◌}
use Rattle.ints.proofs.Ring.{Poly, con, ◌⊕◌, ◌⊖◌, ◌⊗◌, ⊝◌, ◌≐◌}
use Rattle.ints.proofs.Order.{nn_nat, pos_nat, nn_zero, nn_add, nn_add_pos, pos_nn}
use Rattle.lp.specs.declared.Constraint.{Constraint}
use Rattle.lp.specs.declared.Floors.{Floors}
use Rattle.lp.specs.declared.Point.{Point}
use Rattle.lp.specs.Program.{slack, Keeps, Feasible, floor_x, floor_y, system}
use Rattle.lp.specs.Outcome.{meet, cross}
use Rattle.theory.proofs.Solver.{equal, C, P, Z, Constraintᵖ, Rayᵖ, slackᵖ, meetᵖ, crossᵖ}
use Rattle.theory.proofs.Lists.{for-members}
use Rattle.theory.proofs.Line.{meet-on-first, meet-on-second}
use Rattle.theory.proofs.Extension.{extended}
use Rattle.boundary.specs.Size.{size, horizon, normal, turn}
use Rattle.boundary.specs.Ring.{insert, triangle, grown_from, grown}
use Rattle.boundary.proofs.Corner.{Corner, turning-apart, apart-sym}
use Rattle.boundary.proofs.Insert.{Encloses, insert_encloses}

-- the system with the horizon as one more constraint
abbrev pub framed : Floors → List Constraint → List Constraint
framed f rules = horizon ∷ system f rules

-- ---- polynomials in the two floors

abbrev sizeᵖ : Poly → Poly → Constraintᵖ
sizeᵖ x y = record { a = con (negsuc 0); b = con (negsuc 0); c = con (pos 1) ⊖ x ⊖ y }

abbrev horizonᵖ : Constraintᵖ
horizonᵖ = record { a = con (pos 0); b = con (pos 0); c = con (pos 1) }

abbrev floor_xᵖ : Poly → Constraintᵖ
floor_xᵖ x = record { a = con (negsuc 0); b = con (pos 0); c = ⊝ x }

abbrev floor_yᵖ : Poly → Constraintᵖ
floor_yᵖ y = record { a = con (pos 0); b = con (negsuc 0); c = ⊝ y }

abbrev normalᵖ : Poly → Poly → Constraintᵖ → Rayᵖ
normalᵖ x y r = record { dx = r.a ⊕ (r.c ⊖ r.a ⊗ x ⊖ r.b ⊗ y); dy = r.b ⊕ (r.c ⊖ r.a ⊗ x ⊖ r.b ⊗ y) }

-- ---- the size of a point

-- a turn is the cross product of two normals, so that it tells the order of angles within half a circle
pub turn-normal : (f : Floors) (r s : Constraint) → turn (size f) r s ≡ cross (normal f r) (normal f s)
turn-normal f r s =
    equal (Z ∷ Z ∷ C ∷ C ∷ []) (λ x y r s. slackᵖ (sizeᵖ x y) (meetᵖ r s) ≐ crossᵖ (normalᵖ x y r) (normalᵖ x y s)) refl f.lx f.ly r s

pub size-sum : (f : Floors) (v : Point) → slack (size f) v ≡ slack (floor_x f) v +ℤ slack (floor_y f) v +ℤ v.d
size-sum f v =
    equal (Z ∷ Z ∷ P ∷ []) (λ x y v. slackᵖ (sizeᵖ x y) v ≐ slackᵖ (floor_xᵖ x) v ⊕ slackᵖ (floor_yᵖ y) v ⊕ v.d) refl f.lx f.ly v

pub horizon-slack : (v : Point) → slack horizon v ≡ v.d
horizon-slack = equal (P ∷ []) (λ v. slackᵖ horizonᵖ v ≐ v.d) refl

module _ (f : Floors) (rules : List Constraint) (v : Point) (feasible : Feasible (system f rules) v) where
  pub feasible-sized : pos 0 <ᶻ slack (size f) v
  feasible-sized =
      subst (λ z. pos 0 <ᶻ z) (sym (size-sum f v))
      (nn_add_pos
      (nn_add (feasible.kept (floor_x f) (Memᴰ.head refl)) (feasible.kept (floor_y f) (Memᴰ.tail (Memᴰ.head refl))))
      feasible.proper)

  pub feasible-framed : (r : Constraint) → Memᴰ r (framed f rules) → Keeps r v
  feasible-framed =
      for-members (λ r. Keeps r v) horizon (system f rules)
      (subst (λ z. pos 0 ≤ᶻ z) (sym (horizon-slack v)) (pos_nn feasible.proper)) feasible.kept

-- ---- the triangle

module _ (f : Floors) where
  one-pos : {z : ℤ} → z ≡ pos 1 → pos 0 <ᶻ z
  one-pos e = subst (λ z. pos 0 <ᶻ z) (sym e) (pos_nat 0)

  one_nn : {z : ℤ} → z ≡ pos 1 → pos 0 ≤ᶻ z
  one_nn e = subst (λ z. pos 0 ≤ᶻ z) (sym e) (nn_nat 1)

  every : (v : Point) → Keeps horizon v → Keeps (floor_x f) v → Keeps (floor_y f) v → (r : Constraint) → Memᴰ r (framed f []) → Keeps r v
  every v z x y =
      for-members (λ r. Keeps r v) horizon (system f []) z
      (for-members (λ r. Keeps r v) (floor_x f) (floor_y f ∷ []) x
      (for-members (λ r. Keeps r v) (floor_y f) [] y (λ r i. absurd (Memᴰ.not-nil i))))

  in_horizon : Memᴰ horizon (framed f [])
  in_horizon = Memᴰ.head refl

  in_x : Memᴰ (floor_x f) (framed f [])
  in_x = Memᴰ.tail (Memᴰ.head refl)

  in_y : Memᴰ (floor_y f) (framed f [])
  in_y = Memᴰ.tail (Memᴰ.tail (Memᴰ.head refl))

  corner-y-horizon : Corner (size f) (framed f []) (floor_y f) horizon
  corner-y-horizon =
      record {
        first = in_y;
        second = in_horizon;
        turns = one-pos (equal (Z ∷ Z ∷ []) (λ x y. slackᵖ (sizeᵖ x y) (meetᵖ (floor_yᵖ y) horizonᵖ) ≐ con (pos 1)) refl f.lx f.ly);
        kept = every (meet (floor_y f) horizon) (nn_zero (meet-on-second (floor_y f) horizon))
            (one_nn (equal (Z ∷ Z ∷ []) (λ x y. slackᵖ (floor_xᵖ x) (meetᵖ (floor_yᵖ y) horizonᵖ) ≐ con (pos 1)) refl f.lx f.ly))
            (nn_zero (meet-on-first (floor_y f) horizon));
      }

  corner-horizon-x : Corner (size f) (framed f []) horizon (floor_x f)
  corner-horizon-x =
      record {
        first = in_horizon;
        second = in_x;
        turns = one-pos (equal (Z ∷ Z ∷ []) (λ x y. slackᵖ (sizeᵖ x y) (meetᵖ horizonᵖ (floor_xᵖ x)) ≐ con (pos 1)) refl f.lx f.ly);
        kept = every (meet horizon (floor_x f)) (nn_zero (meet-on-first horizon (floor_x f))) (nn_zero (meet-on-second horizon (floor_x f)))
            (one_nn (equal (Z ∷ Z ∷ []) (λ x y. slackᵖ (floor_yᵖ y) (meetᵖ horizonᵖ (floor_xᵖ x)) ≐ con (pos 1)) refl f.lx f.ly));
      }

  corner-x-y : Corner (size f) (framed f []) (floor_x f) (floor_y f)
  corner-x-y =
      record {
        first = in_x;
        second = in_y;
        turns = one-pos (equal (Z ∷ Z ∷ []) (λ x y. slackᵖ (sizeᵖ x y) (meetᵖ (floor_xᵖ x) (floor_yᵖ y)) ≐ con (pos 1)) refl f.lx f.ly);
        kept = every (meet (floor_x f) (floor_y f))
            (one_nn (equal (Z ∷ Z ∷ []) (λ x y. slackᵖ horizonᵖ (meetᵖ (floor_xᵖ x) (floor_yᵖ y)) ≐ con (pos 1)) refl f.lx f.ly))
            (nn_zero (meet-on-first (floor_x f) (floor_y f)))
            (nn_zero (meet-on-second (floor_x f) (floor_y f)));
      }

  pub triangle_encloses : Encloses (size f) (framed f []) (triangle f)
  triangle_encloses =
      record {
        edges = (corner-y-horizon, (corner-horizon-x, corner-x-y));
        distinct = (
          (
            turning-apart (size f) (floor_y f) horizon corner-y-horizon.turns,
            (apart-sym (size f) (floor_x f) (floor_y f) (turning-apart (size f) (floor_x f) (floor_y f) corner-x-y.turns), tt),
          ),
          ((turning-apart (size f) horizon (floor_x f) corner-horizon-x.turns, tt), (tt, tt)),
        );
      }

-- ---- the ring

grows :
    (D : Constraint) (S l rules : List Constraint) →
    Encloses D S l →
    Encloses D (S ++ rules) (grown_from D l rules)
grows D S l [] e = subst (λ T. Encloses D T l) (sym (append-nil S)) e
grows D S l (h ∷ rules) e =
    subst (λ T. Encloses D T (grown_from D (insert D h l) rules)) (append_assoc S (h ∷ []) rules)
    (grows D (S ++ (h ∷ [])) (insert D h l) rules (insert_encloses D S (S ++ (h ∷ [])) h (extended S h) l e))

-- the ring of a system is its boundary
pub grown_encloses : (f : Floors) (rules : List Constraint) → Encloses (size f) (framed f rules) (grown f rules)
grown_encloses f rules = grows (size f) (framed f []) (triangle f) rules (triangle_encloses f)
