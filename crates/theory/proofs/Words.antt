-- The documents' own words for the tie, the floors and the directions, from the order of functionals and the tests that the definitions
-- go by.
use mathlib.Core.Path.{◌≡◌, refl, sym, ◌∙◌, ap, subst}
use mathlib.Core.List.Memᴰ
use mathlib.Core.List.{List, [], ◌∷◌, Memᴰ}
use mathlib.Core.Logic.{◌⊎◌, inl, inr}
use lib.Dec.{T}
use lib.IntN.{ℤ, pos, negsuc, ◌+ℤ◌, ◌*ℤ◌, ◌-ℤ◌, +ℤ_invr}
use lib.Signed.{clash_ℤ}
use Rattle.ints.specs.Order.{◌≤ᶻ◌, ◌<ᶻ◌}
use Rattle.ints.proofs.Ring.{◌⊕◌, ◌⊖◌, ◌⊗◌, ⊝◌, ◌≐◌, con}
use Rattle.ints.proofs.Order.{pos_nn, nn_zero, nn_sub, sub_nn, neg_nn, le_of_eq}
use Rattle.lp.specs.declared.Constraint.{Constraint}
use Rattle.lp.specs.declared.Functional.{Functional}
use Rattle.lp.specs.declared.Floors.{Floors}
use Rattle.lp.specs.declared.Point.{Point}
use Rattle.lp.specs.declared.Ray.{Ray}
use Rattle.lp.specs.Program.{Keeps, Feasible, floor_x, floor_y, along, rise, between, system}
use Rattle.lp.specs.Outcome.{lawful, tie_order}
use Rattle.lp.specs.Textbook.{NoLater, NotBelow, LawfulDirection}
use Rattle.lp.specs.Document.{tie}
use Rattle.theory.proofs.Solver.{equal, nn_by, Z, P, R, betweenᵖ}
use Rattle.theory.proofs.Direction.{AtMost}
use Rattle.theory.proofs.Lexicographic.{Up}
use Rattle.theory.proofs.Enumeration.{lawful-recedes, lawful-gains}

-- ---- least x + y, then least x

module _ (v w : Point) where
  abbrev d : Ray
  d = between w v

  total_first : pos 0 ≤ᶻ along tie.first d → (v.x +ℤ v.y) *ℤ w.d ≤ᶻ (w.x +ℤ w.y) *ℤ v.d
  total_first h =
      nn_sub (nn_by (P ∷ P ∷ [])
      (λ v w. (w.x ⊕ w.y) ⊗ v.d ⊖ (v.x ⊕ v.y) ⊗ w.d ≐ con (negsuc 0) ⊗ (betweenᵖ w v).dx ⊕ con (negsuc 0) ⊗ (betweenᵖ w v).dy) refl
      v w h)

  x-next : pos 0 ≤ᶻ along tie.second d → v.x *ℤ w.d ≤ᶻ w.x *ℤ v.d
  x-next h =
      nn_sub (nn_by (P ∷ P ∷ [])
      (λ v w. w.x ⊗ v.d ⊖ v.x ⊗ w.d ≐ con (negsuc 0) ⊗ (betweenᵖ w v).dx ⊕ con (pos 0) ⊗ (betweenᵖ w v).dy) refl v w h)

  -- where the total is the same, the tie's first half is level
  level : (v.x +ℤ v.y) *ℤ w.d ≡ (w.x +ℤ w.y) *ℤ v.d → along tie.first d ≡ pos 0
  level e =
      equal (P ∷ P ∷ []) (λ v w. con (negsuc 0) ⊗ (betweenᵖ w v).dx ⊕ con (negsuc 0) ⊗ (betweenᵖ w v).dy
      ≐ (w.x ⊕ w.y) ⊗ v.d ⊖ (v.x ⊕ v.y) ⊗ w.d) refl v w
      ∙ ap (λ z. (w.x +ℤ w.y) *ℤ v.d -ℤ z) e
      ∙ +ℤ_invr ((w.x +ℤ w.y) *ℤ v.d)

  pub first_in_words : AtMost (Up (tie_order tie)) w v → NoLater v w
  first_in_words (inl more) =
      record { least-total = total_first (pos_nn more); then-least-x = λ e. clash_ℤ more (le_of_eq (level e)) }
  first_in_words (inr (same, inl more)) =
      record { least-total = total_first (nn_zero same); then-least-x = λ e. x-next (pos_nn more) }
  first_in_words (inr (same, inr (same', u))) =
      record { least-total = total_first (nn_zero same); then-least-x = λ e. x-next (nn_zero same') }

-- ---- not below the floors

module _ (floors : Floors) (rules : List Constraint) (v : Point) where
  -- an allowed pair is one that is not below the floors and keeps every rule
  pub feasible_in_words : Feasible (system floors rules) v →
      NotBelow floors v × ((r : Constraint) → Memᴰ r rules → Keeps r v)
  feasible_in_words h = (
    record {
      x-not-below =
          nn_sub (nn_by (Z ∷ P ∷ []) (λ l v. v.x ⊖ l ⊗ v.d ≐ ⊝ l ⊗ v.d ⊖ (con (negsuc 0) ⊗ v.x ⊕ con (pos 0) ⊗ v.y)) refl floors.lx
          v (h.kept _ (Memᴰ.head refl)));
      y-not-below =
          nn_sub (nn_by (Z ∷ P ∷ []) (λ l v. v.y ⊖ l ⊗ v.d ≐ ⊝ l ⊗ v.d ⊖ (con (pos 0) ⊗ v.x ⊕ con (negsuc 0) ⊗ v.y)) refl floors.ly
          v (h.kept _ (Memᴰ.tail (Memᴰ.head refl))));
    },
    (λ r i. h.kept r (Memᴰ.tail (Memᴰ.tail i))),
  )

  -- and the other way round
  pub feasible-from_words : pos 0 <ᶻ v.d → NotBelow floors v → ((r : Constraint) → Memᴰ r rules → Keeps r v) →
      Feasible (system floors rules) v
  feasible-from_words p n k = record { proper = p; kept = λ r i. first r (Memᴰ.cases_cons i) }
    where
      on-x : Keeps (floor_x floors) v
      on-x =
          nn_by (Z ∷ P ∷ []) (λ l v. ⊝ l ⊗ v.d ⊖ (con (negsuc 0) ⊗ v.x ⊕ con (pos 0) ⊗ v.y) ≐ v.x ⊖ l ⊗ v.d) refl floors.lx v
          (sub_nn n.x-not-below)

      on-y : Keeps (floor_y floors) v
      on-y =
          nn_by (Z ∷ P ∷ []) (λ l v. ⊝ l ⊗ v.d ⊖ (con (pos 0) ⊗ v.x ⊕ con (negsuc 0) ⊗ v.y) ≐ v.y ⊖ l ⊗ v.d) refl floors.ly v
          (sub_nn n.y-not-below)

      second : (r : Constraint) → (r ≡ floor_y floors) ⊎ Memᴰ r rules → Keeps r v
      second r (inl e) = subst (λ s. Keeps s v) (sym e) on-y
      second r (inr i) = k r i

      first : (r : Constraint) → (r ≡ floor_x floors) ⊎ Memᴰ r (floor_y floors ∷ rules) → Keeps r v
      first r (inl e) = subst (λ s. Keeps s v) (sym e) on-x
      first r (inr i) = second r (Memᴰ.cases_cons i)

-- ---- lawful directions

pub lawful_in_words :
    (floors : Floors) (rules : List Constraint) (f : Functional) (d : Ray) →
    T (lawful (system floors rules) f d) →
    LawfulDirection rules f d
lawful_in_words floors rules f d t =
    record {
      dx-not-negative =
          nn_by (R ∷ []) (λ d. d.dx ≐ ⊝ (con (negsuc 0) ⊗ d.dx ⊕ con (pos 0) ⊗ d.dy)) refl d
          (neg_nn (recedes _ (Memᴰ.head refl)));
      dy-not-negative =
          nn_by (R ∷ []) (λ d. d.dy ≐ ⊝ (con (pos 0) ⊗ d.dx ⊕ con (negsuc 0) ⊗ d.dy)) refl d
          (neg_nn (recedes _ (Memᴰ.tail (Memᴰ.head refl))));
      never_leaves = λ r i. recedes r (Memᴰ.tail (Memᴰ.tail i));
      gains = lawful-gains (system floors rules) f d t;
    }
  where
    recedes : (r : Constraint) → Memᴰ r (system floors rules) → rise r d ≤ᶻ pos 0
    recedes = lawful-recedes (system floors rules) f d t
