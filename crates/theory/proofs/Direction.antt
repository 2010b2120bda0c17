-- An order of points as a set of upward directions. `Up d` says that going along d is no loss; a point is at most another if the
-- direction between them is up. What follows needs only that `Up` is closed under sums and factors and that nothing but 0 is up both
-- ways: the lexicographic orders of functionals (Lexicographic.antt) are one instance.
use mathlib.Core.Path.{◌≡◌, refl, ◌∙◌, ap₂, subst}
use mathlib.Core.List.{List, [], ◌∷◌}
use lib.IntN.{ℤ, pos, neg_ℤ, ◌+ℤ◌, ◌*ℤ◌}
use Rattle.ints.specs.Order.{◌≤ᶻ◌, ◌<ᶻ◌}
use Rattle.ints.proofs.Ring.{◌⊕◌, ◌⊗◌, ⊝◌, ◌≐◌, con}
use Rattle.ints.proofs.Order.{antisymmetric, nn_add, nn_neg, neg_nn}
use Rattle.lp.specs.declared.Constraint.{Constraint}
use Rattle.lp.specs.declared.Functional.{Functional}
use Rattle.lp.specs.declared.Point.{Point}
use Rattle.lp.specs.declared.Ray.{Ray}
use Rattle.lp.specs.Program.{ray, along, between, Feasible}
use Rattle.theory.proofs.Solver.{equal, nn_by, F, P, R, betweenᵖ}

-- ---- rays as vectors

abbrev pub plus : Ray → Ray → Ray
plus d e = ray (d.dx +ℤ e.dx) (d.dy +ℤ e.dy)

abbrev pub times : ℤ → Ray → Ray
times k d = ray (k *ℤ d.dx) (k *ℤ d.dy)

abbrev pub opposite : Ray → Ray
opposite d = ray (neg_ℤ d.dx) (neg_ℤ d.dy)

pub ray_path : {d e : Ray} → d.dx ≡ e.dx → d.dy ≡ e.dy → d ≡ e
ray_path p q = λ i. record { dx = p i; dy = q i }

pub record Null (d : Ray) : Type 0 where
  pub no_dx : d.dx ≡ pos 0
  pub no_dy : d.dy ≡ pos 0

-- a ray of the quadrant whose coordinates sum to 0 or less is 0
pub null_of_size : (d : Ray) → pos 0 ≤ᶻ d.dx → pos 0 ≤ᶻ d.dy → d.dx +ℤ d.dy ≤ᶻ pos 0 → Null d
null_of_size d hx hy z =
    record {
      no_dx = antisymmetric (nn_neg (nn_by (R ∷ []) (λ d. ⊝ d.dx ≐ ⊝ (d.dx ⊕ d.dy) ⊕ d.dy) refl d (nn_add (neg_nn z) hy))) hx;
      no_dy = antisymmetric (nn_neg (nn_by (R ∷ []) (λ d. ⊝ d.dy ≐ ⊝ (d.dx ⊕ d.dy) ⊕ d.dx) refl d (nn_add (neg_nn z) hx))) hy;
    }

-- nothing is gained along 0
pub along-null : (f : Functional) (d : Ray) → Null d → along f d ≡ pos 0
along-null f d n =
    ap₂ (λ x y. f.p *ℤ x +ℤ f.q *ℤ y) n.no_dx n.no_dy
    ∙ equal (F ∷ []) (λ f. f.p ⊗ con (pos 0) ⊕ f.q ⊗ con (pos 0) ≐ con (pos 0)) refl f

-- ---- the order

pub record Upward (Up : Ray → Type 0) : Type 0 where
  pub add : (d e : Ray) → Up d → Up e → Up (plus d e)
  pub scale : (k : ℤ) (d : Ray) → pos 0 ≤ᶻ k → Up d → Up (times k d)
  pub cancel : (k : ℤ) (d : Ray) → pos 0 <ᶻ k → Up (times k d) → Up d
  pub antisymmetric : (d : Ray) → Up d → Up (opposite d) → Null d

-- v is at most w
abbrev pub AtMost : (Ray → Type 0) → Point → Point → Type 0
AtMost Up v w = Up (between v w)

-- no feasible point is above v, which may be a ray: a point with denominator 0
abbrev pub Greatest : (Ray → Type 0) → List Constraint → Point → Type 0
Greatest Up S v = (w : Point) → Feasible S w → AtMost Up w v

module _ (Up : Ray → Type 0) (O : Upward Up) where
  pub at-most_trans :
      (v w z : Point) →
      pos 0 ≤ᶻ v.d →
      pos 0 <ᶻ w.d →
      pos 0 ≤ᶻ z.d →
      AtMost Up v w →
      AtMost Up w z →
      AtMost Up v z
  at-most_trans v w z hv hw hz p q =
      O.cancel w.d (between v z) hw
      (subst Up (ray_path through-x through-y)
      (O.add (times z.d (between v w)) (times v.d (between w z)) (O.scale z.d (between v w) hz p)
      (O.scale v.d (between w z) hv q)))
    where
      through-x : z.d *ℤ (between v w).dx +ℤ v.d *ℤ (between w z).dx ≡ w.d *ℤ (between v z).dx
      through-x =
          equal (P ∷ P ∷ P ∷ []) (λ v w z. z.d ⊗ (betweenᵖ v w).dx ⊕ v.d ⊗ (betweenᵖ w z).dx ≐ w.d ⊗ (betweenᵖ v z).dx) refl v w z

      through-y : z.d *ℤ (between v w).dy +ℤ v.d *ℤ (between w z).dy ≡ w.d *ℤ (between v z).dy
      through-y =
          equal (P ∷ P ∷ P ∷ []) (λ v w z. z.d ⊗ (betweenᵖ v w).dy ⊕ v.d ⊗ (betweenᵖ w z).dy ≐ w.d ⊗ (betweenᵖ v z).dy) refl v w z

  -- two points at most each other are the same fractions
  pub at-most-both : (v w : Point) → AtMost Up v w → AtMost Up w v → Null (between v w)
  at-most-both v w p q = O.antisymmetric (between v w) p (subst Up (ray_path swap-x swap-y) q)
    where
      swap-x : (between w v).dx ≡ neg_ℤ (between v w).dx
      swap-x = equal (P ∷ P ∷ []) (λ v w. (betweenᵖ w v).dx ≐ ⊝ (betweenᵖ v w).dx) refl v w

      swap-y : (between w v).dy ≡ neg_ℤ (between v w).dy
      swap-y = equal (P ∷ P ∷ []) (λ v w. (betweenᵖ w v).dy ≐ ⊝ (betweenᵖ v w).dy) refl v w

  -- what is greatest stays so in a system with more constraints
  pub greatest_shrinks :
      (S S' : List Constraint) (v : Point) →
      ((w : Point) → Feasible S' w → Feasible S w) →
      Greatest Up S v →
      Greatest Up S' v
  greatest_shrinks S S' v less g w h = g w (less w h)
