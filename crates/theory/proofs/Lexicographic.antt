-- The lexicographic order of functionals as an upward order (Direction.antt), and that the test `above` of `lp` decides it.
use mathlib.Core.Path.{◌≡◌, refl, sym, ◌∙◌, ap, subst}
use mathlib.Core.List.{List, [], ◌∷◌}
use mathlib.Core.Bool.{Bool, true, false, not}
use mathlib.Core.Logic.{◌⊎◌, inl, inr}
use lib.Dec.{T}
use lib.IntN.{ℤ, pos, neg_ℤ, ◌+ℤ◌, ◌*ℤ◌, +ℤ_idl, *ℤ-zero, zero-*ℤ, neg_ℤ-neg_ℤ}
use lib.Signed.{lt_z, lt_z_yes, lt_z_no, clash_ℤ}
use Rattle.ints.specs.Order.{◌≤ᶻ◌, ◌<ᶻ◌}
use Rattle.ints.proofs.Ring.{◌⊕◌, ◌⊗◌, ⊝◌, ◌≐◌}
use Rattle.ints.proofs.Order.{Sign, minus, nought, plus, sign, pos_nn, pos-mul, pos-add_nn, nn_add_pos, pos-cancel, zero-cancel}
use Rattle.ints.proofs.Order.{antisymmetric, neg_pos, pos_neg, nn_zero, lt_le, le_of_eq}
use Rattle.lp.specs.declared.Functional.{Functional}
use Rattle.lp.specs.declared.Ray.{Ray}
use Rattle.lp.specs.Program.{along}
use Rattle.lp.specs.Outcome.{above}
use Rattle.theory.proofs.Solver.{equal, F, R, Z, alongᵖ}
use Rattle.theory.proofs.Direction as Direction
use Rattle.theory.proofs.Direction.{Upward, Null, along-null, times, opposite}

-- the first functional that is not 0 along d is positive, if there is one
abbrev pub Up : List Functional → Ray → Type 0
Up [] d = Unit {0}
Up (f ∷ fs) d = (pos 0 <ᶻ along f d) ⊎ ((along f d ≡ pos 0) × Up fs d)

-- every functional is 0 along d
abbrev pub Level : List Functional → Ray → Type 0
Level [] d = Unit {0}
Level (f ∷ fs) d = (along f d ≡ pos 0) × Level fs d

along-plus : (f : Functional) (d e : Ray) → along f (Direction.plus d e) ≡ along f d +ℤ along f e
along-plus =
    equal (F ∷ R ∷ R ∷ []) (λ f d e. f.p ⊗ (d.dx ⊕ e.dx) ⊕ f.q ⊗ (d.dy ⊕ e.dy) ≐ alongᵖ f d ⊕ alongᵖ f e) refl

pub along-times : (f : Functional) (k : ℤ) (d : Ray) → along f (times k d) ≡ k *ℤ along f d
along-times = equal (F ∷ Z ∷ R ∷ []) (λ f k d. f.p ⊗ (k ⊗ d.dx) ⊕ f.q ⊗ (k ⊗ d.dy) ≐ k ⊗ alongᵖ f d) refl

pub along-opposite : (f : Functional) (d : Ray) → along f (opposite d) ≡ neg_ℤ (along f d)
along-opposite = equal (F ∷ R ∷ []) (λ f d. f.p ⊗ ⊝ d.dx ⊕ f.q ⊗ ⊝ d.dy ≐ ⊝ alongᵖ f d) refl

positive : {y z : ℤ} → y ≡ z → pos 0 <ᶻ z → pos 0 <ᶻ y
positive e h = subst (λ x. pos 0 <ᶻ x) (sym e) h

up-add : (fs : List Functional) (d e : Ray) → Up fs d → Up fs e → Up fs (Direction.plus d e)
up-add [] d e p q = tt
up-add (f ∷ fs) d e (inl p) (inl q) = inl (positive (along-plus f d e) (pos-add_nn p (pos_nn q)))
up-add (f ∷ fs) d e (inl p) (inr q) = inl (positive (along-plus f d e) (pos-add_nn p (nn_zero q.0)))
up-add (f ∷ fs) d e (inr p) (inl q) = inl (positive (along-plus f d e) (nn_add_pos (nn_zero p.0) q))
up-add (f ∷ fs) d e (inr p) (inr q) =
    inr (along-plus f d e ∙ ap (λ x. x +ℤ along f e) p.0 ∙ +ℤ_idl (along f e) ∙ q.0, up-add fs d e p.1 q.1)

up-zero : (fs : List Functional) (k : ℤ) (d : Ray) → k ≡ pos 0 → Up fs (times k d)
up-zero [] k d e = tt
up-zero (f ∷ fs) k d e = inr (along-times f k d ∙ ap (λ x. x *ℤ along f d) e ∙ zero-*ℤ (along f d), up-zero fs k d e)

up-positive : (fs : List Functional) (k : ℤ) (d : Ray) → pos 0 <ᶻ k → Up fs d → Up fs (times k d)
up-positive [] k d h p = tt
up-positive (f ∷ fs) k d h (inl p) = inl (positive (along-times f k d) (pos-mul h p))
up-positive (f ∷ fs) k d h (inr p) = inr (along-times f k d ∙ ap (λ x. k *ℤ x) p.0 ∙ *ℤ-zero k, up-positive fs k d h p.1)

up-scale : (fs : List Functional) (k : ℤ) (d : Ray) → pos 0 ≤ᶻ k → Up fs d → Up fs (times k d)
up-scale fs k d h p = go (sign k)
  where
    go : Sign k → Up fs (times k d)
    go (minus n) = clash_ℤ n h
    go (nought e) = up-zero fs k d e
    go (plus q) = up-positive fs k d q p

up-cancel : (fs : List Functional) (k : ℤ) (d : Ray) → pos 0 <ᶻ k → Up fs (times k d) → Up fs d
up-cancel [] k d h p = tt
up-cancel (f ∷ fs) k d h (inl p) = inl (pos-cancel h (positive (sym (along-times f k d)) p))
up-cancel (f ∷ fs) k d h (inr p) = inr (zero-cancel h (sym (along-times f k d) ∙ p.0), up-cancel fs k d h p.1)

-- up both ways is level
up-both : (fs : List Functional) (d : Ray) → Up fs d → Up fs (opposite d) → Level fs d
up-both [] d p q = tt
up-both (f ∷ fs) d (inl p) (inl q) = clash_ℤ p (lt_le (pos_neg (positive (sym (along-opposite f d)) q)))
up-both (f ∷ fs) d (inl p) (inr q) =
    clash_ℤ p (le_of_eq (sym (neg_ℤ-neg_ℤ (along f d)) ∙ ap neg_ℤ (sym (along-opposite f d) ∙ q.0)))
up-both (f ∷ fs) d (inr p) (inl q) = clash_ℤ (pos_neg (positive (sym (along-opposite f d)) q)) (nn_zero p.0)
up-both (f ∷ fs) d (inr p) (inr q) = (p.0, up-both fs d p.1 q.1)

pub up-null : (fs : List Functional) (d : Ray) → Null d → Up fs d
up-null [] d n = tt
up-null (f ∷ fs) d n =
    inr (along-null f d n, up-null fs d n)

-- functionals that are all 0 along nothing but 0 make an order
pub lexicographic : (fs : List Functional) → ((d : Ray) → Level fs d → Null d) → Upward (Up fs)
lexicographic fs independent =
    record { add = up-add fs; scale = up-scale fs; cancel = up-cancel fs; antisymmetric = λ d p q. independent d (up-both fs d p q) }

-- ---- the test decides the order

-- a test of a sign, taken apart
abbrev signed : Bool → Bool → Bool → Bool
signed positive negative rest = elim positive [ true ↦ true | false ↦ elim negative [ true ↦ false | false ↦ rest ] ]

pub above-up : (fs : List Functional) (d : Ray) → T (above fs d) → Up fs d
above-up [] d t = absurd t
above-up (f ∷ fs) d t =
    go (lt_z (pos 0) (along f d)) (lt_z (along f d) (pos 0)) (λ u. lt_z_yes u) (λ u. lt_z_no u) (λ u. lt_z_no u) t (above-up fs d)
  where
    go :
        (p n : Bool) →
        (T p → pos 0 <ᶻ along f d) →
        (T (not p) → along f d ≤ᶻ pos 0) →
        (T (not n) → pos 0 ≤ᶻ along f d) →
        T (signed p n (above fs d)) →
        (T (above fs d) → Up fs d) →
        Up (f ∷ fs) d
    go true n y z w u up = inl (y tt)
    go false true y z w u up = absurd u
    go false false y z w u up = inr (antisymmetric (z tt) (w tt), up u)

pub not-above-up : (fs : List Functional) (d : Ray) → T (not (above fs d)) → Up fs (opposite d)
not-above-up [] d t = tt
not-above-up (f ∷ fs) d t =
    go (lt_z (pos 0) (along f d)) (lt_z (along f d) (pos 0)) (λ u. lt_z_no u) (λ u. lt_z_yes u) (λ u. lt_z_no u) t (not-above-up fs d)
  where
    go :
        (p n : Bool) →
        (T (not p) → along f d ≤ᶻ pos 0) →
        (T n → along f d <ᶻ pos 0) →
        (T (not n) → pos 0 ≤ᶻ along f d) →
        T (not (signed p n (above fs d))) →
        (T (not (above fs d)) → Up fs (opposite d)) →
        Up (f ∷ fs) (opposite d)
    go true n z y w u up = absurd u
    go false true z y w u up = inl (positive (along-opposite f d) (neg_pos (y tt)))
    go false false z y w u up = inr (along-opposite f d ∙ ap neg_ℤ (antisymmetric (z tt) (w tt)), up u)
