-- The ring solver of `ints` over the data of a linear program: identities are written with constraints, points, rays and functionals for
-- variables, `equal (C ∷ C ∷ P ∷ []) (λ r s v. left ≐ right) refl r s v`, and `nn-by`, `pos-by`, `clash-by` carry signs along them.
use mathlib.Core.Path.{◌≡◌, sym, subst}
use mathlib.Core.List.{List, [], ◌∷◌}
use Prim.Native.Nat.{ℕ, zero, suc}
use lib.IntN.{ℤ, pos}
use lib.Signed.{clash_ℤ}
use Rattle.ints.specs.Order.{◌≤ᶻ◌, ◌<ᶻ◌}
use Rattle.ints.proofs.Ring.{Poly, var, con, ◌⊕◌, ◌⊖◌, ◌⊗◌, Sides, eval, normal, ring-sound}
use Rattle.ints.proofs.Order.{le_of_eq}
use Rattle.lp.specs.declared.Constraint.{Constraint}
use Rattle.lp.specs.declared.Functional.{Functional}
use Rattle.lp.specs.declared.Point.{Point}
use Rattle.lp.specs.declared.Ray.{Ray}

-- ---- polynomials in the shape of the data, and what the definitions of `lp` are on them

pub record Constraintᵖ : Type 0 where
  pub a : Poly
  pub b : Poly
  pub c : Poly

pub record Functionalᵖ : Type 0 where
  pub p : Poly
  pub q : Poly

pub record Pointᵖ : Type 0 where
  pub x : Poly
  pub y : Poly
  pub d : Poly

pub record Rayᵖ : Type 0 where
  pub dx : Poly
  pub dy : Poly

abbrev pub slackᵖ : Constraintᵖ → Pointᵖ → Poly
slackᵖ r v = r.c ⊗ v.d ⊖ (r.a ⊗ v.x ⊕ r.b ⊗ v.y)

abbrev pub gainᵖ : Functionalᵖ → Pointᵖ → Poly
gainᵖ f v = f.p ⊗ v.x ⊕ f.q ⊗ v.y

abbrev pub alongᵖ : Functionalᵖ → Rayᵖ → Poly
alongᵖ f d = f.p ⊗ d.dx ⊕ f.q ⊗ d.dy

abbrev pub riseᵖ : Constraintᵖ → Rayᵖ → Poly
riseᵖ r d = r.a ⊗ d.dx ⊕ r.b ⊗ d.dy

abbrev pub crossᵖ : Rayᵖ → Rayᵖ → Poly
crossᵖ d e = d.dx ⊗ e.dy ⊖ d.dy ⊗ e.dx

abbrev pub detᵖ : Constraintᵖ → Constraintᵖ → Poly
detᵖ r s = r.a ⊗ s.b ⊖ s.a ⊗ r.b

abbrev pub meetᵖ : Constraintᵖ → Constraintᵖ → Pointᵖ
meetᵖ r s = record { x = r.c ⊗ s.b ⊖ s.c ⊗ r.b; y = r.a ⊗ s.c ⊖ s.a ⊗ r.c; d = detᵖ r s }

abbrev pub betweenᵖ : Pointᵖ → Pointᵖ → Rayᵖ
betweenᵖ v w = record { dx = w.x ⊗ v.d ⊖ v.x ⊗ w.d; dy = w.y ⊗ v.d ⊖ v.y ⊗ w.d }

-- ---- variables of each kind

-- Z a number, C a constraint, F a functional, P a point, R a ray
pub data Kind : Type 0 where
  Z C F P R : Kind

abbrev pub Value : Kind → Type 0
Value Z = ℤ
Value C = Constraint
Value F = Functional
Value P = Point
Value R = Ray

abbrev pub Shape : Kind → Type 0
Shape Z = Poly
Shape C = Constraintᵖ
Shape F = Functionalᵖ
Shape P = Pointᵖ
Shape R = Rayᵖ

-- after this many later variables
abbrev pub variable : (k : Kind) → ℕ → Shape k
variable Z n = var n
variable C n = record { a = var (suc (suc n)); b = var (suc n); c = var n }
variable F n = record { p = var (suc n); q = var n }
variable P n = record { x = var (suc (suc n)); y = var (suc n); d = var n }
variable R n = record { dx = var (suc n); dy = var n }

abbrev pub wider : Kind → ℕ → ℕ
wider Z n = suc n
wider C n = suc (suc (suc n))
wider F n = suc (suc n)
wider P n = suc (suc (suc n))
wider R n = suc (suc n)

abbrev pub width : List Kind → ℕ
width [] = zero
width (k ∷ ks) = wider k (width ks)

abbrev pub extend : (k : Kind) → Value k → List ℤ → List ℤ
extend Z z ρ = z ∷ ρ
extend C r ρ = r.c ∷ r.b ∷ r.a ∷ ρ
extend F f ρ = f.q ∷ f.p ∷ ρ
extend P v ρ = v.d ∷ v.y ∷ v.x ∷ ρ
extend R d ρ = d.dy ∷ d.dx ∷ ρ

abbrev pub Fun : List Kind → Type 0 → Type 0
Fun [] A = A
Fun (k ∷ ks) A = Shape k → Fun ks A

abbrev pub body : (A : Type 0) (ks : List Kind) → Fun ks A → A
body A [] f = f
body A (k ∷ ks) f = body A ks (f (variable k (width ks)))

abbrev pub ForAll : List Kind → (List ℤ → Type 0) → List ℤ → Type 0
ForAll [] Q ρ = Q ρ
ForAll (k ∷ ks) Q ρ = (x : Value k) → ForAll ks Q (extend k x ρ)

for_all : (ks : List Kind) (Q : List ℤ → Type 0) → ((ρ : List ℤ) → Q ρ) → (ρ : List ℤ) → ForAll ks Q ρ
for_all [] Q h ρ = h ρ
for_all (k ∷ ks) Q h ρ = λ x. for_all ks Q h (extend k x ρ)

-- ---- its use

module _ (ks : List Kind) (f : Fun ks Sides) where
  abbrev sides : Sides
  sides = body Sides ks f

  pub equal : normal sides.left ≡ normal sides.right → ForAll ks (λ ρ. eval ρ sides.left ≡ eval ρ sides.right) []
  equal e =
      for_all ks (λ ρ. eval ρ sides.left ≡ eval ρ sides.right) (λ ρ. ring-sound ρ sides.left sides.right e) []

  -- the left side is not negative since the right one is not
  pub nn_by :
      normal sides.left ≡ normal sides.right →
      ForAll ks (λ ρ. pos 0 ≤ᶻ eval ρ sides.right → pos 0 ≤ᶻ eval ρ sides.left) []
  nn_by e =
      for_all ks (λ ρ. pos 0 ≤ᶻ eval ρ sides.right → pos 0 ≤ᶻ eval ρ sides.left)
      (λ ρ h. subst (λ z. pos 0 ≤ᶻ z) (sym (ring-sound ρ sides.left sides.right e)) h) []

  pub pos-by :
      normal sides.left ≡ normal sides.right →
      ForAll ks (λ ρ. pos 0 <ᶻ eval ρ sides.right → pos 0 <ᶻ eval ρ sides.left) []
  pos-by e =
      for_all ks (λ ρ. pos 0 <ᶻ eval ρ sides.right → pos 0 <ᶻ eval ρ sides.left)
      (λ ρ h. subst (λ z. pos 0 <ᶻ z) (sym (ring-sound ρ sides.left sides.right e)) h) []

-- a sum that is identically 0 is not positive
module _ (ks : List Kind) (f : Fun ks Poly) where
  pub clash-by : normal (body Poly ks f) ≡ [] → ForAll ks (λ ρ. pos 0 <ᶻ eval ρ (body Poly ks f) → ⊥) []
  clash-by e =
      for_all ks (λ ρ. pos 0 <ᶻ eval ρ (body Poly ks f) → ⊥)
      (λ ρ h. clash_ℤ h (le_of_eq (ring-sound ρ (body Poly ks f) (con (pos 0)) e))) []
