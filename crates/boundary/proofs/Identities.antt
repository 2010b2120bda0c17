-- The identities behind the boundary, each shown once by the ring solver, and the signs of products that carry them.
--
-- The slack of h at the corner of p and q is the determinant of the three lines, so that it stays when they are turned round in a circle
-- and changes its sign when two are exchanged. `turn D p q` is the one with D in front.
use mathlib.Core.Path.{◌≡◌, refl, ◌∙◌, ap}
use mathlib.Core.List.{[], ◌∷◌}
use lib.IntN.{ℤ, pos, neg_ℤ, ◌+ℤ◌, ◌*ℤ◌, zero-*ℤ}
use lib.Signed.{clash_ℤ}
use Rattle.ints.specs.Order.{◌≤ᶻ◌, ◌<ᶻ◌}
use Rattle.ints.proofs.Ring.{ring, Poly, ◌⊕◌, ◌⊗◌, ⊝◌, ◌≐◌, con}
use Rattle.ints.proofs.Laws.{mul_neg}
use Rattle.ints.proofs.Order.{Sign, sign, minus, nought, plus, pos-cancel, le_of_eq}
use Rattle.lp.specs.declared.Constraint.{Constraint}
use Rattle.lp.specs.declared.Point.{Point}
use Rattle.lp.specs.Program.{slack}
use Rattle.lp.specs.Outcome.{meet}
use Rattle.theory.proofs.Solver.{equal, C, P, Constraintᵖ, slackᵖ, meetᵖ}
use Rattle.boundary.specs.Size.{turn}

abbrev turnᵖ : Constraintᵖ → Constraintᵖ → Constraintᵖ → Poly
turnᵖ D r s = slackᵖ D (meetᵖ r s)

-- ---- the determinant of three lines

pub exchanged : (h p q : Constraint) → slack h (meet q p) ≡ neg_ℤ (slack h (meet p q))
exchanged = equal (C ∷ C ∷ C ∷ []) (λ h p q. slackᵖ h (meetᵖ q p) ≐ ⊝ slackᵖ h (meetᵖ p q)) refl

-- at the corner of t and p the slack of q is, but for its sign, that of p at the corner of t and q
pub exchanged-first : (t p q : Constraint) → slack p (meet t q) ≡ neg_ℤ (slack q (meet t p))
exchanged-first = equal (C ∷ C ∷ C ∷ []) (λ t p q. slackᵖ p (meetᵖ t q) ≐ ⊝ slackᵖ q (meetᵖ t p)) refl

pub turn-self : (D p : Constraint) → turn D p p ≡ pos 0
turn-self = equal (C ∷ C ∷ []) (λ D p. turnᵖ D p p ≐ con (pos 0)) refl

-- ---- two identities of degree two in determinants

-- a constraint as a sum of two others and the size, weighed by turns
pub by-corner :
    (D h p q : Constraint) (v : Point) →
    turn D p q *ℤ slack h v ≡ slack h (meet p q) *ℤ slack D v +ℤ turn D h q *ℤ slack p v +ℤ turn D p h *ℤ slack q v
by-corner =
    equal (C ∷ C ∷ C ∷ C ∷ P ∷ [])
    (λ D h p q v. turnᵖ D p q ⊗ slackᵖ h v ≐ slackᵖ h (meetᵖ p q) ⊗ slackᵖ D v ⊕ turnᵖ D h q ⊗ slackᵖ p v ⊕ turnᵖ D p h ⊗ slackᵖ q v) refl

-- along the edge of q, from its corner with p to its corner with r, where h is met
pub along-edge :
    (h m p q r : Constraint) →
    slack r (meet p q) *ℤ slack m (meet h q)
    ≡ slack h (meet q r) *ℤ slack m (meet p q) +ℤ neg_ℤ (slack h (meet p q)) *ℤ slack m (meet q r)
along-edge =
    equal (C ∷ C ∷ C ∷ C ∷ C ∷ [])
    (λ h m p q r. slackᵖ r (meetᵖ p q) ⊗ slackᵖ m (meetᵖ h q)
    ≐ slackᵖ h (meetᵖ q r) ⊗ slackᵖ m (meetᵖ p q) ⊕ ⊝ slackᵖ h (meetᵖ p q) ⊗ slackᵖ m (meetᵖ q r)) refl

-- the same, seen from the other side of h
pub along-edge-back :
    (h m p q r : Constraint) →
    slack r (meet p q) *ℤ slack m (meet q h)
    ≡ neg_ℤ (slack h (meet q r)) *ℤ slack m (meet p q) +ℤ slack h (meet p q) *ℤ slack m (meet q r)
along-edge-back h m p q r =
    ap (λ z. slack r (meet p q) *ℤ z) (exchanged m h q)
    ∙ mul_neg (slack r (meet p q)) (slack m (meet h q))
    ∙ ap neg_ℤ (along-edge h m p q r)
    ∙ ring 4 (λ a b c e. ⊝ (a ⊗ b ⊕ (⊝ c) ⊗ e) ≐ (⊝ a) ⊗ b ⊕ c ⊗ e) refl (slack h (meet q r)) (slack m (meet p q)) (slack h (meet p q))
    (slack m (meet q r))

-- turns among four lines
pub four-turns :
    (D h p q r : Constraint) →
    turn D h q *ℤ turn D p r ≡ turn D h p *ℤ turn D q r +ℤ turn D h r *ℤ turn D p q
four-turns =
    equal (C ∷ C ∷ C ∷ C ∷ C ∷ []) (λ D h p q r. turnᵖ D h q ⊗ turnᵖ D p r ≐ turnᵖ D h p ⊗ turnᵖ D q r ⊕ turnᵖ D h r ⊗ turnᵖ D p q) refl

-- ---- signs of products

-- of a product above 0, a factor that is not negative is above 0, and so is the other
pub factor-pos : (a b : ℤ) → pos 0 ≤ᶻ a → pos 0 <ᶻ a *ℤ b → pos 0 <ᶻ a
factor-pos a b h k = go (sign a)
  where
    go : Sign a → pos 0 <ᶻ a
    go (minus n) = clash_ℤ n h
    go (nought e) = clash_ℤ k (le_of_eq (ap (λ z. z *ℤ b) e ∙ zero-*ℤ b))
    go (plus p) = p

pub other-pos : (a b : ℤ) → pos 0 ≤ᶻ a → pos 0 <ᶻ a *ℤ b → pos 0 <ᶻ b
other-pos a b h k = pos-cancel (factor-pos a b h k) k
