-- The line of a constraint h, walked in a direction u: l is h or h turned round, and u is (b, −a) of l. On it a constraint k with det k l
-- above 0 is met going along u, at `meet k l`, whose denominator is the rise of k along u.
use mathlib.Core.Path.{◌≡◌, refl, sym, ◌∙◌, ap, subst}
use mathlib.Core.List.{[], ◌∷◌}
use mathlib.Core.Bool.{Bool, true, false}
use lib.IntN.{ℤ, pos, neg_ℤ, ◌+ℤ◌, ◌*ℤ◌, +ℤ_idr, zero-*ℤ}
use Rattle.ints.specs.Order.{◌≤ᶻ◌, ◌<ᶻ◌}
use Rattle.ints.proofs.Ring.{◌⊕◌, ◌⊗◌, ⊝◌, ◌≐◌, con}
use Rattle.ints.proofs.Order.{nn_add, nn_mul, nn_zero, nn_cancel, pos_nn, neg_nn, neg_pos}
use Rattle.lp.specs.declared.Constraint.{Constraint}
use Rattle.lp.specs.declared.Point.{Point}
use Rattle.lp.specs.declared.Ray.{Ray}
use Rattle.lp.specs.Program.{slack, Keeps, between}
use Rattle.lp.specs.Outcome.{det, meet}
use Rattle.model.specs.Scan.{reversed, facing, direction}
use Rattle.theory.proofs.Solver.{equal, nn_by, C, P, Constraintᵖ, slackᵖ, detᵖ, meetᵖ, betweenᵖ}
use Rattle.theory.proofs.Direction.{Upward, AtMost, ray_path}

abbrev pub reversedᵖ : Constraintᵖ → Constraintᵖ
reversedᵖ h = record { a = ⊝ h.a; b = ⊝ h.b; c = ⊝ h.c }

reversed-slack : (h : Constraint) (z : Point) → slack (reversed h) z ≡ neg_ℤ (slack h z)
reversed-slack = equal (C ∷ P ∷ []) (λ h z. slackᵖ (reversedᵖ h) z ≐ ⊝ slackᵖ h z) refl

pub on_line : (side : Bool) (h : Constraint) (z : Point) → slack h z ≡ pos 0 → slack (facing side h) z ≡ pos 0
on_line true h z e = e
on_line false h z e = reversed-slack h z ∙ ap neg_ℤ e

pub off-line :
    (side : Bool) (h : Constraint) (z : Point) →
    slack (facing side h) z ≡ pos 0 →
    slack h z ≡ pos 0
off-line true h z e = e
off-line false h z e = equal (C ∷ P ∷ []) (λ h z. slackᵖ h z ≐ ⊝ slackᵖ (reversedᵖ h) z) refl h z ∙ ap neg_ℤ e

-- ---- the meeting point

pub meet-on-first : (k l : Constraint) → slack k (meet k l) ≡ pos 0
meet-on-first = equal (C ∷ C ∷ []) (λ k l. slackᵖ k (meetᵖ k l) ≐ con (pos 0)) refl

pub meet-on-second : (k l : Constraint) → slack l (meet k l) ≡ pos 0
meet-on-second = equal (C ∷ C ∷ []) (λ k l. slackᵖ l (meetᵖ k l) ≐ con (pos 0)) refl

-- the slack of m where k and l meet, weighed by Cramer's rule from the slacks at any point
pub cramer :
    (m k l : Constraint) (z : Point) →
    slack m (meet k l) *ℤ z.d ≡ det k l *ℤ slack m z +ℤ det l m *ℤ slack k z +ℤ det m k *ℤ slack l z
cramer =
    equal (C ∷ C ∷ C ∷ P ∷ [])
    (λ m k l z. slackᵖ m (meetᵖ k l) ⊗ z.d ≐ detᵖ k l ⊗ slackᵖ m z ⊕ detᵖ l m ⊗ slackᵖ k z ⊕ detᵖ m k ⊗ slackᵖ l z) refl

-- a point on the line that keeps k is not beyond the meeting with k
pub before-meeting :
    (Up : Ray → Type 0) →
    Upward Up →
    (k l : Constraint) (z : Point) →
    Up (direction l) →
    slack l z ≡ pos 0 →
    Keeps k z →
    AtMost Up z (meet k l)
before-meeting Up O k l z up on kept =
    subst Up (ray_path (sym along-x) (sym along-y)) (O.scale (slack k z) (direction l) kept up)
  where
    drop : (t s : ℤ) → t +ℤ slack l z *ℤ s ≡ t
    drop t s = ap (λ y. t +ℤ y *ℤ s) on ∙ ap (λ y. t +ℤ y) (zero-*ℤ s) ∙ +ℤ_idr t

    along-x : (between z (meet k l)).dx ≡ slack k z *ℤ l.b
    along-x =
        equal (C ∷ C ∷ P ∷ []) (λ k l z. (betweenᵖ z (meetᵖ k l)).dx ≐ slackᵖ k z ⊗ l.b ⊕ slackᵖ l z ⊗ ⊝ k.b) refl k l z
        ∙ drop (slack k z *ℤ l.b) (neg_ℤ k.b)

    along-y : (between z (meet k l)).dy ≡ slack k z *ℤ neg_ℤ l.a
    along-y =
        equal (C ∷ C ∷ P ∷ []) (λ k l z. (betweenᵖ z (meetᵖ k l)).dy ≐ slackᵖ k z ⊗ ⊝ l.a ⊕ slackᵖ l z ⊗ k.a) refl k l z
        ∙ drop (slack k z *ℤ neg_ℤ l.a) k.a

-- a constraint that is not met along the direction, and is kept by some point before the meeting with k, is kept there
pub kept-at-meeting :
    (m k l : Constraint) (z : Point) →
    pos 0 <ᶻ z.d →
    slack l z ≡ pos 0 →
    pos 0 <ᶻ det k l →
    det m l ≤ᶻ pos 0 →
    Keeps k z →
    Keeps m z →
    Keeps m (meet k l)
kept-at-meeting m k l z proper on crosses away keeps-k keeps-m =
    nn_cancel proper
    (nn_by (C ∷ C ∷ C ∷ P ∷ [])
    (λ m k l z. z.d ⊗ slackᵖ m (meetᵖ k l) ≐ detᵖ k l ⊗ slackᵖ m z ⊕ ⊝ detᵖ m l ⊗ slackᵖ k z ⊕ slackᵖ l z ⊗ detᵖ m k) refl m k l z
    (nn_add (nn_add (nn_mul (pos_nn crosses) keeps-m) (nn_mul (neg_nn away) keeps-k))
    (nn_zero (ap (λ y. y *ℤ det m k) on ∙ zero-*ℤ (det m k)))))

-- going on to a nearer meeting point keeps what was kept among the constraints that are met along the direction
pub nearer_keeps :
    (m k j l : Constraint) →
    pos 0 <ᶻ det k l →
    pos 0 <ᶻ det j l →
    pos 0 <ᶻ det m l →
    Keeps m (meet k l) →
    slack j (meet k l) <ᶻ pos 0 →
    Keeps m (meet j l)
nearer_keeps m k j l crosses-k crosses-j crosses-m kept broken =
    nn_cancel crosses-k
    (nn_by (C ∷ C ∷ C ∷ C ∷ [])
    (λ m k j l. detᵖ k l ⊗ slackᵖ m (meetᵖ j l) ≐ detᵖ j l ⊗ slackᵖ m (meetᵖ k l) ⊕ ⊝ slackᵖ j (meetᵖ k l) ⊗ detᵖ m l) refl m k j l
    (nn_add (nn_mul (pos_nn crosses-j) kept) (nn_mul (pos_nn (neg_pos broken)) (pos_nn crosses-m))))
