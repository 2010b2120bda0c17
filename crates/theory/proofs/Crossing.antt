-- Convexity and the crossing point: v breaks h and w keeps it, so the segment between them crosses the line of h. The crossing point
-- keeps whatever both keep, and is not below w if w is not above v. v may be a ray (denominator 0).
use mathlib.Core.Path.{◌≡◌, refl, subst}
use mathlib.Core.List.{[], ◌∷◌}
use lib.IntN.{pos, neg_ℤ, ◌+ℤ◌, ◌*ℤ◌}
use Rattle.ints.specs.Order.{◌≤ᶻ◌, ◌<ᶻ◌}
use Rattle.ints.proofs.Ring.{◌⊕◌, ◌⊗◌, ⊝◌, ◌≐◌, con}
use Rattle.ints.proofs.Order.{nn_add, nn_mul, pos_nn, pos-mul, nn_add_pos, neg_pos}
use Rattle.lp.specs.declared.Constraint.{Constraint}
use Rattle.lp.specs.declared.Point.{Point}
use Rattle.lp.specs.declared.Ray.{Ray}
use Rattle.lp.specs.Program.{point, slack, Keeps, between}
use Rattle.theory.proofs.Solver.{equal, nn_by, C, P, Constraintᵖ, Pointᵖ, slackᵖ, betweenᵖ}
use Rattle.theory.proofs.Direction.{Upward, AtMost, ray_path}

-- where the segment from v to w meets the line of h
abbrev pub crossing : Constraint → Point → Point → Point
crossing h v w =
    point (slack h w *ℤ v.x +ℤ neg_ℤ (slack h v) *ℤ w.x)
    (slack h w *ℤ v.y +ℤ neg_ℤ (slack h v) *ℤ w.y)
    (slack h w *ℤ v.d +ℤ neg_ℤ (slack h v) *ℤ w.d)

abbrev crossingᵖ : Constraintᵖ → Pointᵖ → Pointᵖ → Pointᵖ
crossingᵖ h v w =
    record {
      x = slackᵖ h w ⊗ v.x ⊕ ⊝ slackᵖ h v ⊗ w.x;
      y = slackᵖ h w ⊗ v.y ⊕ ⊝ slackᵖ h v ⊗ w.y;
      d = slackᵖ h w ⊗ v.d
          ⊕ ⊝ slackᵖ h v ⊗ w.d;
    }

module _ (h : Constraint) (v w : Point) (broken : slack h v <ᶻ pos 0) (kept : Keeps h w) where
  pub crossing-proper : pos 0 ≤ᶻ v.d → pos 0 <ᶻ w.d → pos 0 <ᶻ (crossing h v w).d
  crossing-proper hv hw = nn_add_pos (nn_mul kept hv) (pos-mul (neg_pos broken) hw)

  pub crossing-keeps : (k : Constraint) → Keeps k v → Keeps k w → Keeps k (crossing h v w)
  crossing-keeps k kv kw =
      nn_by (C ∷ C ∷ P ∷ P ∷ []) (λ h k v w. slackᵖ k (crossingᵖ h v w) ≐ slackᵖ h w ⊗ slackᵖ k v ⊕ ⊝ slackᵖ h v ⊗ slackᵖ k w) refl h k v w
      (nn_add (nn_mul kept kv) (nn_mul (pos_nn (neg_pos broken)) kw))

  pub crossing_on : slack h (crossing h v w) ≡ pos 0
  crossing_on = equal (C ∷ P ∷ P ∷ []) (λ h v w. slackᵖ h (crossingᵖ h v w) ≐ con (pos 0)) refl h v w

  pub crossing-above : (Up : Ray → Type 0) → Upward Up → AtMost Up w v → AtMost Up w (crossing h v w)
  crossing-above Up O p = subst Up (ray_path along-x along-y) (O.scale (slack h w) (between w v) kept p)
    where
      along-x : slack h w *ℤ (between w v).dx ≡ (between w (crossing h v w)).dx
      along-x =
          equal (C ∷ P ∷ P ∷ []) (λ h v w. slackᵖ h w ⊗ (betweenᵖ w v).dx ≐ (betweenᵖ w (crossingᵖ h v w)).dx) refl h v w

      along-y : slack h w *ℤ (between w v).dy ≡ (between w (crossing h v w)).dy
      along-y =
          equal (C ∷ P ∷ P ∷ []) (λ h v w. slackᵖ h w ⊗ (betweenᵖ w v).dy ≐ (betweenᵖ w (crossingᵖ h v w)).dy) refl h v w
