-- Ties that serve: the two functionals are independent, and the tie falls along every direction of the quadrant. The smaller total, then
-- the smaller x, is such.
use mathlib.Core.Path.{◌≡◌, refl, sym, ◌∙◌, ap, ap₂, subst}
use mathlib.Core.List.{[], ◌∷◌}
use mathlib.Core.Logic.{◌⊎◌, inl, inr}
use lib.IntN.{ℤ, pos, negsuc, neg_ℤ, ◌+ℤ◌, ◌-ℤ◌, ◌*ℤ◌, zero-*ℤ, neg_ℤ-neg_ℤ}
use lib.Signed.{clash_ℤ, lt_z_yes}
use Rattle.ints.specs.Order.{◌≤ᶻ◌, ◌<ᶻ◌}
use Rattle.ints.proofs.Laws.{neg_mul}
use Rattle.ints.proofs.Ring.{◌⊕◌, ◌⊖◌, ◌⊗◌, ⊝◌, ◌≐◌, con}
use Rattle.ints.proofs.Order.{Sign, minus, nought, plus, sign, pos-add_nn, nn_add_pos, nn_zero, neg_pos, pos_neg, le_or_lt}
use Rattle.ints.proofs.Order.{le_of_eq, zero-cancel}
use Rattle.lp.specs.declared.Functional.{Functional}
use Rattle.lp.specs.declared.Ray.{Ray}
use Rattle.lp.specs.declared.Tie.{Tie}
use Rattle.lp.specs.Program.{along}
use Rattle.lp.specs.Outcome.{tie_order, gain_order}
use Rattle.lp.specs.Document.{tie}
use Rattle.theory.proofs.Solver.{equal, F, R, alongᵖ}
use Rattle.theory.proofs.Direction.{Upward, Null, null_of_size, along-null, opposite}
use Rattle.theory.proofs.Lexicographic.{Up, lexicographic, along-opposite}

pub record GoodTie (t : Tie) : Type 0 where
  pub independent : t.first.p *ℤ t.second.q -ℤ t.second.p *ℤ t.first.q ≡ pos 0 → ⊥
  pub falls :
      (d : Ray) →
      pos 0 ≤ᶻ d.dx →
      pos 0 ≤ᶻ d.dy →
      (Null d → ⊥) →
      (along t.first d <ᶻ pos 0) ⊎ ((along t.first d ≡ pos 0) × (along t.second d <ᶻ pos 0))

-- a factor other than 0 is cancelled
no_factor : (k z : ℤ) → (k ≡ pos 0 → ⊥) → k *ℤ z ≡ pos 0 → z ≡ pos 0
no_factor k z other e = go (sign k)
  where
    go : Sign k → z ≡ pos 0
    go (minus n) = zero-cancel (neg_pos n) (neg_mul k z ∙ ap neg_ℤ e)
    go (nought o) = absurd (other o)
    go (plus p) = zero-cancel p e

module _ (t : Tie) (good : GoodTie t) where
  tie-level : (d : Ray) → along t.first d ≡ pos 0 → along t.second d ≡ pos 0 → Null d
  tie-level d p q =
      record {
        no_dx =
            no_factor determinant d.dx good.independent
            (equal (F ∷ F ∷ R ∷ []) (λ f g d. (f.p ⊗ g.q ⊖ g.p ⊗ f.q) ⊗ d.dx
            ≐ alongᵖ f d ⊗ g.q ⊖ alongᵖ g d ⊗ f.q) refl t.first t.second d ∙ both t.second.q t.first.q);
        no_dy =
            no_factor determinant d.dy good.independent
            (equal (F ∷ F ∷ R ∷ []) (λ f g d. (f.p ⊗ g.q ⊖ g.p ⊗ f.q) ⊗ d.dy
            ≐ alongᵖ f d ⊗ ⊝ g.p ⊖ alongᵖ g d ⊗ ⊝ f.p) refl t.first t.second d ∙ both (neg_ℤ t.second.p) (neg_ℤ t.first.p));
      }
    where
      determinant : ℤ
      determinant = t.first.p *ℤ t.second.q -ℤ t.second.p *ℤ t.first.q

      both : (y z : ℤ) → along t.first d *ℤ y -ℤ along t.second d *ℤ z ≡ pos 0
      both y z = ap₂ (λ a b. a *ℤ y -ℤ b *ℤ z) p q ∙ ap₂ (λ a b. a -ℤ b) (zero-*ℤ y) (zero-*ℤ z)

  pub tie-upward : Upward (Up (tie_order t))
  tie-upward = lexicographic (tie_order t) (λ d l. tie-level d l.0 l.1.0)

  pub gain-upward : (f : Functional) → Upward (Up (gain_order f t))
  gain-upward f = lexicographic (gain_order f t) (λ d l. tie-level d l.1.0 l.1.1.0)

  negative-up : (f : Functional) (d : Ray) → along f d <ᶻ pos 0 → pos 0 <ᶻ along f (opposite d)
  negative-up f d h = subst (λ z. pos 0 <ᶻ z) (sym (along-opposite f d)) (neg_pos h)

  level-up : (f : Functional) (d : Ray) → along f d ≡ pos 0 → along f (opposite d) ≡ pos 0
  level-up f d e = along-opposite f d ∙ ap neg_ℤ e

  pub tie-falls : (d : Ray) → pos 0 ≤ᶻ d.dx → pos 0 ≤ᶻ d.dy → Up (tie_order t) (opposite d)
  tie-falls d hx hy = go (le_or_lt (d.dx +ℤ d.dy) (pos 0))
    where
      down : (along t.first d <ᶻ pos 0) ⊎ ((along t.first d ≡ pos 0) × (along t.second d <ᶻ pos 0)) → Up (tie_order t) (opposite d)
      down (inl h) = inl (negative-up t.first d h)
      down (inr h) = inr (level-up t.first d h.0, inl (negative-up t.second d h.1))

      null : d.dx +ℤ d.dy ≤ᶻ pos 0 → Null d
      null z = null_of_size d hx hy z

      go : (d.dx +ℤ d.dy ≤ᶻ pos 0) ⊎ (pos 0 <ᶻ d.dx +ℤ d.dy) → Up (tie_order t) (opposite d)
      go (inl z) =
          inr (
            level-up t.first d (along-null t.first d (null z)),
            inr
                (level-up t.second d (along-null t.second d (null z)), tt),
          )
      go (inr s) =
          down (good.falls d hx hy (λ n. clash_ℤ s (le_of_eq (ap₂ (λ x y. x +ℤ y) n.no_dx n.no_dy))))

  pub gain-falls :
      (f : Functional) (d : Ray) →
      pos 0 ≤ᶻ d.dx →
      pos 0 ≤ᶻ d.dy →
      along f d ≤ᶻ pos 0 →
      Up (gain_order f t) (opposite d)
  gain-falls f d hx hy h = go (sign (along f d))
    where
      go : Sign (along f d) → Up (gain_order f t) (opposite d)
      go (minus n) = inl (negative-up f d n)
      go (nought e) = inr (level-up f d e, tie-falls d hx hy)
      go (plus p) = clash_ℤ p h

-- ---- the tie of the certificate in force

-- a sum of two coordinates that are not negative and not both 0
not_null : (d : Ray) → pos 0 ≤ᶻ d.dx → pos 0 ≤ᶻ d.dy → (Null d → ⊥) → (pos 0 <ᶻ d.dx) ⊎ ((d.dx ≡ pos 0) × (pos 0 <ᶻ d.dy))
not_null d hx hy other = go (sign d.dx) (sign d.dy)
  where
    go : Sign d.dx → Sign d.dy → (pos 0 <ᶻ d.dx) ⊎ ((d.dx ≡ pos 0) × (pos 0 <ᶻ d.dy))
    go (minus n) s = clash_ℤ n hx
    go (plus p) s = inl p
    go (nought e) (minus n) = clash_ℤ n hy
    go (nought e) (nought e') = absurd (other (record { no_dx = e; no_dy = e' }))
    go (nought e) (plus p) = inr (e, p)

-- a functional that is below 0 along d, since its negation is positive
below : (f : Functional) (d : Ray) (z : ℤ) → along f d ≡ neg_ℤ z → pos 0 <ᶻ z → along f d <ᶻ pos 0
below f d z e h = subst (λ x. x <ᶻ pos 0) (sym e) (pos_neg (subst (λ x. pos 0 <ᶻ x) (sym (neg_ℤ-neg_ℤ z)) h))

pub tie_good : GoodTie tie
tie_good =
    record {
      independent = λ e. clash_ℤ {a = negsuc 0} {b = pos 0} (lt_z_yes tt) (le_of_eq (sym e));
      falls = λ d hx hy other. go d hy (not_null d hx hy other);
    }
  where
    least-total : (d : Ray) → along tie.first d ≡ neg_ℤ (d.dx +ℤ d.dy)
    least-total = equal (R ∷ []) (λ d. con (negsuc 0) ⊗ d.dx ⊕ con (negsuc 0) ⊗ d.dy ≐ ⊝ (d.dx ⊕ d.dy)) refl

    go :
        (d : Ray) →
        pos 0 ≤ᶻ d.dy →
        (pos 0 <ᶻ d.dx) ⊎ ((d.dx ≡ pos 0) × (pos 0 <ᶻ d.dy)) →
        (along tie.first d <ᶻ pos 0)
        ⊎ ((along tie.first d ≡ pos 0) × (along tie.second d <ᶻ pos 0))
    go d hy (inl p) = inl (below tie.first d (d.dx +ℤ d.dy) (least-total d) (pos-add_nn p hy))
    go d hy (inr (e, p)) = inl (below tie.first d (d.dx +ℤ d.dy) (least-total d) (nn_add_pos (nn_zero e) p))
