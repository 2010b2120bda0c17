-- Slack as an amount: its sign says whether a rule is kept, it is zero exactly on the rule's line, and it is in lowest terms. At a best
-- pair none is below zero. A rule multiplied by a positive whole number has its slack multiplied.
use mathlib.Core.Path.{◌≡◌, refl, sym, ◌∙◌, ap, subst}
use mathlib.Core.List.{List, Memᴰ}
use mathlib.Core.Logic.{◌⊎◌, ⊎_elim, ◌↔◌}
use Prim.Native.Nat.{◌<◌}
use lib.IntN.{ℤ, pos, nat_abs, ◌+ℤ◌, ◌-ℤ◌, ◌*ℤ◌}
use lib.Signed.{clash_ℤ}
use Rattle.ints.specs.Order.{◌≤ᶻ◌, ◌<ᶻ◌}
use Rattle.ints.specs.Gcd.{gcd2, Reduced2}
use Rattle.ints.proofs.Ring.{ring, con, ◌⊕◌, ◌⊖◌, ◌⊗◌, ◌≐◌}
use Rattle.ints.proofs.Order.{pos_nn, nn_mul, nn_cancel, zero-cancel, mul-cancel, le_or_lt}
use Rattle.ints.proofs.Gcd.{gcd-zero, gcd_comm, gcd-right, gcd-pos-right}
use Rattle.ints.proofs.Divides.{nn_nat_abs, nat_abs-pos, pos_of_lt, quot_pos}
use Rattle.ints.proofs.Reduced.{reduce2_first, reduce2_second, reduce2_reduced}
use Rattle.lp.specs.declared.Constraint.{Constraint}
use Rattle.lp.specs.declared.Functional.{Functional}
use Rattle.lp.specs.declared.Floors.{Floors}
use Rattle.lp.specs.declared.Tie.{Tie}
use Rattle.lp.specs.declared.Point.{Point}
use Rattle.lp.specs.declared.Amount.{Amount}
use Rattle.lp.specs.declared.Outcome.TheVariants as outcome
use Rattle.lp.specs.Program.{constraint, slack, Keeps}
use Rattle.lp.specs.Outcome as defined
use Rattle.lp.specs.Slack.{amount, lowest, slack_of}
use Rattle.theory.proofs.Ties.{GoodTie}
use Rattle.theory.proofs.Theorems.{optimum-best}

-- ---- a fraction in lowest terms

module _ (n d : ℤ) (h : pos 0 <ᶻ d) where
  some : 0 < gcd2 n d
  some = gcd-pos-right (nat_abs n) (nat_abs d) (nat_abs-pos h)

  divides : pos 0 <ᶻ pos (gcd2 n d)
  divides = pos_of_lt some

  pub lowest-proper : pos 0 <ᶻ (lowest n d).denominator
  lowest-proper = quot_pos h (gcd2 n d) some (gcd-right (nat_abs n) (nat_abs d))

  pub lowest-reduced : Reduced2 (lowest n d).numerator (lowest n d).denominator
  lowest-reduced = reduce2_reduced n d some

  -- the fraction is n/d
  pub lowest-value : (lowest n d).numerator *ℤ d ≡ n *ℤ (lowest n d).denominator
  lowest-value =
      ap (λ z. (lowest n d).numerator *ℤ z) (sym (reduce2_second n d))
      ∙ ring 3 (λ g n d. n ⊗ (g ⊗ d) ≐ (g ⊗ n) ⊗ d) refl (pos (gcd2 n d)) (lowest n d).numerator (lowest n d).denominator
      ∙ ap (λ z. z *ℤ (lowest n d).denominator) (reduce2_first n d)

  pub lowest_nn : (pos 0 ≤ᶻ (lowest n d).numerator) ↔ (pos 0 ≤ᶻ n)
  lowest_nn = (
    (λ k. subst (λ z. pos 0 ≤ᶻ z) (reduce2_first n d) (nn_mul (pos_nn divides) k)),
    (λ k. nn_cancel divides (subst (λ z. pos 0 ≤ᶻ z) (sym (reduce2_first n d)) k)),
  )

  pub lowest-zero : ((lowest n d).numerator ≡ pos 0) ↔ (n ≡ pos 0)
  lowest-zero = (
    (λ e. sym (reduce2_first n d) ∙ ap (λ z. pos (gcd2 n d) *ℤ z) e ∙ ring 1 (λ g. g ⊗ con (pos 0) ≐ con (pos 0)) refl (pos (gcd2 n d))),
    (λ e. zero-cancel divides (reduce2_first n d ∙ e)),
  )

  -- zero is 0/1
  pub zero-over-one : n ≡ pos 0 → lowest n d ≡ amount (pos 0) (pos 1)
  zero-over-one e = λ i. amount (none i) (one i)
    where
      none : (lowest n d).numerator ≡ pos 0
      none = lowest-zero.1 e

      whole : nat_abs (lowest n d).denominator ≡ 1
      whole =
          sym (gcd-zero (nat_abs (lowest n d).denominator))
          ∙ gcd_comm (nat_abs (lowest n d).denominator) 0
          ∙ ap (λ z. gcd2 z (lowest n d).denominator) (sym none)
          ∙ lowest-reduced

      one : (lowest n d).denominator ≡ pos 1
      one = sym (nn_nat_abs (pos_nn lowest-proper)) ∙ ap pos whole

-- ---- the slack of a point against a rule

module _ (r : Constraint) (v : Point) (h : pos 0 <ᶻ v.d) where
  pub slack-kept : (pos 0 ≤ᶻ (slack_of r v).numerator) ↔ Keeps r v
  slack-kept = lowest_nn (slack r v) v.d h

  -- below zero exactly when the rule is broken
  pub slack-broken : ((slack_of r v).numerator <ᶻ pos 0) ↔ (Keeps r v → ⊥)
  slack-broken = (
    (λ less k. clash_ℤ less (slack-kept.1 k)),
    (λ broken. ⊎_elim (λ k. absurd (broken (slack-kept.0 k))) (λ less. less) (le_or_lt (pos 0) (slack_of r v).numerator)),
  )

  -- zero, which is 0/1, exactly on the rule's line
  pub slack-tight : (slack_of r v ≡ amount (pos 0) (pos 1)) ↔ (r.a *ℤ v.x +ℤ r.b *ℤ v.y ≡ r.c *ℤ v.d)
  slack-tight = (
    (λ e. on ((lowest-zero (slack r v) v.d h).0 (ap (λ (z : Amount). z.numerator) e))),
    (λ e. zero-over-one (slack r v) v.d h (off e)),
  )
    where
      on : slack r v ≡ pos 0 → r.a *ℤ v.x +ℤ r.b *ℤ v.y ≡ r.c *ℤ v.d
      on e =
          ring 2 (λ left right. left ≐ right ⊖ (right ⊖ left)) refl (r.a *ℤ v.x +ℤ r.b *ℤ v.y) (r.c *ℤ v.d)
          ∙ ap (λ z. r.c *ℤ v.d -ℤ z) e
          ∙ ring 1 (λ right. right ⊖ con (pos 0) ≐ right) refl (r.c *ℤ v.d)

      off : r.a *ℤ v.x +ℤ r.b *ℤ v.y ≡ r.c *ℤ v.d → slack r v ≡ pos 0
      off e = ap (λ z. r.c *ℤ v.d -ℤ z) e ∙ ring 1 (λ right. right ⊖ right ≐ con (pos 0)) refl (r.c *ℤ v.d)

  pub slack-denominator : pos 0 <ᶻ (slack_of r v).denominator
  slack-denominator = lowest-proper (slack r v) v.d h

  pub slack-reduced : Reduced2 (slack_of r v).numerator (slack_of r v).denominator
  slack-reduced = lowest-reduced (slack r v) v.d h

  -- k times the rule has k times the slack
  pub slack-multiple :
      (k : ℤ) →
      pos 0 <ᶻ k →
      (slack_of (constraint (k *ℤ r.a) (k *ℤ r.b) (k *ℤ r.c)) v).numerator *ℤ (slack_of r v).denominator
      ≡ k *ℤ (slack_of r v).numerator *ℤ (slack_of (constraint (k *ℤ r.a) (k *ℤ r.b) (k *ℤ r.c)) v).denominator
  slack-multiple k p =
      mul-cancel h
      (ring 3 (λ d n e. d ⊗ (n ⊗ e) ≐ (n ⊗ d) ⊗ e) refl v.d more.numerator here.denominator
      ∙ ap (λ z. z *ℤ here.denominator) (lowest-value (slack multiple v) v.d h ∙ ap (λ z. z *ℤ more.denominator) grown)
      ∙ ring 4 (λ k s e f. ((k ⊗ s) ⊗ f) ⊗ e ≐ k ⊗ (s ⊗ e) ⊗ f) refl k (slack r v) here.denominator more.denominator
      ∙ ap (λ z. k *ℤ z *ℤ more.denominator) (sym (lowest-value (slack r v) v.d h))
      ∙ ring 4 (λ k n d f. k ⊗ (n ⊗ d) ⊗ f ≐ d ⊗ ((k ⊗ n) ⊗ f)) refl k here.numerator v.d more.denominator)
    where
      multiple : Constraint
      multiple = constraint (k *ℤ r.a) (k *ℤ r.b) (k *ℤ r.c)

      more : Amount
      more = slack_of multiple v

      here : Amount
      here = slack_of r v

      grown : slack multiple v ≡ k *ℤ slack r v
      grown =
          ring 7 (λ k a b c x y d. (k ⊗ c) ⊗ d ⊖ ((k ⊗ a) ⊗ x ⊕ (k ⊗ b) ⊗ y) ≐ k ⊗ (c ⊗ d ⊖ (a ⊗ x ⊕ b ⊗ y))) refl k r.a r.b r.c
          v.x v.y v.d

-- ---- a best pair

module _ (t : Tie) (good : GoodTie t) (floors : Floors) (f : Functional) (rules : List Constraint) (v : Point)
    (e : defined.outcome t floors f rules ≡ outcome.Optimal v) where
  pub best-slacks : (r : Constraint) → Memᴰ r rules → pos 0 ≤ᶻ (slack_of r v).numerator
  best-slacks r i =
      (slack-kept r v (optimum-best t good floors f rules v e).feasible.proper).1
      ((optimum-best t good floors f rules v e).feasible.kept r (Memᴰ.tail (Memᴰ.tail i)))
