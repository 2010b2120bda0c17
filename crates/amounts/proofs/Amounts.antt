-- `amount` on its two ways: the rule and the point are within their ranges, and the slack is brought to lowest terms; or one of them is
-- not.
use mathlib.Core.Path.{◌≡◌, sym, ◌∙◌, ap}
use mathlib.Core.Bool.{Bool, true, false, cond, ◌&&◌}
use Prim.Native.Nat.{◌^◌, ◌<◌}
use lib.IntN.{ℤ, pos}
use lib.Signed.{mag}
use Rattle.ints.proofs.Bits.{read}
use Rattle.fraction.proofs.Quotients.{unread}
use Rattle.lp.specs.declared.Constraint.{Constraint}
use Rattle.lp.specs.declared.Point.{Point}
use Rattle.lp.specs.declared.Amount.{Amount}
use Rattle.lp.specs.Program.{slack}
use Rattle.lp.specs.Slack.{amount, lowest, slack_of}
use Rattle.lp.specs.Range.{SmallConstraint}
use Rattle.model.specs.Bounds.{SmallPoint}
use Rattle.amounts.specs.Tests.{rule_in_range, point_in_range}
use Rattle.amounts.specs.Amounts.{amount_of}
use Rattle.amounts.proofs.Sizes.{within-unread}
use Rattle.amounts.proofs.Tests.{both, rule-small, point-small}

module _ (r : Constraint) (v : Point) {a b : Bool} (ea : a ≡ rule_in_range r) (eb : b ≡ point_in_range v) where
  pub amount-tests : (a && b) ≡ true → SmallConstraint r × SmallPoint v
  amount-tests e = let t = both a b e in (rule-small (sym ea ∙ t.0), point-small (sym eb ∙ t.1))

  amount-told : {s : Bool} → (a && b) ≡ s → cond s (slack_of r v) (amount (pos 0) (pos 0)) ≡ amount_of r v
  amount-told e = ap (λ s. cond s (slack_of r v) (amount (pos 0) (pos 0))) (sym e ∙ (λ i. ea i && eb i))

  pub amount-out : (a && b) ≡ false → amount (pos 0) (pos 0) ≡ amount_of r v
  amount-out e = amount-told e

  pub amount_in :
      (a && b) ≡ true →
      {z : ℤ} →
      mag z < 2 ^ 63 →
      z ≡ slack r v →
      {x : Amount} →
      x ≡ lowest (read z) (read v.d) →
      x ≡ amount_of r v
  amount_in e {z} h ez ex =
      let k = (amount-tests e).1 in
      ex ∙ (λ i. lowest ((unread {z = z} h ∙ ez) i) (within-unread k.d_small tt i)) ∙ amount-told e
