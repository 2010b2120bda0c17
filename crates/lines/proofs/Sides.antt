-- The tests of ranges, and what follows for lawful constraints: nothing leaves 64 bits.
use mathlib.Core.Path.{◌≡◌, sym, ◌∙◌, ap, subst}
use mathlib.Core.Bool.{Bool, true, false, cond, ◌&&◌}
use lib.IntN.{ℤ, pos}
use Rattle.lp.specs.declared.Constraint.{Constraint}
use Rattle.lp.specs.declared.Point.{Point}
use Rattle.lp.specs.Program.{slack}
use Rattle.lp.specs.Outcome.{meet}
use Rattle.lp.specs.Range.{SmallConstraint}
use Rattle.amounts.specs.Tests.{rule_in_range}
use Rattle.exact.specs.Sizes.{Distance, Lines}
use Rattle.exact.proofs.Sizes.{at_corner}
use Rattle.amounts.proofs.Tests.{both, rule-small, rule-passes}
use Rattle.lines.specs.Sides.{side_of, Three}

module _ (m p q : Constraint) {r s t : Bool} (er : r ≡ rule_in_range m) (es : s ≡ rule_in_range p) (et : t ≡ rule_in_range q) where
  pub three : (r && s && t) ≡ true → Three m p q
  three e =
      let x = both (r && s) t e in
      let y = both r s x.0 in
      record {
        m-small = rule-small (sym er ∙ y.0);
        p-small = rule-small (sym es ∙ y.1);
        q-small = rule-small (sym et ∙ x.1);
      }

  tested : {b : Bool} → (r && s && t) ≡ b → b ≡ (rule_in_range m && rule_in_range p && rule_in_range q)
  tested e = sym e ∙ (λ i. er i && es i && et i)

  pub side_in : (z : ℤ) → z ≡ slack m (meet p q) → (r && s && t) ≡ true → z ≡ side_of m p q
  side_in z ez e = ez ∙ ap (λ b. cond b (slack m (meet p q)) (pos 0)) (tested e)

  pub side-out : (r && s && t) ≡ false → pos 0 ≡ side_of m p q
  side-out e = ap (λ b. cond b (slack m (meet p q)) (pos 0)) (tested e)

pub lines_of : {m p q : Constraint} → Three m p q → Lines p q
lines_of h = record { first = h.p-small; second = h.q-small }

-- the corner of two of them, at a third
pub distance_of :
    {m p q : Constraint} {v : Point} →
    SmallConstraint m →
    SmallConstraint p →
    SmallConstraint q →
    v ≡ meet p q →
    Distance m.a v.x m.b v.y m.c v.d
distance_of {m} h k l e =
    subst (λ w. Distance m.a w.x m.b w.y m.c w.d) (sym e) (at_corner (record { h-small = h; p-small = k; q-small = l }))

-- lawful constraints: the tests are the definitions'
pub side-lawful : (m p q : Constraint) → SmallConstraint m → SmallConstraint p → SmallConstraint q → side_of m p q ≡ slack m (meet p q)
side-lawful m p q h k l =
    ap (λ b. cond b (slack m (meet p q)) (pos 0)) (λ i. rule-passes h i && rule-passes k i && rule-passes l i)
