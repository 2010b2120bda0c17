-- The value of a tree: the form a·x + b·y + c that it comes to, or the flaw, a product's or a size's, of the first number or operation.
-- Of a rule: the left side, then the right, then the final a, b and c. It rests on the trees (Grammar) and on the operations on values
-- (`forms`).
use Rattle.std.specs.Prelude.{pos, Ok}
use Rattle.text.specs.Number.{value_from}
use Rattle.forms.specs.declared.Sense.{Sense}
use Rattle.forms.specs.declared.Sense.TheVariants.{AtMost, AtLeast}
use Rattle.forms.specs.Value.{Value, Typed, form, numeral, negated, sum, difference, product, conclude}
use Rattle.language.specs.Grammar as G
use Rattle.language.specs.Grammar.{number, rate_x, rate_y, minus, group, factor, times, term, plus, less, at_most, at_least}

unfoldable mutual
  pub value_factor : G.Factor → Value
  value_factor (number i digits) = numeral (value_from 0 digits)
  value_factor (rate_x i) = Ok (form (pos 1) (pos 0) (pos 0))
  value_factor (rate_y i) = Ok (form (pos 0) (pos 1) (pos 0))
  value_factor (minus i f) = negated (value_factor f)
  value_factor (group i s j) = value_side s

  pub value_term : G.Term → Value
  value_term (factor f) = value_factor f
  value_term (times t i f) = product (value_term t) (value_factor f)

  pub value_side : G.Side → Value
  value_side (term t) = value_term t
  value_side (plus s i t) = sum (value_side s) (value_term t)
  value_side (less s i t) = difference (value_side s) (value_term t)

-- ---- rules

abbrev pub sense_of : G.Relation → Sense
sense_of at_most = AtMost
sense_of at_least = AtLeast

unfoldable pub value_rule : G.Rule → Typed
value_rule r = conclude (sense_of r.relation) (value_side r.left) (value_side r.right)
