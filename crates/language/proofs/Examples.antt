-- The table's texts read as what stands beside them, and a tree's text and value: all computed by the definitions, the tree's without
-- the parser.
use mathlib.Core.Path.{◌≡◌, refl}
use mathlib.Core.List.{map, [], ◌∷◌}
use lib.IntN.{pos, neg_ℤ}
use Rattle.std.specs.Prelude.{Ok}
use Rattle.forms.specs.declared.Sense.TheVariants.{AtMost}
use Rattle.language.specs.Grammar as G
use Rattle.language.specs.Grammar.{number, rate_x, rate_y, minus, factor, times, term, less, at_most, spell, spell_side, spell_term, spell_factor, spell_relation, pad}
use Rattle.text.specs.Number.{value_from}
use Rattle.forms.specs.Value.{limited, numeral, constant, multiplied, negated, sum, difference, product, final, conclude}
use Rattle.language.specs.Value.{value_factor, value_term, value_side, value_rule}
use Rattle.scanning.specs.Bytes.{run, past}
use Rattle.language.specs.Parser.{answer, parse, got, relation_of, right_of, side_of, side_by, more_terms, term_by, more_factors, factor_by, lead, skip}
use Rattle.text.specs.Text.{text}
use Rattle.language.specs.Examples.{Example, examples}

pub texts_as_read : map (λ (e : Example). answer (text e.written)) examples ≡ map (λ (e : Example). e.reads) examples
unfolding answer parse relation_of right_of side_of side_by more_terms term_by more_factors factor_by lead skip run past limited value_from numeral constant multiplied negated sum difference product value_factor value_term value_side final conclude value_rule
texts_as_read = refl

-- The tree of -2*x - y -3<=4: the minus belongs to the 2, the product is a factor of the sum, and the first difference is taken first.
abbrev pub tree : G.Rule
tree = record {
  left =
      less (less (term (times (factor (minus 0 (number 0 (50 ∷ [])))) 0 (rate_x 0))) 1 (factor (rate_y 1))) 1
      (factor (number 0 (51 ∷ [])));
  gap = 0;
  relation = at_most;
  right = term (factor (number 0 (52 ∷ [])));
  end = 0;
}

pub tree_spells : spell tree ≡ text "-2*x - y -3<=4"
unfolding spell spell_side spell_term spell_factor spell_relation pad
tree_spells = refl

pub tree-value : value_rule tree ≡ Ok (record { sense = AtMost; a = neg_ℤ (pos 2); b = neg_ℤ (pos 1); c = pos 7 })
unfolding limited value_from numeral constant multiplied negated sum difference product value_factor value_term value_side final conclude value_rule
tree-value = refl

pub tree-read : parse (text "-2*x - y -3<=4") ≡ got tree []
unfolding parse relation_of right_of side_of side_by more_terms term_by more_factors factor_by lead skip run past
tree-read = refl
