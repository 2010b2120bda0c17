-- `form_products::within::multiplied` meets its contract. The tests say which of the two is a constant.
use mathlib.Core.Path.{sym, ◌∙◌}
use Rattle.forms.specs.Value.{multiplied}
use Rattle.forms.proofs.Values.{constant-is, same-value}
use Rattle.form_products.proofs.within.multiplied.Goals as goal
use Rattle.form_products.proofs.within.multiplied.Goals.{then-bounded, else-bounded}

pub returns-then-bounded-2 : goal.returns-then-bounded-2
unfolding multiplied
returns-then-bounded-2 c =
    let f = constant-is c.requires.left c.bounded.ensures in
    elim c.if-bounded.branch [
      | then-bounded w ↦ same-value (sym (rw (sym f ∙ w.if-bounded.true))) c.scaled.ensures
      | else-bounded w ↦
          let g = constant-is c.requires.right w.bounded-else-bounded.ensures in
          same-value (sym (rw (sym f ∙ w.if-bounded.false, sym g ∙ sym w.value-is ∙ c.if-bounded-2.true))) c.scaled.ensures
    ]

pub returns-else-bounded-2 : goal.returns-else-bounded-2
unfolding multiplied
returns-else-bounded-2 c =
    let f = constant-is c.requires.left c.bounded.ensures in
    elim c.if-bounded.branch [
      | then-bounded w ↦ let no : _ = sym w.value-is ∙ c.if-bounded-2.false in cc
      | else-bounded w ↦
          let g = constant-is c.requires.right w.bounded-else-bounded.ensures in
          record {
            same = rw (sym f ∙ w.if-bounded.false, sym g ∙ sym w.value-is ∙ c.if-bounded-2.false);
            small = tt;
          }
    ]
