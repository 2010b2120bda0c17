-- `form_sums::within::finished` meets its contract. Two differences make up the written rule, whose numbers are tested.
use mathlib.Core.Path.{ap}
use Rattle.forms.specs.declared.Form.{Form}
use Rattle.forms.proofs.Values.{less-is, written_is, final-yes, final_no}
use Rattle.form_sums.proofs.within.finished.Goals as goal

pub returns-then-bounded : goal.returns-then-bounded
returns-then-bounded k c =
    let f = c.requires.left in
    let g = c.requires.right in
    final-yes
    (written_is c.args.sense
    (less-is f.a g.a (ap (λ (h : Form). h.a) c.sub_forms-over.ensures))
    (less-is f.b g.b (ap (λ (h : Form). h.b) c.sub_forms-over.ensures))
    (less-is g.c f.c (ap (λ (h : Form). h.c) c.sub_forms-under.ensures)))
    c.bounded.ensures
    c.if-bounded.true

pub returns-else-bounded : goal.returns-else-bounded
returns-else-bounded k c =
    let f = c.requires.left in
    let g = c.requires.right in
    final_no
    (written_is c.args.sense
    (less-is f.a g.a (ap (λ (h : Form). h.a) c.sub_forms-over.ensures))
    (less-is f.b g.b (ap (λ (h : Form). h.b) c.sub_forms-over.ensures))
    (less-is g.c f.c (ap (λ (h : Form). h.c) c.sub_forms-under.ensures)))
    c.bounded.ensures
    c.if-bounded.false
