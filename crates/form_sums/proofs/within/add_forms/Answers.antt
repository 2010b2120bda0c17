-- `form_sums::within::add_forms` meets its contract. Each number is that of the two, read back from its bits.
use Rattle.forms.proofs.Values.{form-is, add_is}
use Rattle.form_sums.proofs.within.add_forms.Goals as goal

pub returns : goal.returns
returns c =
    let pre = c.requires in
    form-is
    (add_is pre.left.a pre.right.a c.add.ensures)
    (add_is pre.left.b pre.right.b c.add-2.ensures)
    (add_is pre.left.c pre.right.c c.add-3.ensures)
