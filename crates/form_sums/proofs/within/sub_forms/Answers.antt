-- `form_sums::within::sub_forms` meets its contract. Each number is that of the two, read back from its bits.
use Rattle.forms.proofs.Values.{form-is, sub_is}
use Rattle.form_sums.proofs.within.sub_forms.Goals as goal

pub returns : goal.returns
returns c =
    let pre = c.requires in
    form-is
    (sub_is pre.left.a pre.right.a c.sub.ensures)
    (sub_is pre.left.b pre.right.b c.sub-2.ensures)
    (sub_is pre.left.c pre.right.c c.sub-3.ensures)
