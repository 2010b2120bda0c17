-- `form_products::within::scaled` meets its contract. Each number is that of the product, read back from its bits.
use Rattle.forms.proofs.Values.{limited-form, form-is, cross-is, product_is}
use Rattle.form_products.proofs.within.scaled.Goals as goal

pub returns : goal.returns
returns c =
    let pre = c.requires in
    let f = pre.left in
    let g = pre.right in
    limited-form
    (form-is
    (cross-is f.a g.c f.c g.a c.cross.ensures)
    (cross-is f.b g.c f.c g.b c.cross-2.ensures)
    (product_is f.c g.c c.cross-3.ensures))
    c.limited.ensures
