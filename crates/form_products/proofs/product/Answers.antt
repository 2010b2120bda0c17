-- `form_products::product` meets its contract. Two forms are joined, and a flaw goes through.
use Rattle.std.proofs.lemmas.Result.{err_from_is_err_and}
use Rattle.forms.specs.Value.{multiplied, product}
use Rattle.forms.proofs.Values.{combined, refused}
use Rattle.form_products.proofs.product.Goals as goal

pub returns : goal.returns
unfolding product
returns c = combined c.paired.ensures multiplied c.in_ok-f.was c.multiplied.ensures

pub returns-in_err-f : goal.returns-in_err-f
unfolding product
returns-in_err-f c =
    let p = err_from_is_err_and c.from_residual.result c.from_residual.ensures.1 in
    rw (p.1, p.2) (combined c.paired.ensures multiplied c.in_err-f.was refused)
