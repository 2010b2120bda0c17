-- `form_sums::difference` meets its contract. Two forms are joined, and a flaw goes through.
use Rattle.std.proofs.lemmas.Result.{err_from_is_err_and}
use Rattle.forms.specs.Value.{limited, sub_forms, difference}
use Rattle.forms.proofs.Values.{combined, limited-form, refused}
use Rattle.form_sums.proofs.difference.Goals as goal

pub returns : goal.returns
unfolding difference
returns c =
    combined
    c.paired.ensures
    (λ f g. limited (sub_forms f g))
    c.in_ok-f.was
    (limited-form c.sub_forms.ensures c.limited.ensures)

pub returns-in_err-f : goal.returns-in_err-f
unfolding difference
returns-in_err-f c =
    let p = err_from_is_err_and c.from_residual.result c.from_residual.ensures.1 in
    rw (p.1, p.2) (combined c.paired.ensures (λ f g. limited (sub_forms f g)) c.in_err-f.was refused)
