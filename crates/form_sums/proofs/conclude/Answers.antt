-- `form_sums::conclude` meets its contract. Two sides make the rule, and a flaw goes through.
use mathlib.Core.Path.{refl}
use Rattle.std.proofs.lemmas.Result.{err_from_is_err_and}
use Rattle.forms.proofs.Values.{concluded}
use Rattle.form_sums.proofs.conclude.Goals as goal

pub returns : goal.returns
returns g c = concluded c.paired.ensures c.args.sense c.in_ok-f.was c.finished.ensures

pub returns-in_err-f : goal.returns-in_err-f
returns-in_err-f g c =
    let p = err_from_is_err_and c.from_residual.result c.from_residual.ensures.1 in
    rw (p.1, p.2) (concluded c.paired.ensures c.args.sense c.in_err-f.was refl)
