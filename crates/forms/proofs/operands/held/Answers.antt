-- `forms::operands::held` meets its contract. A form is tested, and a flaw goes through.
use mathlib.Core.Path.{sym, ap}
use Rattle.std.proofs.lemmas.Result.{err_from_is_err_and}
use Rattle.forms.specs.Value.{held}
use Rattle.forms.proofs.Values.{same-value, refused}
use Rattle.forms.proofs.operands.held.Goals as goal

pub returns : goal.returns
unfolding held
returns c = same-value (ap held (sym c.in_ok-v.was)) c.limited.ensures

pub returns-in_err-v : goal.returns-in_err-v
unfolding held
returns-in_err-v c =
    let p = err_from_is_err_and c.from_residual.result c.from_residual.ensures.1 in
    rw (p.1, p.2) (same-value (ap held (sym c.in_err-v.was)) refused)
