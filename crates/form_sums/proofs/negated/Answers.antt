-- `form_sums::negated` meets its contract. A form is taken from the form of 0, and a flaw goes through.
use mathlib.Core.Path.{sym, ap, ◌∙◌}
use Rattle.std.specs.Prelude.{Ok}
use Rattle.std.proofs.lemmas.Result.{err_from_is_err_and}
use Rattle.ints.proofs.Machine.{within-numeral}
use Rattle.forms.specs.Value.{negated}
use Rattle.forms.proofs.Values.{small-form, negated-small}
use Rattle.form_sums.proofs.negated.Goals as goal

pub sub_forms-requires : goal.sub_forms-requires
sub_forms-requires c =
    record {
      left = record { a = within-numeral tt; b = within-numeral tt; c = within-numeral tt };
      right = small-form c.held.ensures.small c.in_ok-f.was;
    }

pub returns : goal.returns
unfolding negated
returns c =
    record {
      same = rw (sym c.held.ensures.same ∙ c.in_ok-f.was) (ap Ok c.sub_forms.ensures);
      small = negated-small (small-form c.held.ensures.small c.in_ok-f.was) c.sub_forms.ensures;
    }

pub returns-in_err-f : goal.returns-in_err-f
unfolding negated
returns-in_err-f c =
    let p = err_from_is_err_and c.from_residual.result c.from_residual.ensures.1 in
    rw (p.1, p.2) (record { same = rw (sym c.held.ensures.same ∙ c.in_err-f.was); small = tt })
