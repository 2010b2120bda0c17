-- Every slip comes back from its numbers, and a run that is no slip's gets 17.
use mathlib.Core.Path.{◌≡◌, refl, sym, ap}
use mathlib.Core.List.{List}
use mathlib.Core.Bool.{false, cond}
use lib.IntN.{ℤ}
use Rattle.lp.specs.declared.Terms.{Terms}
use Rattle.lp.specs.declared.Outcome.{Outcome}
use Rattle.lp.specs.declared.Outcome.TheVariants as outcome
use Rattle.book.specs.Reading.{Entry, accepted}
use Rattle.answers.specs.Refusal.{refusal}
use Rattle.slip.specs.declared.Slip.{Slip}
use Rattle.slip.specs.declared.Verdict.TheVariants.{Refused}
use Rattle.slip.specs.Facts.{verdict_of}
use Rattle.slip_numbers.specs.Form.{outcome_in}
use Rattle.slip_numbers.specs.Form.{weights_in, out_of_range, is_slip, slip_of, numbers_of}

module _ (l : List ℤ) where
  pub no_slip : is_slip l ≡ false → out_of_range ≡ slip_of l
  no_slip e = sym (ap (λ b. cond b (record { outcome = outcome_in l; weights = weights_in l }) out_of_range) e)

  -- another length or outcome gets 17, after the book's own refusals
  pub other-refused : is_slip l ≡ false → (t : Terms) (es : List Entry) → verdict_of (accepted t es) (slip_of l) ≡ Refused (refusal 17 0)
  other-refused e t es = ap (verdict_of (accepted t es)) (sym (no_slip e))

-- every slip comes back from its numbers
pub numbers_back : (s : Slip) → slip_of (numbers_of s) ≡ s
numbers_back s = go s.outcome
  where
    go : (o : Outcome) → slip_of (numbers_of (record { outcome = o; weights = s.weights })) ≡ record { outcome = o; weights = s.weights }
    go outcome.Infeasible = refl
    go (outcome.Unbounded v d) = refl
    go (outcome.Optimal v) = refl
