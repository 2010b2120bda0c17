-- `typed_line::written::append_typed` meets its contract. Each arm of the match is given what it is for.
use mathlib.Core.Path.{ap, sym, ◌∙◌}
use native.Mathlib.Omega.{arith}
use Rattle.answers.specs.declared.Refusal.{Refusal}
use Rattle.text.specs.Number.{refused}
use Rattle.text.proofs.Adding.{fits, spelt, roomier}
use Rattle.typed_line.specs.Typed.{typed_fields}
use Rattle.typed_line.proofs.written.append_typed.Goals as goal

pub returns-in-Ok : goal.returns-in-Ok
unfolding typed_fields
returns-in-Ok c = spelt (ap typed_fields (sym c.in-Ok.is)) c.append_rule.ensures

pub returns-in-Err : goal.returns-in-Err
unfolding typed_fields
returns-in-Err c =
    spelt
    (ap (λ (r : Refusal). refused r.number r.at) c.refusal-refusal.ensures ∙ ap typed_fields (sym c.in-Err.is))
    (roomier (omega arith) (fits (omega arith) c.append_refused.ensures))
