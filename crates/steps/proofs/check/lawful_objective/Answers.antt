-- `steps::check::lawful_objective` meets its contract.
use mathlib.Core.Path.{sym, ap, ◌∙◌}
use mathlib.Core.Bool.{not, ◌||◌}
use Rattle.records.specs.Record.{is_least}
use Rattle.sessions.proofs.Checks.{least-read}
use Rattle.steps.proofs.check.lawful_objective.Goals.{then-least, else-least}
use Rattle.steps.proofs.check.lawful_objective.Goals as goal

pub returns : goal.returns
returns c =
    let a = c.args in
    let p = sym (least-read a.p c.ranges.p c.least.ensures) in
    elim c.if-least.branch [
      | then-least w ↦ ap not (w.result-is ∙ w.if-least.true) ∙ sym (ap (λ b. not (b || is_least a.q)) (p ∙ w.if-least.true))
      | else-least w ↦
          ap not (w.result-is ∙ least-read a.q c.ranges.q w.least-else-least.ensures)
          ∙ sym (ap (λ b. not (b || is_least a.q)) (p ∙ w.if-least.false))
    ]
