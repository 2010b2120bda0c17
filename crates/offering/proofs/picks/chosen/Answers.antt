-- `offering::picks::chosen` meets its contract: w if it goes before v.
use mathlib.Core.Path.{sym, ◌∙◌, ap}
use mathlib.Core.Bool.{true, false}
use Rattle.offering.proofs.picks.chosen.Goals as goal

pub returns-then-is_better : goal.returns-then-is_better
returns-then-is_better c =
    let a = c.args in
    ap (λ b. elim b [ true ↦ a.w | false ↦ a.v ]) (sym c.if-is_better.true ∙ c.is_better.ensures)

pub returns-else-is_better : goal.returns-else-is_better
returns-else-is_better c =
    let a = c.args in
    ap (λ b. elim b [ true ↦ a.w | false ↦ a.v ]) (sym c.if-is_better.false ∙ c.is_better.ensures)
