-- `slips::pass::turned` meets its contract.
use mathlib.Core.Path.{sym, ◌∙◌, ap}
use mathlib.Core.Bool.{true, false}
use Rattle.slips.specs.Pass.{placed_of}
use Rattle.slips.proofs.pass.turned.Goals as goal

pub placed-requires : goal.placed-requires
placed-requires c = c.requires.placing

pub returns-then-tight : goal.returns-then-tight
returns-then-tight c =
    let s = c.args in
    c.placed.ensures
    ∙ sym (ap (λ b. elim b [ true ↦ placed_of s.f s.s s.h | false ↦ s.h ]) (sym c.tight.ensures ∙ c.if-tight.true))

pub returns-else-tight : goal.returns-else-tight
returns-else-tight c =
    let s = c.args in
    sym (ap (λ b. elim b [ true ↦ placed_of s.f s.s s.h | false ↦ s.h ]) (sym c.tight.ensures ∙ c.if-tight.false))
