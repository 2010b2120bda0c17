-- `engine::carry::advance` meets its contract: one more rule enters the ring, and the walk takes its step.
use mathlib.Core.Path.{◌∙◌, ap}
use native.Mathlib.Omega.{arith}
use Rattle.model.specs.Step.{step}
use Rattle.engine.specs.Entries.{entries}
use Rattle.engine.proofs.Carried.{advance_inserting, advance-beside, advance-stepping, advance-done}
use Rattle.engine.proofs.carry.advance.Goals as goal

pub overflow_add-i : goal.overflow_add-i
overflow_add-i c = omega (arith, c.requires.few)

pub overflow_cast-i : goal.overflow_cast-i
overflow_cast-i c = omega (arith, c.requires.few)

pub insert-held-requires : goal.insert-held-requires
insert-held-requires c = advance_inserting c.requires

pub gap_of-gap-requires : goal.gap_of-gap-requires
gap_of-gap-requires c = advance-beside c.requires c.insert-held.ensures

pub step_at-walk-requires : goal.step_at-walk-requires
step_at-walk-requires c = advance-stepping c.requires c.insert-held.ensures c.tie.ensures c.gap_of-gap.ensures

pub returns : goal.returns
returns c =
    let a = c.args in
    advance-done c.requires c.insert-held.ensures
    (c.step_at-walk.ensures ∙ ap (λ t. step t a.objective (entries a.run.now 0 a.i) a.i a.h a.walk) c.tie.ensures)
