-- `objectives::cause` meets its contract: 16, then 11, then none.
use native.Mathlib.Omega.{arith}
use mathlib.Core.Path.{sym, ◌∙◌}
use Rattle.objectives.proofs.Sound.{few-objectives}
use Rattle.objectives.proofs.Turned.{cause-sixteen, cause-eleven, cause-none}
use Rattle.objectives.proofs.cause.Goals as goal

pub returns-then-bad_objectives : goal.returns-then-bad_objectives
returns-then-bad_objectives c =
    let a = c.args in
    cause-sixteen a.objectives.now a.room (sym c.bad_objectives.ensures ∙ c.if-bad_objectives.true)

pub overflow_mul-objectives : goal.overflow_mul-objectives
overflow_mul-objectives c = omega (arith, few-objectives c.args.objectives.now (sym c.bad_objectives.ensures ∙ c.if-bad_objectives.false))

pub returns-then-room-objectives : goal.returns-then-room-objectives
returns-then-room-objectives c =
    let a = c.args in
    cause-eleven a.objectives.now a.room (sym c.bad_objectives.ensures ∙ c.if-bad_objectives.false) c.if-room-objectives.true

pub returns-else-room-objectives : goal.returns-else-room-objectives
returns-else-room-objectives c =
    let a = c.args in
    cause-none a.objectives.now a.room (sym c.bad_objectives.ensures ∙ c.if-bad_objectives.false) c.if-room-objectives.false
