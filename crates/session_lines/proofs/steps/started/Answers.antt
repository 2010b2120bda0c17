-- `session_lines::steps::started` meets its contract: four numbers and no more.
use mathlib.Core.Path.{sym, ◌∙◌}
use Rattle.session_lines.proofs.Taken.{start-read, start-other}
use Rattle.session_lines.proofs.steps.started.Goals as goal

pub returns-then-is_empty : goal.returns-then-is_empty
returns-then-is_empty c =
    start-read c.args.text.now c.field-p.ensures
    c.field-q.ensures c.field-lx.ensures c.field-ly.ensures (sym c.is_empty.ensures ∙ c.if-is_empty.true) c.begun.ensures

pub returns-else-is_empty : goal.returns-else-is_empty
returns-else-is_empty c =
    start-other c.args.text.now c.field-p.ensures
    c.field-q.ensures c.field-lx.ensures c.field-ly.ensures (sym c.is_empty.ensures ∙ c.if-is_empty.false)
