-- `session_lines::steps::added` meets its contract: five numbers and no more.
use mathlib.Core.Path.{sym, ◌∙◌}
use Rattle.session_lines.proofs.Taken.{rule-read, rule-other}
use Rattle.session_lines.proofs.steps.added.Goals as goal

pub returns-then-is_empty : goal.returns-then-is_empty
returns-then-is_empty c =
    rule-read c.args.text.now
    c.field-kind.ensures c.field-a.ensures
    c.field-b.ensures c.field-c.ensures c.field-label.ensures
    (sym c.is_empty.ensures ∙ c.if-is_empty.true) c.ruled.ensures

pub returns-else-is_empty : goal.returns-else-is_empty
returns-else-is_empty c =
    rule-other c.args.text.now
    c.field-kind.ensures c.field-a.ensures
    c.field-b.ensures c.field-c.ensures c.field-label.ensures
    (sym c.is_empty.ensures ∙ c.if-is_empty.false)
