-- `steps::check::cause_of_adding` meets its contract: 8, 9, 10, then 12. That the rule's fields fit their types is told of the argument
-- itself.
use mathlib.Core.Path.{sym, ◌∙◌}
use Rattle.sessions.proofs.Led.{rule-turned, label-turned, none-turned}
use Rattle.steps.proofs.check.cause_of_adding.Goals as goal

pub returns-in-Err : goal.returns-in-Err
returns-in-Err c = rule-turned c.args.session c.args.rule (sym c.decoded.ensures ∙ c.in-Err.is)

pub returns-then-label_held : goal.returns-then-label_held
returns-then-label_held c =
    label-turned c.args.session c.args.rule (sym c.decoded.ensures ∙ c.in_default.is) c.label_held.ensures c.if-label_held.true

pub returns : goal.returns
returns c =
    let told = c.well_formed.1.0.1.1 in
    none-turned c.args.session c.args.rule (sym c.decoded.ensures ∙ c.in_default.is)
    (record { sfits = told.1.0.1 }) (record { sfits = told.1.1.0.1 }) told.1.1.1.1.0.1
    c.label_held.ensures c.if-label_held.false
