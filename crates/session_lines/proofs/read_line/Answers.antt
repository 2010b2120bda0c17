-- `session_lines::read_line` meets its contract: the first word chooses the step.
use mathlib.Core.Path.{ap, ◌∙◌}
use lib.Pointwise.{pointwise}
use Rattle.std.proofs.Common.{nat_eq}
use Rattle.session_lines.specs.Lines.{start_in, typed_in, rule_in}
use Rattle.session_lines.proofs.Spelling.{start-as, add-as, rule-as, back-as}
use Rattle.session_lines.proofs.Choosing.{starts, adds, rules, goes_back, other}
use Rattle.session_lines.proofs.read_line.Goals as goal

pub returns-in-Some : goal.returns-in-Some
returns-in-Some c =
    let told = c.in-Some.ensures.cases in
    starts c.args.text.now (start-as c.args.text.now) told.0 (c.started.ensures ∙ ap start_in told.1)

pub returns-in-Some-strip_prefix : goal.returns-in-Some-strip_prefix
returns-in-Some-strip_prefix c =
    let told = c.in-Some-strip_prefix.ensures.cases in
    adds c.args.text.now (start-as c.args.text.now) c.in_default.ensures.cases (add-as c.args.text.now) told.0
    (c.typed.ensures ∙ ap typed_in told.1)

pub returns-in-Some-strip_prefix-2 : goal.returns-in-Some-strip_prefix-2
returns-in-Some-strip_prefix-2 c =
    let told = c.in-Some-strip_prefix-2.ensures.cases in
    rules c.args.text.now (start-as c.args.text.now) c.in_default.ensures.cases (add-as c.args.text.now)
    c.in_default-strip_prefix.ensures.cases (rule-as c.args.text.now) told.0 (c.added.ensures ∙ ap rule_in told.1)

pub returns-then-eq : goal.returns-then-eq
returns-then-eq c =
    goes_back c.args.text.now (start-as c.args.text.now) c.in_default.ensures.cases (add-as c.args.text.now)
    c.in_default-strip_prefix.ensures.cases (rule-as c.args.text.now) c.in_default-strip_prefix-2.ensures.cases
    (c.eq.ensures ∙ ap (pointwise nat_eq c.args.text.now) c.as_slice.ensures ∙ back-as c.args.text.now) c.if-eq.true

pub returns-else-eq : goal.returns-else-eq
returns-else-eq c =
    other c.args.text.now (start-as c.args.text.now) c.in_default.ensures.cases (add-as c.args.text.now)
    c.in_default-strip_prefix.ensures.cases (rule-as c.args.text.now) c.in_default-strip_prefix-2.ensures.cases
    (c.eq.ensures ∙ ap (pointwise nat_eq c.args.text.now) c.as_slice.ensures ∙ back-as c.args.text.now) c.if-eq.false
