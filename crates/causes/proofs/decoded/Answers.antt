-- `causes::decoded` meets its contract: each way out is one case of `decoded_with`, in the order of the table.
use mathlib.Core.Path.{sym, ◌∙◌}
use Rattle.records.proofs.Checks.{kind-first, slope-next, bound-last, sound}
use Rattle.causes.proofs.decoded.Goals as goal

pub returns-then-kind : goal.returns-then-kind
returns-then-kind c =
    kind-first c.args.clear c.args.rule
    c.args.next
    (sym c.bad_kind-kind.ensures ∙ c.if-kind.true)

pub returns-then-slope : goal.returns-then-slope
returns-then-slope c =
    slope-next c.args.clear c.args.rule
    c.args.next
    (sym c.bad_kind-kind.ensures ∙ c.if-kind.false)
    (sym c.bad_slope-slope.ensures ∙ c.if-slope.true)

pub returns-then-bound : goal.returns-then-bound
returns-then-bound c =
    bound-last c.args.clear
    c.args.rule c.args.next
    (sym c.bad_kind-kind.ensures ∙ c.if-kind.false)
    (sym c.bad_slope-slope.ensures ∙ c.if-slope.false)
    (sym c.bad_bound-bound.ensures ∙ c.if-bound.true)

pub returns : goal.returns
returns c =
    sound c.args.clear c.args.rule
    c.args.next
    (sym c.bad_kind-kind.ensures ∙ c.if-kind.false)
    (sym c.bad_slope-slope.ensures ∙ c.if-slope.false)
    (sym c.bad_bound-bound.ensures ∙ c.if-bound.false)
