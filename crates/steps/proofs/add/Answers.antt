-- `steps::add` meets its contract: 18 first, then the rule's own cause, else one rule more.
use mathlib.Core.Path.{sym, subst}
use Rattle.std.proofs.Common.{Option}
use Rattle.answers.specs.declared.Cause.{Cause}
use Rattle.sessions.specs.Sessions.{IsSession}
use Rattle.sessions.specs.Checking.{AddingChecked}
use Rattle.sessions.proofs.Kept.{longer-session}
use Rattle.sessions.proofs.Led.{adds-full, adds-turned, adds-taken}
use Rattle.steps.proofs.add.Goals as goal

pub returns-then-n-ge64 : goal.returns-then-n-ge64
returns-then-n-ge64 c = adds-full c.args.session c.args.rule c.refused.result c.if-n-ge64.true c.refused.ensures

pub returns-in-Some : goal.returns-in-Some
returns-in-Some c =
    let a = c.args in
    let checked = subst (λ (k : Option Cause). AddingChecked a.session a.rule k) c.in-Some.is c.cause_of_adding.ensures in
    adds-turned a.session a.rule c.refused-in-Some.result c.if-n-ge64.false _ checked c.refused-in-Some.ensures

pub taken-requires : goal.taken-requires
taken-requires c =
    let checked = c.cause_of_adding.ensures in
    subst IsSession (sym c.longer.ensures)
    (longer-session c.args.session c.requires c.args.rule c.if-n-ge64.false (checked.lawful c.in_default.is)
    (checked.new c.in_default.is))

pub returns : goal.returns
returns c =
    let a = c.args in
    let checked = subst (λ (k : Option Cause). AddingChecked a.session a.rule k) c.in_default.is c.cause_of_adding.ensures in
    adds-taken a.session a.rule c.taken.result c.if-n-ge64.false checked c.longer.ensures c.taken.ensures
