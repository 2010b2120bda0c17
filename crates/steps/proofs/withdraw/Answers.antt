-- `steps::withdraw` meets its contract: 19, or one rule less.
use mathlib.Core.Path.{sym, subst}
use native.Mathlib.Omega.{arith}
use Rattle.sessions.specs.Sessions.{IsSession}
use Rattle.sessions.proofs.Kept.{latest, shorter-session}
use Rattle.sessions.proofs.Led.{withdraws_none, withdraws_one}
use Rattle.steps.proofs.withdraw.Goals as goal

pub returns-then-session-eq0 : goal.returns-then-session-eq0
returns-then-session-eq0 c = withdraws_none c.args.session c.refused.result c.if-session-eq0.true c.refused.ensures

pub shorter-requires : goal.shorter-requires
shorter-requires c = let some = c.if-session-eq0.false in latest c.args.session c.requires (omega arith)

pub taken-requires : goal.taken-requires
taken-requires c =
    let some = c.if-session-eq0.false in
    subst IsSession (sym c.shorter.ensures) (shorter-session c.args.session c.requires (omega arith))

pub returns : goal.returns
returns c =
    withdraws_one c.args.session c.taken.result c.if-session-eq0.false c.shorter.ensures c.taken.ensures
