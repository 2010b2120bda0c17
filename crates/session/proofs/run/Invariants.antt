-- Every turn hands on a session.
use Rattle.sessions.specs.Sessions.{IsSession}
use Rattle.session.proofs.run.Given as goal

abbrev pub invariant-loop : goal.invariant-loop
invariant-loop l = IsSession l.held
