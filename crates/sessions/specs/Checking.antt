-- What the private function that checks a rule promises: the cause, and what it means that there is none.
use Rattle.std.specs.Prelude.{◌≡◌, false, Option, None}
use Rattle.answers.specs.declared.Cause.{Cause}
use Rattle.answers.specs.Cause.{numbered}
use Rattle.records.specs.declared.Rule.{Rule}
use Rattle.sessions.specs.declared.Session.{Session}
use Rattle.sessions.specs.Sessions.{label_held, Lawful}
use Rattle.sessions.specs.Steps.{adding_cause}

pub record AddingChecked (s : Session) (r : Rule) (k : Option Cause) : Type 0 where
  pub answer : numbered k ≡ adding_cause s r
  pub lawful : k ≡ None → Lawful r
  pub new : k ≡ None → label_held s r.label ≡ false
