-- The steps of a session and what they hand back: the session, the refusal or none, and the answer of the session that is handed back. A
-- refused step hands back the session that it took; a refused start an empty one, objective and floors 0.
use Rattle.std.specs.Prelude.{◌≡◌, cond, ◌||◌, ℕ, ◌+◌, ◌-◌, eqb, ltb, set, replicate, ℤ, pos, Option, Some, None, is_none}
use Rattle.records.specs.declared.Rule.{Rule}
use Rattle.records.specs.Record.{is_least}
use Rattle.answers.specs.declared.Refusal.{Refusal}
use Rattle.answers.specs.Refusal.{refusal}
use Rattle.sessions.specs.declared.Session.{Session}
use Rattle.sessions.specs.declared.Step.{Step}
use Rattle.sessions.specs.Sessions.{no_rule, cause_of, label_held, IsSession, Shown}

-- ---- sessions

abbrev pub start_of : ℤ → ℤ → ℤ → ℤ → Session
start_of p q lx ly =
    record {
      rules = replicate 64 no_rule;
      n = 0;
      terms = record { objective = record { p = p; q = q }; floors = record { lx = lx; ly = ly } };
    }

abbrev pub longer_by : Session → Rule → Session
longer_by s r = record { rules = set s.rules s.n r; n = s.n + 1; terms = s.terms }

-- the place of the latest rule is blank again
abbrev pub shorter_by : Session → Session
shorter_by s = record { rules = set s.rules (s.n - 1) no_rule; n = s.n - 1; terms = s.terms }

-- ---- refusals

-- 8, 9 and 10 as in a book, then 12; or 0
abbrev pub adding_cause : Session → Rule → ℕ
adding_cause s r = cond (eqb (cause_of r) 0) (cond (label_held s r.label) 12 0) (cause_of r)

-- 18 is tested first; the others name the number of rules held plus one
abbrev pub adding_refusal : Session → Rule → Option Refusal
adding_refusal s r =
    cond (ltb s.n 64) (cond (eqb (adding_cause s r) 0) None (Some (refusal (adding_cause s r) (s.n + 1)))) (Some (refusal 18 0))

abbrev pub withdrawing : Session → Option Refusal
withdrawing s = cond (eqb s.n 0) (Some (refusal 19 0)) None

abbrev pub starting : ℤ → ℤ → Option Refusal
starting p q = cond (is_least p || is_least q) (Some (refusal 4 0)) None

-- ---- what a step hands back

-- the session that it leads to, with its answer
pub record Leads (s : Session) (f : Option Refusal) (x : Step) : Type 0 where
  pub session-is : x.session ≡ s
  pub refusal_is : x.refusal ≡ f
  pub shown : Shown x.session x.plan
  pub valid : IsSession x.session

abbrev pub Stays : Session → ℕ → ℕ → Step → Type 0
Stays s number at x = Leads s (Some (refusal number at)) x

-- the promise of `start`
abbrev pub Starts : ℤ → ℤ → ℤ → ℤ → Step → Type 0
Starts p q lx ly x =
    Leads (cond (is_least p || is_least q) (start_of (pos 0) (pos 0) (pos 0) (pos 0)) (start_of p q lx ly)) (starting p q) x

-- the promise of `add`
abbrev pub Adds : Session → Rule → Step → Type 0
Adds s r x = Leads (cond (is_none (adding_refusal s r)) (longer_by s r) s) (adding_refusal s r) x

-- the promise of `withdraw`
abbrev pub Withdraws : Session → Step → Type 0
Withdraws s x = Leads (cond (eqb s.n 0) s (shorter_by s)) (withdrawing s) x
