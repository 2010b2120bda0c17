-- The rules of a session laid out for the engine, as the private functions go about it.
use Rattle.std.specs.Prelude.{◌≡◌, List, [], ◌∷◌, ℕ, zero, suc, ◌+◌, ◌*◌, ◌<◌, ◌≤◌, length, get_or, set, replicate, ℤ}
use Rattle.records.specs.declared.Rule.{Rule}
use Rattle.records.specs.Planned.{planned_rule}
use Rattle.engine.specs.Entries.{put_entry}
use Rattle.sessions.specs.declared.Session.{Session}
use Rattle.sessions.specs.Sessions.{no_rule, IsSession}

-- i numbers from 1 up
abbrev pub count_from : ℕ → ℕ → List ℕ
count_from k zero = []
count_from k (suc n) = k ∷ count_from (suc k) n

abbrev pub positions : ℕ → List ℕ
positions n = count_from 1 n

-- so many places named, one after the other
abbrev pub named_to : ℕ → List ℕ
named_to zero = replicate 64 0
named_to (suc i) = set (named_to i) i (suc i)

pub record EntryRoom (l : List ℤ) (k : ℕ) : Type 0 where
  pub room : 3 * (k + 3) ≤ length l
  pub few : k < 64

-- the first i rules laid out
abbrev pub laid_from : List ℤ → List Rule → ℕ → List ℤ
laid_from l rules zero = l
laid_from l rules (suc i) = put_entry (laid_from l rules i) (i + 2) (planned_rule (get_or rules i no_rule))

pub record LaysRules (s : Session) (l : List ℤ) : Type 0 where
  pub session : IsSession s
  pub room : length l ≡ 198
