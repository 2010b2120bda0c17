-- What a list of rules is planned as: document 01's answer. Everything but the witness is equated with a defined value; the witness is
-- any that proves the conflict. Each rule has a name, by which a witness speaks of it; in a single book that is the index of its record.
use Rattle.std.specs.Prelude.{◌≡◌, List, ℕ, ◌≤◌, ◌<◌, T, length, take, get_or}
use Rattle.lp.specs.declared.Constraint.{Constraint}
use Rattle.lp.specs.declared.Terms.{Terms}
use Rattle.lp.specs.declared.Certificate.{Certificate}
use Rattle.lp.specs.declared.Outcome.{Outcome}
use Rattle.lp.specs.declared.Outcome.TheVariants as outcome
use Rattle.lp.specs.Program.{system}
use Rattle.lp.specs.Outcome.{outcome}
use Rattle.lp.specs.Prefixes.{place, moves, opens}
use Rattle.lp.specs.Certificate.{named, entry_in, certifies, NothingSpare}
use Rattle.lp.specs.Document.{tie}
use Rattle.answers.specs.declared.Plan.{Plan}
use Rattle.engine.specs.declared.Solution.{Solution}
use Rattle.witness.specs.Witness.{nobody, coded, rising}

-- each rule has a name of its own, from 1 up
pub record Named (names : List ℕ) (rules : List Constraint) : Type 0 where
  pub count : length names ≡ length rules
  pub from_one : (i : ℕ) → i < length names → 1 ≤ get_or names i 0
  pub apart : (i j : ℕ) → i < j → j < length names → get_or names i 0 ≡ get_or names j 0 → ⊥

module _ (t : Terms) (names : List ℕ) (rules : List Constraint) where
  -- a witness of the first k rules: a valid certificate with nothing spare, its entries named and rising
  pub record Proves (k : ℕ) (w : Certificate) : Type 0 where
    pub certificate : Certificate
    pub valid : T (certifies (system t.floors (take k rules)) (named certificate))
    pub lean : NothingSpare (entry_in (system t.floors (take k rules))) (named certificate)
    pub same_entries : w ≡ rising (coded names certificate)

  -- an impossible list has a witness, any other none
  abbrev pub Witnessed : ℕ → Certificate → Outcome → Type 0
  Witnessed k w outcome.Infeasible = Proves k w
  Witnessed k w (outcome.Unbounded v d) = w ≡ nobody
  Witnessed k w (outcome.Optimal v) = w ≡ nobody

  -- document 01's answer
  pub record PlannedAs (p : Plan) : Type 0 where
    pub outcome_defined : p.outcome ≡ outcome tie t.floors t.objective rules
    pub moves_defined : p.moves ≡ moves tie t.floors t.objective rules
    pub open_defined : p.opened ≡ opens tie t.floors t.objective rules
    pub place_defined : p.place ≡ place tie t.floors t.objective rules
    pub witnessed : Witnessed p.place p.witness p.outcome

-- the plan of what a walk comes to, with its certificate's entries named
abbrev pub plan_of : List ℕ → Solution → Plan
plan_of names s =
    record {
      outcome = s.outcome;
      moves = s.moves;
      opened = s.opened;
      place = s.place;
      witness = rising (coded names s.certificate);
    }
