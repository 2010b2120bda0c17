-- What the writer promises: for an accepted book of version 2 a slip that has its plan's outcome, with its pair and direction, and that
-- gets a yes; what it does not use is 0. Its entries, weights and scale are free, with document 02's facts as their property.
use Rattle.std.specs.Prelude.{◌≡◌, List, map, false, ℕ, ℤ, pos, nat_abs, Ok, Result, Err}
use Rattle.std.specs.Int.Signed.{lt_z}
use Rattle.lp.specs.declared.Constraint.{Constraint}
use Rattle.lp.specs.declared.Terms.{Terms}
use Rattle.lp.specs.declared.Point.{Point}
use Rattle.lp.specs.declared.Outcome.{Outcome}
use Rattle.lp.specs.declared.Outcome.TheVariants as outcome
use Rattle.lp.specs.Outcome.{outcome}
use Rattle.lp.specs.Certificate.{Weighted, NothingSpare}
use Rattle.lp.specs.Document.{tie}
use Rattle.records.specs.Layout.{v2}
use Rattle.book.specs.Reading.{Reading, refused, accepted, Entry, read_of, rules_of, records_of}
use Rattle.book.specs.Runs.{Few}
use Rattle.answers.specs.Refusal.{refusal}
use Rattle.answers.specs.declared.Refusal.{Refusal}
use Rattle.answers.specs.declared.Plan.{Plan}
use Rattle.planner.specs.Planning.{Answers}
use Rattle.slip.specs.declared.Weights.{Weights}
use Rattle.slip.specs.declared.Slip.{Slip}
use Rattle.slip.specs.declared.Verdict.TheVariants.{Yes}
use Rattle.slip.specs.Facts.{Share, shares, rule_at, verdict_of}
use Rattle.slip.specs.Runs.{Roomy, SmallPair}
use Rattle.slip.specs.Weights.{no_weights}
use Rattle.slips.specs.Weights.{best_weights}

-- ---- the weights of a best pair, from a book's bytes

-- room in the runs, and a pair within its range
pub record Lent (s records : List ℕ) (rules : List ℤ) (v : Point) : Type 0 where
  pub room : Roomy s records rules
  pub pair : SmallPair v

pub record FewAt (s : List ℕ) (n : ℕ) (v : Point) : Type 0 where
  pub few : Few v2 s n
  pub pair : SmallPair v

pub record BestOf (s : List ℕ) (v : Point) (w : Weights) : Type 0 where
  pub best : (t : Terms) (es : List Entry) → read_of v2 s ≡ accepted t es → w ≡ best_weights t v (records_of es) (rules_of es)

-- ---- what is not used is 0

pub record Tidy (w : Weights) : Type 0 where
  pub first-unused : lt_z (pos 0) w.count ≡ false → (w.first ≡ pos 0) × (w.first_weight ≡ pos 0)
  pub second-unused : lt_z (pos 1) w.count ≡ false → (w.second ≡ pos 0) × (w.second_weight ≡ pos 0)
  pub third-unused : lt_z (pos 2) w.count ≡ false → (w.third ≡ pos 0) × (w.third_weight ≡ pos 0)

abbrev pub TidyFor : Outcome → Weights → Type 0
TidyFor outcome.Infeasible w = (w.scale ≡ pos 0) × Tidy w
TidyFor (outcome.Unbounded v d) w = w ≡ no_weights (pos 0)
TidyFor (outcome.Optimal v) w = Tidy w

-- ---- nothing spare

-- an entry of a slip as one of a witness; the codes of a slip that gets a yes are not below 0
abbrev pub weighted_of : Share → Weighted
weighted_of s = record { entry = nat_abs s.code; weight = s.weight }

-- whichever of the slip's entries is given up, the others no longer clash, each looked up as the checker does
abbrev pub Lean : Terms → List ℕ → List Constraint → Weights → Type 0
Lean t names rules w = NothingSpare (λ c. rule_at t names rules (pos c)) (map weighted_of (shares w))

-- ---- the promise

-- of an accepted book: its plan's outcome, pair and direction, and a yes; an impossible one's entries have nothing spare
pub record Planned (t : Terms) (es : List Entry) (s : Slip) : Type 0 where
  pub outcome_defined : s.outcome ≡ outcome tie t.floors t.objective (rules_of es)
  pub checked : verdict_of (accepted t es) s ≡ Yes
  pub lean : s.outcome ≡ outcome.Infeasible → Lean t (records_of es) (rules_of es) s.weights
  pub unused : TidyFor s.outcome s.weights

-- the book's refusal, or the slip of its plan
abbrev pub Written : Type 0
Written = Result Slip Refusal

abbrev pub WrittenBy : Reading → Written → Type 0
WrittenBy (refused n r) w = w ≡ Err (refusal n r)
WrittenBy (accepted t es) (Err x) = ⊥
WrittenBy (accepted t es) (Ok s) = Planned t es s

-- the promise of `slip_of`
pub record Writes (s : List ℕ) (w : Written) : Type 0 where
  pub written : WrittenBy (read_of v2 s) w

-- what the slip of a plan is made from
abbrev pub Plans : List ℕ → Plan → Type 0
Plans s p = Answers v2 s (Ok p)

pub record Slips (s : List ℕ) (slip : Slip) : Type 0 where
  pub of_book : (t : Terms) (es : List Entry) → read_of v2 s ≡ accepted t es → Planned t es slip
