-- What staff and tests see of the walk after a prefix of the chain: the book's refusal, or the start pair of the prefix, or none, and how
-- many of its rules broke the start pair before them. A prefix longer than the chain is the whole chain.
use Rattle.std.specs.Prelude.{◌≡◌, List, ℕ, take, Some, None, Result, Ok, Err}
use Rattle.lp.specs.declared.Constraint.{Constraint}
use Rattle.lp.specs.declared.Floors.{Floors}
use Rattle.lp.specs.Start.{Start, none, at, start_of, restarts}
use Rattle.lp.specs.Document.{tie}
use Rattle.records.specs.Layout.{Layout}
use Rattle.book.specs.Reading.{Reading, refused, accepted, read_of, rules_of}
use Rattle.answers.specs.declared.Refusal.{Refusal}
use Rattle.answers.specs.Refusal.{refusal}
use Rattle.planner.specs.declared.StartView.{StartView}

abbrev pub viewed : Start → ℕ → StartView
viewed none n = record { start = None; restarts = n }
viewed (at s) n = record { start = Some s; restarts = n }

-- of a list of rules
abbrev pub start_view : Floors → List Constraint → StartView
start_view floors rules = viewed (start_of tie floors rules) (restarts tie floors rules)

-- of a refused book
abbrev pub unseen : ℕ → ℕ → Result StartView Refusal
unseen n r = Err (refusal n r)

abbrev pub view_of : Reading → ℕ → Result StartView Refusal
view_of (refused n r) k = unseen n r
view_of (accepted t es) k = Ok (start_view t.floors (take k (rules_of es)))

-- the promise of `start_after`
pub record Views (L : Layout) (s : List ℕ) (k : ℕ) (v : Result StartView Refusal) : Type 0 where
  pub answer : v ≡ view_of (read_of L s) k
