-- One run of the planner over a book, as its private functions go about it: when the runs of numbers that a run is lent have room for the
-- book, what it then finds by the book's reading, and what the answer and the view make of that. Nothing here stands in a promise of a
-- function that can be called from outside.
use Rattle.std.specs.Prelude.{◌≡◌, Result, Ok, Err}
use Rattle.std.specs.Prelude.{List, ℕ, ◌+◌, ◌*◌, ◌≤◌, ◌<◌, length, take, get_or, ℤ}
use Rattle.lp.specs.declared.Outcome.{Outcome}
use Rattle.lp.specs.declared.Terms.{Terms}
use Rattle.lp.specs.Document.{tie}
use Rattle.records.specs.Layout.{Layout}
use Rattle.records.specs.Header.{header_fault, count_of}
use Rattle.book.specs.Reading.{Reading, refused, accepted, Entry, read_of, rules_of, records_of}
use Rattle.answers.specs.declared.Refusal.{Refusal}
use Rattle.answers.specs.Answer.{Answer}
use Rattle.answers.specs.Refusal.{refusal}
use Rattle.engine.specs.Solving.{solution_of}
use Rattle.model.specs.Step.{walk}
use Rattle.plans.specs.Planning.{plan_of}
use Rattle.running.specs.declared.Findings.{Findings}
use Rattle.planner.specs.declared.StartView.{StartView}
use Rattle.planner.specs.declared.told.Told.{Told}
use Rattle.planner.specs.Planning.{Answers}
use Rattle.planner.specs.View.{Views}
use Rattle.planner.specs.Panel.{Panels}

-- ---- what a run finds

-- room for as many rules as the header counts, and for the floors before them
pub record Roomy (L : Layout) (s records : List ℕ) (l : List ℤ) : Type 0 where
  pub names : header_fault L s ≡ 0 → count_of L s ≤ length records
  pub rules : header_fault L s ≡ 0 → 3 * (count_of L s + 2) ≤ length l
  pub floors : 6 ≤ length l

-- of an accepted book: what the walk along its first k rules comes to, and the chain's records
pub record Found (t : Terms) (es : List Entry) (k : ℕ) (r : Findings) (records : List ℕ) : Type 0 where
  pub count : r.n ≡ length es
  pub solution : r.solution ≡ solution_of t.objective (walk tie t.floors t.objective (take k (rules_of es)))
  pub enough : length es ≤ length records
  pub recorded : (i : ℕ) → i < length es → get_or records i 0 ≡ get_or (records_of es) i 0

abbrev pub RunsBy : Reading → ℕ → Result Findings Refusal → List ℕ → Type 0
RunsBy (refused n i) k r records = r ≡ Err (refusal n i)
RunsBy (accepted t es) k (Err x) records = ⊥
RunsBy (accepted t es) k (Ok r) records = Found t es k r records

pub record Runs (L : Layout) (s : List ℕ) (k : ℕ) (r : Result Findings Refusal) (records : List ℕ) : Type 0 where
  pub found : RunsBy (read_of L s) k r records

-- ---- what is made of it

abbrev pub answer_of : Result Findings Refusal → List ℕ → Answer
answer_of (Ok r) records = Ok (plan_of records r.solution)
answer_of (Err x) records = Err x

abbrev pub view_from : Result Findings Refusal → Result StartView Refusal
view_from (Ok r) = Ok (record { start = r.solution.start; restarts = r.solution.restarts })
view_from (Err x) = Err x

-- what a panel shows of it
abbrev pub outcome_in : Result Findings Refusal → Result Outcome Refusal
outcome_in (Ok r) = Ok r.solution.outcome
outcome_in (Err x) = Err x

-- how many records of the chain that takes
abbrev pub count_in : Result Findings Refusal → ℕ
count_in (Ok r) = r.n
count_in (Err x) = 0

-- ---- what is told

-- the first k rules are the whole chain
abbrev pub Whole : Layout → List ℕ → ℕ → Type 0
Whole L s k = (t : Terms) (es : List Entry) → read_of L s ≡ accepted t es → length es ≤ k

pub record Tells (L : Layout) (s : List ℕ) (k : ℕ) (before : List ℕ) (r : Told) (after : List ℕ) : Type 0 where
  pub answered : Whole L s k → Answers L s r.answer
  pub seen : Views L s k r.view
  pub shown : Whole L s k → Panels L s before after r.count
