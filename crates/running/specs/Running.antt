-- One run over a book, for runs of any length: what it finds is the book's refusal, or else the length of its chain and what the engine
-- makes of the rules of a prefix where they all have room; both runs hold what was read, as far as there was room.
use Rattle.std.specs.Prelude.{◌≡◌, Result, Ok, Err, List, ◌++◌, ℕ, min, take, drop, ℤ, Option, None, unwrap_or}
use Rattle.lp.specs.declared.Outcome.TheVariants as outcome
use Rattle.answers.specs.declared.Refusal.{Refusal}
use Rattle.records.specs.Layout.{Layout}
use Rattle.book.specs.declared.Head.{Head}
use Rattle.book.specs.Reading.{read_of, passed_of}
use Rattle.book.specs.Runs.{put_records, put_rules}
use Rattle.book.specs.Promises.{head_of}
use Rattle.flooring.specs.Floors.{with_floors}
use Rattle.engine.specs.declared.Solution.{Solution}
use Rattle.engine.specs.Solving.{solved_of}
use Rattle.witness.specs.Witness.{nobody}
use Rattle.running.specs.declared.Findings.{Findings}

abbrev pub no_solution : Solution
no_solution =
    record {
      outcome = outcome.Infeasible;
      moves = 0;
      opened = 0;
      place = 0;
      certificate = nobody;
      start = None;
      restarts = 0;
    }

abbrev pub solution_in : Option Solution → Solution
solution_in x = unwrap_or x no_solution

-- the rules that were read stand after six numbers for the floors, as far as there is room
abbrev pub read_into : Layout → List ℕ → List ℤ → List ℤ
read_into L s l = take 6 l ++ put_rules (drop 6 l) 0 (passed_of L s)

-- by what was read of a book and the run that its rules stand in: its first k rules are planned, unless it is refused
abbrev pub found_by : Result Head Refusal → ℕ → List ℤ → Result Findings Refusal
found_by (Ok h) k l = Ok (record { n = h.n; solution = solution_in (solved_of h.terms l (min k h.n)) })
found_by (Err x) k l = Err x

-- the engine lays the floors before the rules that it is to plan
abbrev pub left_by : Result Head Refusal → List ℤ → List ℤ
left_by (Ok h) l = with_floors h.terms.floors l
left_by (Err x) l = l

-- the promise of `run`
pub record Ran
    (L : Layout) (s : List ℕ) (k : ℕ) (records : List ℕ) (l : List ℤ)
    (r : Result Findings Refusal) (records' : List ℕ) (l' : List ℤ) : Type 0 where
  pub found : r ≡ found_by (head_of (read_of L s)) k (read_into L s l)
  pub recorded : records' ≡ put_records records 0 (passed_of L s)
  pub left : l' ≡ left_by (head_of (read_of L s)) (read_into L s l)
