-- From what a run found to what is told of a book: its answer, its view and its panel are those of its reading.
use mathlib.Core.Path.{◌≡◌, refl, sym, ◌∙◌, ap, ap₂, subst}
use mathlib.Core.Bool.{Bool, cond}
use mathlib.Core.List.{List, [], ◌∷◌, map}
use Prim.Native.Nat.{ℕ, zero, suc, ◌≤◌, ◌<◌}
use native.Mathlib.Omega.{arith}
use borrow.Author.Tests.{le-leb}
use lib.ListN.{length, get_or, take}
use lib.Seq.{take_all}
use Rattle.lp.specs.declared.Constraint.{Constraint}
use Rattle.lp.specs.declared.Terms.{Terms}
use Rattle.lp.specs.declared.Point.{Point}
use Rattle.lp.specs.declared.Amount.{Amount}
use Rattle.lp.specs.declared.Outcome.{Outcome}
use Rattle.lp.specs.declared.Outcome.TheVariants as outcome
use Rattle.lp.specs.Outcome as defined
use Rattle.lp.specs.Start.{Start, none, at}
use Rattle.lp.specs.Range.{SmallSystem}
use Rattle.lp.specs.Document.{tie}
use Rattle.records.specs.Layout.{Layout}
use Rattle.records.specs.Record.{record_at, rule_of}
use Rattle.records.specs.Planned.{planned_rule}
use Rattle.book.specs.Reading.{Reading, refused, accepted, Entry, read_of, entry_at, rules_of, records_of}
use Rattle.book.proofs.Bounds.{accepted-entries, chain-count, count_room, rules-small, terms-small}
use Rattle.std.proofs.Common.{Result, Ok, Err}
use Rattle.answers.specs.Answer.{Answer}
use Rattle.answers.specs.declared.Refusal.{Refusal}
use Rattle.engine.specs.declared.Solution.{Solution}
use Rattle.engine.specs.Solving.{start_pair, solution_of}
use Rattle.amounts.proofs.Tests.{measured}
use Rattle.model.specs.Bounds.{SmallOutcome, SmallPoint}
use Rattle.model.specs.declared.Walk.{Walk}
use Rattle.model.specs.Step.{walk, said, start_held}
use Rattle.theory.proofs.Ties.{tie_good}
use Rattle.theory.proofs.Theorems.{walk-is_defined}
use Rattle.theory.proofs.Starts.{WalkStarts, walk-starts}
use Rattle.text.specs.Append.{Fills}
use Rattle.panel_row.specs.declared.Row.{Row}
use Rattle.panel_row.specs.Panel.{row_lines}
use Rattle.plans.specs.Planning.{plan_of}
use Rattle.plans.proofs.Demands.{outcome-small}
use Rattle.plans.proofs.Finish.{finished}
use Rattle.running.specs.declared.Findings.{Findings}
use Rattle.showing.specs.Showing.{panel_room, row_for, rows_from, within, panel_from, Shows}
use Rattle.planner.specs.declared.StartView.{StartView}
use Rattle.planner.specs.Planning.{AnsweredBy, Answers}
use Rattle.planner.specs.Panel.{row_of, rows_for, panel_text}
use Rattle.planner.specs.View.{viewed, view_of, Views}
use Rattle.planner.specs.Running.{Found, RunsBy, Runs, Whole, answer_of, view_from, outcome_in, count_in, Tells}
use Rattle.planner.proofs.Chains.{length-rules, length-records}

-- ---- of lists

-- a run that agrees with a list as far as that goes has it at its start
taken : (run l : List ℕ) (n : ℕ) →
    length l ≡ n →
    n ≤ length run →
    ((i : ℕ) → i < n → get_or run i 0 ≡ get_or l i 0) →
    take n run ≡ l
taken run [] zero e h same = refl
taken run [] (suc n) e h same = absurd (let z : ⊥ = omega (arith, e) in z)
taken run (x ∷ l) zero e h same = absurd (let z : ⊥ = omega (arith, e) in z)
taken [] (x ∷ l) (suc n) e h same = absurd (let z : ⊥ = omega (arith, h) in z)
taken (y ∷ run) (x ∷ l) (suc n) e h same =
    ap₂ (λ (a : ℕ) (m : List ℕ). a ∷ m) (same 0 (omega arith))
    (taken run l n (omega (arith, e)) (omega (arith, h)) (λ i less. same (suc i) (omega arith)))

-- a start pair, as a walk's solution and as a view have it
shown-start : (x : Start) (n : ℕ) →
    ◌≡◌ {A = StartView} (record { start = start_pair x; restarts = n }) (viewed x n)
shown-start none n = refl
shown-start (at u) n = refl

-- the slacks at a pair in range are the amounts that the engine works out
measured-rows : (L : Layout) (s : List ℕ) (v : Point) →
    SmallPoint v →
    (is : List ℕ) →
    SmallSystem (rules_of (map (entry_at L s) is)) →
    map (row_for L s v) is ≡ map (row_of v) (map (entry_at L s) is)
measured-rows L s v small [] rules = refl
measured-rows L s v small (i ∷ is) rules =
    ap₂ (λ (a : Amount) (rows : List Row). record { label = (rule_of L (record_at L s i)).label; slack = a } ∷ rows)
    (measured (planned_rule (rule_of L (record_at L s i))) v rules.0 small) (measured-rows L s v small is rules.1)

-- what a run found of an accepted book
pub record FoundIn (t : Terms) (es : List Entry) (k : ℕ) (r : Result Findings Refusal) (records : List ℕ) : Type 0 where
  pub findings : Findings
  pub same : r ≡ Ok findings
  pub found : Found t es k findings records

module _ (L : Layout) (s : List ℕ) (k : ℕ) (r : Result Findings Refusal) (records : List ℕ) (runs : Runs L s k r records) where
  by-reading : (x : Reading) → read_of L s ≡ x → RunsBy x k r records
  by-reading x e = subst (λ y. RunsBy y k r records) e runs.found

  found_in : (t : Terms) (es : List Entry) → read_of L s ≡ accepted t es → FoundIn t es k r records
  found_in t es e = go r refl (by-reading (accepted t es) e)
    where
      go : (x : Result Findings Refusal) → r ≡ x → RunsBy (accepted t es) k x records → FoundIn t es k r records
      go (Err f) q h = absurd h
      go (Ok f) q h = record { findings = f; same = q; found = h }

  -- ---- the answer

  pub run-answers : Whole L s k → Answers L s (answer_of r records)
  run-answers whole = record { answered = go (read_of L s) refl }
    where
      go : (x : Reading) → read_of L s ≡ x → AnsweredBy x (answer_of r records)
      go (refused n i) e = ap (λ (y : Result Findings Refusal). answer_of y records) (by-reading (refused n i) e)
      go (accepted t es) e =
          subst (AnsweredBy (accepted t es)) (sym planned)
          (finished t (records_of es) (rules_of es) (terms-small L s e).floors-small (rules-small L s e) records
          (λ i h. told.found.recorded i (omega (arith, length-rules es))))
        where
          told : FoundIn t es k r records
          told = found_in t es e

          all : take k (rules_of es) ≡ rules_of es
          all = take_all k (rules_of es) (omega (arith, whole t es e, length-rules es))

          planned :
              answer_of r records ≡ Ok (plan_of records (solution_of t.objective (walk tie t.floors t.objective (rules_of es))))
          planned =
              ap (λ (y : Result Findings Refusal). answer_of y records) told.same
              ∙ ap (λ (y : Solution). Ok (plan_of records y)) told.found.solution
              ∙ ap (λ (l : List Constraint). Ok (plan_of records (solution_of t.objective (walk tie t.floors t.objective l)))) all

  -- ---- the view

  pub run_views : Views L s k (view_from r)
  run_views = record { answer = go (read_of L s) refl }
    where
      go : (x : Reading) → read_of L s ≡ x → view_from r ≡ view_of x k
      go (refused n i) e = ap view_from (by-reading (refused n i) e)
      go (accepted t es) e =
          ap view_from told.same
          ∙ ap (λ (y : Solution). view_from (Ok (record { n = told.findings.n; solution = y }))) told.found.solution
          ∙ ap (λ (y : StartView). Ok y)
          (shown-start (start_held w.state) w.restarts
          ∙ ap₂ (λ (x : Start) (n : ℕ). viewed x n) starts.start_defined starts.restarts_defined)
        where
          told : FoundIn t es k r records
          told = found_in t es e

          w : Walk
          w = walk tie t.floors t.objective (take k (rules_of es))

          starts : WalkStarts tie tie_good t.floors t.objective (take k (rules_of es))
          starts = walk-starts tie tie_good t.floors t.objective (take k (rules_of es))

  -- ---- the panel

  -- the chain's records are all there
  pub run-noted : count_in r ≤ length records
  run-noted = go (read_of L s) refl
    where
      go : (x : Reading) → read_of L s ≡ x → count_in r ≤ length records
      go (refused n i) e =
          let none : count_in r ≡ 0 = ap count_in (by-reading (refused n i) e) in
          omega (arith, none)
      go (accepted t es) e =
          let told : FoundIn t es k r records = found_in t es e in
          let many : count_in r ≡ told.findings.n = ap count_in told.same in
          omega (arith, many, told.found.count, told.found.enough)

  pub run-shows : Whole L s k → panel_from L s (outcome_in r) (take (count_in r) records) ≡ panel_text (read_of L s)
  unfolding panel_text
  run-shows whole = go (read_of L s) refl
    where
      go : (x : Reading) →
          read_of L s ≡ x →
          panel_from L s (outcome_in r) (take (count_in r) records) ≡ panel_text (read_of L s)
      go (refused n i) e =
          ap (λ (y : Result Findings Refusal). panel_from L s (outcome_in y) (take (count_in y) records)) (by-reading (refused n i) e)
          ∙ ap panel_text (sym e)
      go (accepted t es) e =
          ap (λ (y : Result Findings Refusal). panel_from L s (outcome_in y) (take (count_in y) records)) told.same
          ∙ ap (λ (y : Solution). panel_from L s (Ok y.outcome) (take told.findings.n records)) told.found.solution
          ∙ ap₂ (λ (l : List ℕ) (q : Outcome). row_lines (rows_from L s l q)) (ap (within L) noted ∙ all-within) walked
          ∙ ap row_lines (rows_same (defined.outcome tie t.floors t.objective (rules_of es)) refl)
          ∙ ap panel_text (sym e)
        where
          told : FoundIn t es k r records
          told = found_in t es e

          all-within : within L (records_of es) ≡ records_of es
          all-within =
              ap (λ (b : Bool). cond b (records_of es) [])
              (le-leb (length (records_of es)) L.records (omega (arith, length-records es, chain-count L s e, count_room L s e)))

          all : take k (rules_of es) ≡ rules_of es
          all = take_all k (rules_of es) (omega (arith, whole t es e, length-rules es))

          walked :
              said t.objective (walk tie t.floors t.objective (take k (rules_of es))).state
              ≡ defined.outcome tie t.floors t.objective (rules_of es)
          walked =
              ap (λ (l : List Constraint). said t.objective (walk tie t.floors t.objective l).state) all
              ∙ (walk-is_defined tie tie_good t.floors t.objective (rules_of es)).outcome_defined

          noted : take told.findings.n records ≡ records_of es
          noted =
              ap (λ n. take n records) told.found.count
              ∙ taken records (records_of es) (length es) (length-records es) told.found.enough told.found.recorded

          rows_same : (q : Outcome) →
              defined.outcome tie t.floors t.objective (rules_of es) ≡ q →
              rows_from L s (records_of es) q ≡ rows_for es q
          rows_same outcome.Infeasible f = refl
          rows_same (outcome.Unbounded u d) f = refl
          rows_same (outcome.Optimal v) f =
              measured-rows L s v
              (subst SmallOutcome f (outcome-small t (rules_of es) (terms-small L s e).floors-small (rules-small L s e)))
              (records_of es) (subst (λ (l : List Entry). SmallSystem (rules_of l)) (accepted-entries L s e) (rules-small L s e))
              ∙ ap (map (row_of v)) (sym (accepted-entries L s e))

  -- ---- all of it

  pub told-shown : {a : Answer} →
      a ≡ answer_of r records →
      {v : Result StartView Refusal} →
      v ≡ view_from r →
      {before after : List ℕ} {count : ℕ} →
      Shows L s (outcome_in r) (take (count_in r) records) before after count →
      Tells L s k before (record { answer = a; count = count; view = v }) after
  told-shown ea ev {before} {after} {count} f =
      record {
        answered = λ whole. subst (Answers L s) (sym ea) (run-answers whole);
        seen = record { answer = ev ∙ run_views.answer };
        shown = λ whole. subst (λ (l : List ℕ). Fills l (panel_room L) before after count) (run-shows whole) f;
      }
