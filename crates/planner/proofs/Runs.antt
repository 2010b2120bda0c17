-- A run over a book whose runs have room, by what the book reads as: a refused book has its refusal, and an accepted one is planned, since
-- its numbers are all in range.
use Rattle.std.specs.Prelude.{Some}
use mathlib.Core.Path.{◌≡◌, refl, sym, ◌∙◌, ap, subst}
use mathlib.Core.List.{List, [], ◌++◌, append-nil}
use Prim.Native.Nat.{ℕ, min, ◌+◌, ◌-◌, ◌*◌, ◌≤◌}
use native.Mathlib.Omega.{arith}
use lib.ListN.{length, get_or, take, drop, length-append, length-take, length-drop}
use lib.Seq.{length-take-le}
use lib.IntN.{ℤ}
use Rattle.lp.specs.declared.Constraint.{Constraint}
use Rattle.lp.specs.declared.Terms.{Terms}
use Rattle.lp.specs.Range.{SmallSystem}
use Rattle.lp.specs.Document.{tie}
use Rattle.records.specs.Layout.{Layout}
use Rattle.book.specs.Reading.{Reading, refused, accepted, Entry, read_of, passed_of, rules_of}
use Rattle.book.specs.Runs.{put_records, put_rules}
use Rattle.book.specs.Promises.{head_of}
use Rattle.book.proofs.Bounds.{chain-count, rules-small, terms-small}
use Rattle.book.proofs.Causes.{accepted-clear, accepted-passed}
use Rattle.book.proofs.Runs.{record-placed, records-length, rules-length}
use Rattle.std.proofs.Common.{Result}
use Rattle.answers.specs.declared.Refusal.{Refusal}
use Rattle.engine.specs.Entries.{entries}
use Rattle.engine.specs.Solving.{solution_of, solved_of}
use Rattle.engine.proofs.Tests.{solved}
use Rattle.model.specs.Step.{walk}
use Rattle.plans.proofs.Finish.{small-take}
use Rattle.running.specs.declared.Findings.{Findings}
use Rattle.running.specs.Running.{solution_in, read_into, found_by, Ran}
use Rattle.planner.specs.Running.{Roomy, Found, RunsBy, Runs}
use Rattle.planner.proofs.Laid.{prefix-entries}

-- the part after six numbers has room for all the rules
pub part_room : (l : List ℤ) (n : ℕ) → 3 * (n + 2) ≤ length l → 3 * n ≤ length (take (length l - 6) (drop 6 l))
part_room l n h = simp (length-take, length-drop) (omega arith)

-- what a run found and left, where the runs that it was lent had room
module _
    (L : Layout) (s : List ℕ) (k : ℕ) (records : List ℕ) (l : List ℤ) (roomy : Roomy L s records l)
    (r : Result Findings Refusal) (records' : List ℕ) (l' : List ℤ) (ran : Ran L s k records l r records' l') where
  abbrev laid : List ℤ
  laid = read_into L s l

  by-reading : (x : Reading) → read_of L s ≡ x → r ≡ found_by (head_of x) k laid
  by-reading x e = ran.found ∙ ap (λ (y : Reading). found_by (head_of y) k laid) e

  module _ (t : Terms) (es : List Entry) (e : read_of L s ≡ accepted t es) where
    passed : put_rules (drop 6 l) 0 (passed_of L s) ≡ put_rules (drop 6 l) 0 es
    passed = ap (put_rules (drop 6 l) 0) (accepted-passed L s e)

    room : 3 * length es ≤ length (drop 6 l)
    room = simp length-drop (omega (arith, chain-count L s e, roomy.rules (accepted-clear L s e)))

    prefix : entries laid 2 (min k (length es)) ≡ take k (rules_of es)
    prefix =
        ap (λ (m : List ℤ). entries (take 6 l ++ m) 2 (min k (length es)))
        (passed ∙ sym (append-nil (put_rules (drop 6 l) 0 es)))
        ∙ prefix-entries (take 6 l) (drop 6 l) [] (length-take-le 6 l roomy.floors) es room k

    fits : 3 * (min k (length es) + 2) ≤ length laid
    fits =
        let joined = length-append (take 6 l) (put_rules (drop 6 l) 0 (passed_of L s)) in
        omega (arith, room, length-take-le 6 l roomy.floors, joined, ap length passed, rules-length (drop 6 l) 0 es)

    -- the engine walks along the chain's first k rules
    planned :
        solved_of t laid (min k (length es)) ≡ Some (solution_of t.objective (walk tie t.floors t.objective (take k (rules_of es))))
    planned =
        solved t laid (min k (length es)) (terms-small L s e) fits
        (subst SmallSystem (sym prefix) (small-take k (rules_of es) (rules-small L s e)))
        ∙ ap (λ (S : List Constraint). Some (solution_of t.objective (walk tie t.floors t.objective S))) prefix

    noted : records' ≡ put_records records 0 es
    noted = ran.recorded ∙ ap (put_records records 0) (accepted-passed L s e)

    -- what an accepted book's run finds
    abbrev findings : Findings
    findings = record { n = length es; solution = solution_in (solved_of t laid (min k (length es))) }

    found : Found t es k findings records'
    found =
        record {
          count = refl;
          solution = ap solution_in planned;
          enough = omega (arith, chain-count L s e, roomy.names (accepted-clear L s e), ap length noted, records-length records 0 es);
          recorded =
              λ i less. ap (λ (m : List ℕ). get_or m i 0) noted ∙ record-placed records es i
              (omega (arith, chain-count L s e, roomy.names (accepted-clear L s e))) less;
        }

  pub runs_by : Runs L s k r records'
  runs_by = record { found = go (read_of L s) refl }
    where
      go : (x : Reading) → read_of L s ≡ x → RunsBy x k r records'
      go (refused n i) e = by-reading (refused n i) e
      go (accepted t es) e =
          subst (λ (y : Result Findings Refusal). RunsBy (accepted t es) k y records') (sym (by-reading (accepted t es) e)) (found t es e)
