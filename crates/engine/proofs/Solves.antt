-- `solve` on each of its ways: the floors are not laid, the objective is out of its range, there is no room for the rules, or the rules
-- are walked.
use Rattle.std.specs.Prelude.{Option, None, Some}
use mathlib.Core.Path.{◌≡◌, refl, sym, ◌∙◌, ap, subst}
use mathlib.Core.List.{List}
use mathlib.Core.Bool.{Bool, true, false, cond, ◌&&◌}
use Prim.Native.Nat.{ℕ, ◌+◌, ◌*◌, ◌-◌, ◌/◌, ◌≤◌, ◌<◌}
use native.Mathlib.Omega.{arith}
use lib.Dec.{T, leb}
use lib.ListN.{length}
use lib.IntN.{ℤ}
use borrow.Author.Tests.{leb-true, le-leb}
use Rattle.lp.specs.declared.Terms.{Terms}
use Rattle.lp.specs.Outcome.{every}
use Rattle.lp.specs.Document.{tie}
use Rattle.model.specs.Step.{walk}
use Rattle.engine.specs.declared.Solution.{Solution}
use Rattle.engine.specs.Entries.{entry, entries}
use Rattle.amounts.specs.Tests.{rule_in_range, objective_in_range, floors_in_range}
use Rattle.flooring.specs.Floors.{Lays}
use Rattle.engine.specs.Solving.{solution_of, rules_solved, in_range, solved_of, Solves}
use Rattle.engine.specs.Sizes.{Walking}
use Rattle.amounts.proofs.Tests.{both, objective-small, floors-small}
use Rattle.engine.proofs.Laid.{laid-x, laid-y, laid-rules, lays-length, lays-laid, lays-tests}

-- nothing is both
true-false : {b : Bool} → b ≡ true → b ≡ false → ⊥
true-false e f = subst T (sym e ∙ f) tt

module _ (t : Terms) (n : ℕ) (l : List ℤ) where
  -- what it takes to be walked
  record Fit : Type 0 where
    room : 3 * (n + 2) ≤ length l
    objective : objective_in_range t.objective ≡ true
    floors : floors_in_range t.floors ≡ true

  fit : in_range t l n ≡ true → Fit
  fit e =
      let room = leb (3 * (n + 2)) (length l) in
      let rules = both (room && objective_in_range t.objective && floors_in_range t.floors) (every rule_in_range (entries l 2 n)) e in
      let floors = both (room && objective_in_range t.objective) (floors_in_range t.floors) rules.0 in
      let objective = both room (objective_in_range t.objective) floors.0 in
      record { room = leb-true (3 * (n + 2)) (length l) objective.0; objective = objective.1; floors = floors.1 }

  outside : (Fit → ⊥) → None ≡ solved_of t l n
  outside h = go (in_range t l n) refl
    where
      go :
          (b : Bool) →
          in_range t l n ≡ b →
          None ≡ cond b (Some (solution_of t.objective (walk tie t.floors t.objective (entries l 2 n)))) None
      go true e = absurd (h (fit e))
      go false e = refl

  module _ {u : Bool} {after : List ℤ} (h : Lays t.floors l u after) where
    pub unlaid : u ≡ false → Solves t n l None after
    unlaid so = record { answer = outside (λ (k : Fit). true-false (laid_if k) so); run = h.run }
      where
        laid_if : Fit → u ≡ true
        laid_if k = h.told ∙ ap (λ s. s && floors_in_range t.floors) (le-leb 6 (length l) (omega (arith, k.room))) ∙ k.floors

    pub no_objective : objective_in_range t.objective ≡ false → Solves t n l None after
    no_objective e = record { answer = outside (λ (k : Fit). true-false k.objective e); run = h.run }

    pub no_room : (length after - 6) / 3 < n → Solves t n l None after
    no_room less = record { answer = outside (λ (k : Fit). crowded k.room); run = h.run }
      where
        crowded : 3 * (n + 2) ≤ length l → ⊥
        crowded k = omega (arith, lays-length t.floors l h)

    module _ (so : u ≡ true) (e : objective_in_range t.objective ≡ true) (room : n ≤ (length after - 6) / 3) where
      six : 6 ≤ length l
      six = leb-true 6 (length l) (lays-tests t.floors l h so).0

      pub walking : Walking t.objective t.floors after n
      walking =
          record {
            objective = objective-small e;
            floors-small = floors-small (lays-tests t.floors l h so).1;
            room = omega (arith, lays-length t.floors l h, six);
            first = ap (λ (l : List ℤ). entry l 0) (lays-laid t.floors l h so) ∙ laid-x t.floors l six;
            second = ap (λ (l : List ℤ). entry l 1) (lays-laid t.floors l h so) ∙ laid-y t.floors l six;
          }

      pub solved-by :
          {r : Option Solution} →
          r ≡ rules_solved t.objective t.floors (entries after 2 n) →
          Solves t n l r after
      solved-by er =
          record {
            answer =
                er
                ∙ ap (rules_solved t.objective t.floors) rules
                ∙ ap (λ b. cond b (Some (solution_of t.objective (walk tie t.floors t.objective (entries l 2 n)))) None)
                (sym (ap (λ b. b && every rule_in_range (entries l 2 n)) tests));
            run = h.run;
          }
        where
          rules : entries after 2 n ≡ entries l 2 n
          rules = ap (λ (l : List ℤ). entries l 2 n) (lays-laid t.floors l h so) ∙ laid-rules t.floors l 2 n (omega arith)

          tests : (leb (3 * (n + 2)) (length l) && objective_in_range t.objective && floors_in_range t.floors) ≡ true
          tests =
              (λ i. le-leb (3 * (n + 2)) (length l) (omega (arith, lays-length t.floors l h, six)) i && e i
              && (lays-tests t.floors l h so).1 i)
