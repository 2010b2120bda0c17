-- The promise of `solve` for numbers that are within their ranges.
use Rattle.std.specs.Prelude.{None, Some}
use mathlib.Core.Path.{◌≡◌, ◌∙◌, ap}
use mathlib.Core.List.{List}
use mathlib.Core.Bool.{Bool, true, cond, ◌&&◌}
use Prim.Native.Nat.{ℕ, ◌+◌, ◌*◌, ◌≤◌}
use borrow.Author.Tests.{le-leb}
use lib.ListN.{length}
use lib.Dec.{leb}
use lib.IntN.{ℤ}
use Rattle.lp.specs.declared.Floors.{Floors}
use Rattle.lp.specs.declared.Terms.{Terms}
use Rattle.lp.specs.Program.{floor_x, floor_y}
use Rattle.lp.specs.Outcome.{every}
use Rattle.lp.specs.Document.{tie}
use Rattle.lp.specs.Range.{SmallSystem, SmallFloors, SmallTerms}
use Rattle.model.specs.Step.{walk}
use Rattle.amounts.specs.Tests.{rule_in_range, objective_in_range, floors_in_range}
use Rattle.amounts.proofs.Tests.{objective-passes, floors_pass, system-passes}
use Rattle.engine.specs.Entries.{entries, put_entry}
use Rattle.flooring.specs.Floors.{with_floors}
use Rattle.engine.specs.Solving.{solution_of, solved_of}

pub solved :
    (t : Terms) (l : List ℤ) (n : ℕ) →
    SmallTerms t →
    3 * (n + 2) ≤ length l →
    SmallSystem (entries l 2 n) →
    solved_of t l n ≡ Some (solution_of t.objective (walk tie t.floors t.objective (entries l 2 n)))
solved t l n h room s =
    ap (λ b. cond b (Some (solution_of t.objective (walk tie t.floors t.objective (entries l 2 n)))) None)
    (passes (leb (3 * (n + 2)) (length l)) (objective_in_range t.objective) (floors_in_range t.floors) (every rule_in_range (entries l 2 n))
    (le-leb (3 * (n + 2)) (length l) room) (objective-passes h.objective-small) (floors_pass h.floors-small)
    (system-passes (entries l 2 n) s))
  where
    passes : (a b c d : Bool) → a ≡ true → b ≡ true → c ≡ true → d ≡ true → (a && b && c && d) ≡ true
    passes a b c d ea eb ec ed = rw (ea, eb, ec, ed)

pub floors-laid :
    (f : Floors) (l : List ℤ) →
    SmallFloors f →
    6 ≤ length l →
    with_floors f l ≡ put_entry (put_entry l 0 (floor_x f)) 1 (floor_y f)
floors-laid f l h room =
    ap (λ b. cond b (put_entry (put_entry l 0 (floor_x f)) 1 (floor_y f)) l)
    (ap (λ b. b && floors_in_range f) (le-leb 6 (length l) room) ∙ floors_pass h)
