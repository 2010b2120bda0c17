-- The rules held, laid out for the engine: each stands at its entry, and so the entries are the chain of the session.
use mathlib.Core.Path.{◌≡◌, refl, sym, ◌∙◌, ap, ap₂}
use mathlib.Core.List.{List, [], ◌∷◌}
use Prim.Native.Nat.{ℕ, zero, suc, ◌+◌, ◌*◌, ◌≤◌, ◌<◌}
use native.Mathlib.Omega.{arith}
use native.Mathlib.Decide.{ℕ_discrete}
use native.Mathlib.Numerals.{add-one}
use lib.ListN.{length, get_or}
use lib.IntN.{ℤ, pos}
use Rattle.lp.specs.declared.Constraint.{Constraint}
use Rattle.lp.specs.Program.{constraint}
use Rattle.records.specs.declared.Rule.{Rule}
use Rattle.records.specs.Planned.{planned_rule}
use Rattle.engine.specs.Entries.{entry, entries, put_entry}
use Rattle.engine.proofs.Laid.{put-length, put_same, put_other}
use Rattle.sessions.specs.Sessions.{no_rule}
use Rattle.sessions.specs.Laying.{laid_from}

pub laid_next : (l : List ℤ) (rules : List Rule) (i : ℕ) {run after : List ℤ} {r : Constraint} →
    run ≡ laid_from l rules i →
    r ≡ planned_rule (get_or rules i no_rule) →
    after ≡ put_entry run (i + 2) r →
    after ≡ laid_from l rules (i + 1)
laid_next l rules i e f g =
    g
    ∙ ap₂ (λ (x : List ℤ) (c : Constraint). put_entry x (i + 2) c) e f
    ∙ ap (laid_from l rules) (sym (add-one i))

pub laid-length : (l : List ℤ) (rules : List Rule) (i : ℕ) → length (laid_from l rules i) ≡ length l
laid-length l rules zero = refl
laid-length l rules (suc i) =
    put-length (laid_from l rules i) (i + 2) (planned_rule (get_or rules i no_rule)) ∙ laid-length l rules i

pub laid-at : (l : List ℤ) (rules : List Rule) (i : ℕ) →
    3 * (i + 2) ≤ length l →
    (k : ℕ) →
    k < i →
    entry (laid_from l rules i) (k + 2) ≡ planned_rule (get_or rules k no_rule)
laid-at l rules zero room k h = absurd (let z : ⊥ = omega arith in z)
laid-at l rules (suc i) room k h = go (laid-at l rules i (omega arith) k) (ℕ_discrete k i)
  where
    go : (k < i → entry (laid_from l rules i) (k + 2) ≡ planned_rule (get_or rules k no_rule)) →
        Dec (k ≡ i) →
        entry (laid_from l rules (suc i)) (k + 2) ≡ planned_rule (get_or rules k no_rule)
    go before (yes e) =
        ap (λ j. entry (laid_from l rules (suc i)) (j + 2)) e
        ∙ put_same (laid_from l rules i) (i + 2) (planned_rule (get_or rules i no_rule)) (omega (arith, laid-length l rules i))
        ∙ ap (λ j. planned_rule (get_or rules j no_rule)) (sym e)
    go before (no other) =
        put_other (laid_from l rules i) (i + 2) (planned_rule (get_or rules i no_rule)) (k + 2) (λ e. other (omega arith))
        ∙ before (omega arith)

abbrev none : Constraint
none = constraint (pos 0) (pos 0) (pos 0)

pub entries_are : (l : List ℤ) (i : ℕ) (rs : List Constraint) →
    ((k : ℕ) → k < length rs → entry l (k + i) ≡ get_or rs k none) →
    entries l i (length rs) ≡ rs
entries_are l i [] f = refl
entries_are l i (r ∷ rs) f =
    ap₂ (λ (x : Constraint) (y : List Constraint). x ∷ y) (ap (entry l) (first i) ∙ f 0 (omega arith))
    (entries_are l (suc i) rs (λ k h. ap (entry l) (shift k) ∙ f (suc k) (omega arith)))
  where
    first : (i : ℕ) → i ≡ 0 + i
    first i = omega arith

    shift : (k : ℕ) → k + suc i ≡ suc k + i
    shift k = omega arith
