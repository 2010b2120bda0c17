-- A session as the chain of a book: its rules are in range, the engine plans them, and the names are the places from 1 up.
use Rattle.std.specs.Prelude.{Option, Some, IsSome}
use mathlib.Core.Path.{◌≡◌, refl, sym, ◌∙◌, ap, ap₂, subst, subst⁻¹}
use mathlib.Core.List.{List, [], ◌∷◌, map}
use Prim.Native.Nat.{ℕ, zero, suc, ◌+◌, ◌<◌}
use native.Mathlib.Omega.{arith}
use lib.ListN.{length, get_or}
use lib.Seq.{get_or-take, length-take-le}
use lib.IntN.{ℤ, pos, negsuc}
use mir.Syntax.{w16}
use mir.Val.{SFits}
use Rattle.ints.specs.Within.{Within}
use Rattle.lp.specs.declared.Constraint.{Constraint}
use Rattle.lp.specs.Program.{constraint}
use Rattle.lp.specs.Range.{SmallSystem, SmallTerms}
use Rattle.lp.specs.Document.{tie}
use Rattle.records.specs.declared.Rule.{Rule}
use Rattle.records.specs.Planned.{planned_rule}
use Rattle.book.specs.Reading.{records_of, rules_of}
use Rattle.book.proofs.Bounds.{SoundRule, planned-small}
use Rattle.repacker.specs.Repacking.{numbered}
use Rattle.answers.specs.declared.Plan.{Plan}
use Rattle.engine.specs.declared.Solution.{Solution}
use Rattle.engine.specs.Entries.{entries}
use Rattle.engine.specs.Solving.{solution_of, solved_of}
use Rattle.engine.proofs.Tests.{solved}
use Rattle.model.specs.Step.{walk}
use Rattle.plans.specs.Planning.{PlannedAs, plan_of}
use Rattle.plans.proofs.Finish.{finished}
use Rattle.sessions.specs.declared.Session.{Session}
use Rattle.sessions.specs.Sessions.{no_rule, held_of, Lawful, IsSession, chain_of, Shown}
use Rattle.sessions.specs.Laying.{count_from, positions, laid_from}
use Rattle.sessions.proofs.Laid.{laid-length, laid-at, entries_are}

-- ---- rules with their places as names

pub rules-numbered : (k : ℕ) (rs : List Rule) → rules_of (numbered k rs) ≡ map planned_rule rs
rules-numbered k [] = refl
rules-numbered k (r ∷ rs) = ap (λ (l : List Constraint). planned_rule r ∷ l) (rules-numbered (suc k) rs)

length-planned : (rs : List Rule) → length (map planned_rule rs) ≡ length rs
length-planned [] = refl
length-planned (r ∷ rs) = ap suc (length-planned rs)

planned-at : (rs : List Rule) (k : ℕ) →
    k < length rs →
    get_or (map planned_rule rs) k (constraint (pos 0) (pos 0) (pos 0)) ≡ planned_rule (get_or rs k no_rule)
planned-at [] k h = absurd (let z : ⊥ = omega arith in z)
planned-at (r ∷ rs) zero h = refl
planned-at (r ∷ rs) (suc k) h = planned-at rs k (omega arith)

names-numbered : (k : ℕ) (rs : List Rule) (i : ℕ) → i < length rs → get_or (records_of (numbered k rs)) i 0 ≡ k + i
names-numbered k [] i h = absurd (let z : ⊥ = omega arith in z)
names-numbered k (r ∷ rs) zero h = omega arith
names-numbered k (r ∷ rs) (suc i) h =
    let e = names-numbered (suc k) rs i (omega arith) in
    omega (arith, e)

count_at : (k n i : ℕ) → i < n → get_or (count_from k n) i 0 ≡ k + i
count_at k zero i h = absurd (let z : ⊥ = omega arith in z)
count_at k (suc n) zero h = omega arith
count_at k (suc n) (suc i) h = let e = count_at (suc k) n i (omega arith) in omega (arith, e)

-- ---- ranges

pub sound : (r : Rule) → Lawful r → SoundRule r
sound r h = record { kind = h.kind; a = h.a; b = h.b; c = h.c }

all_small : (rs : List Rule) → ((j : ℕ) → j < length rs → Lawful (get_or rs j no_rule)) → SmallSystem (map planned_rule rs)
all_small [] f = tt
all_small (r ∷ rs) f = (planned-small r (sound r (f 0 (omega arith))), all_small rs (λ j h. f (suc j) (omega arith)))

floor_within : (z : ℤ) → SFits w16 z → Within 32768 z
floor_within (pos n) f = let h = f.sfits in record { small = omega arith }
floor_within (negsuc n) f = let h = f.sfits in record { small = omega arith }

module _ (s : Session) (is : IsSession s) where
  many : length (held_of s) ≡ s.n
  many = length-take-le s.n s.rules (omega (arith, is.count, is.size))

  pub held-lawful : (j : ℕ) → j < length (held_of s) → Lawful (get_or (held_of s) j no_rule)
  held-lawful j h =
      let less : j < s.n = omega (arith, many) in
      subst Lawful (sym (get_or-take s.n s.rules j no_rule less)) (is.lawful j less)

  pub terms-small : SmallTerms s.terms
  terms-small =
      record {
        objective-small = is.objective;
        floors-small = record { lx_small = floor_within s.terms.floors.lx is.floor-x; ly_small = floor_within s.terms.floors.ly is.floor-y };
      }

  rules-small : SmallSystem (rules_of (chain_of s))
  rules-small = subst SmallSystem (sym (rules-numbered 1 (held_of s))) (all_small (held_of s) held-lawful)

  chain-many : length (rules_of (chain_of s)) ≡ s.n
  chain-many = ap length (rules-numbered 1 (held_of s)) ∙ length-planned (held_of s) ∙ many

  -- ---- the engine

  module _ (l : List ℤ) (room : length l ≡ 198) where
    abbrev laid : List ℤ
    laid = laid_from l s.rules s.n

    chain-laid : entries laid 2 s.n ≡ rules_of (chain_of s)
    chain-laid =
        ap (entries laid 2) (sym (length-planned (held_of s) ∙ many))
        ∙ entries_are laid 2 (map planned_rule (held_of s))
        (λ k h. laid-at l s.rules s.n (omega (arith, is.count)) k (omega (arith, many, length-planned (held_of s)))
        ∙ ap planned_rule (sym (get_or-take s.n s.rules k no_rule (omega (arith, many, length-planned (held_of s)))))
        ∙ sym (planned-at (held_of s) k (omega (arith, length-planned (held_of s)))))
        ∙ sym (rules-numbered 1 (held_of s))

    walked : solved_of s.terms laid s.n
        ≡ Some (solution_of s.terms.objective (walk tie s.terms.floors s.terms.objective (rules_of (chain_of s))))
    walked =
        solved s.terms laid s.n terms-small (omega (arith, is.count, laid-length l s.rules s.n))
        (subst SmallSystem (sym chain-laid) rules-small)
        ∙ ap (λ (S : List Constraint). Some (solution_of s.terms.objective (walk tie s.terms.floors s.terms.objective S))) chain-laid

    pub planned-some : {run : List ℤ} → run ≡ laid_from l s.rules s.n → {r : Option Solution} → r ≡ solved_of s.terms run s.n → IsSome r
    planned-some e w = subst⁻¹ IsSome (w ∙ ap (λ (x : List ℤ). solved_of s.terms x s.n) e ∙ walked) refl

    pub session-shown : {run : List ℤ} {names : List ℕ} →
        run ≡ laid_from l s.rules s.n →
        names ≡ positions 64 →
        {x : Solution} →
        Some x ≡ solved_of s.terms run s.n →
        {p : Plan} →
        p ≡ plan_of names x →
        Shown s p
    session-shown {run} {names} e en {x} w {p} ep =
        record {
          answer =
              subst (λ (y : Plan). PlannedAs s.terms (records_of (chain_of s)) (rules_of (chain_of s)) y) (sym (ep ∙ ap₂ plan_of en same))
              (finished s.terms (records_of (chain_of s)) (rules_of (chain_of s)) terms-small.floors-small rules-small (positions 64)
              (λ i h. count_at 1 64 i (omega (arith, is.count, chain-many))
              ∙ sym (names-numbered 1 (held_of s) i (omega (arith, many, chain-many)))));
        }
      where
        same : x ≡ solution_of s.terms.objective (walk tie s.terms.floors s.terms.objective (rules_of (chain_of s)))
        same = let both = w ∙ ap (λ (y : List ℤ). solved_of s.terms y s.n) e ∙ walked in cc
