-- The walk along the rules: what is left of it at entry i gives, from what it holds, the whole. One record says so, with its start, its
-- step, its stop at a rule that is out of its range, and its end; before it stands what the walk begins with.
use Rattle.std.specs.Prelude.{Option, None, Some}
use mathlib.Core.Path.{◌≡◌, refl, sym, ◌∙◌, ap, ap₂, subst, subst₂}
use mathlib.Core.List.{List, [], ◌∷◌, ◌++◌}
use mathlib.Core.Bool.{Bool, true, false, cond}
use Prim.Native.Nat.{ℕ, zero, suc, ◌+◌, ◌-◌, ◌^◌, ◌≤◌, ◌<◌}
use native.Mathlib.Omega.{arith}
use native.Mathlib.Decide.{dec_lt}
use native.Mathlib.Nat.{add-zero, zero-add}
use native.Mathlib.Numerals.{add-one}
use lib.IntN.{ℤ, pos}
use Rattle.lp.specs.declared.Constraint.{Constraint}
use Rattle.lp.specs.declared.Functional.{Functional}
use Rattle.lp.specs.declared.Floors.{Floors}
use Rattle.lp.specs.declared.Tie.{Tie}
use Rattle.lp.specs.declared.Ray.{Ray}
use Rattle.lp.specs.Program.{point, ray}
use Rattle.lp.specs.Outcome.{every}
use Rattle.lp.specs.Document.{tie}
use Rattle.model.specs.declared.Walk.{Walk}
use Rattle.model.specs.Step.{going, step, gaining, opening, begin, walk_from, walk}
use Rattle.model.specs.Bounds.{SmallWalk}
use Rattle.lp.specs.Range.{SmallConstraint, SmallFloors, SmallTie}
use Rattle.model.proofs.Bounds.{step_small, begin-small, floorX-small, floorY-small, tie-small}
use Rattle.engine.specs.declared.Solution.{Solution}
use Rattle.amounts.specs.Tests.{rule_in_range}
use Rattle.engine.specs.Solving.{solution_of, rules_solved}
use Rattle.engine.specs.Entries.{entry, entries}
use Rattle.engine.specs.Sizes.{Room, Entries, Stepping, Walking, Answering}
use Rattle.ints.proofs.Bits.{read}
use Rattle.fraction.proofs.Quotients.{point-same}
use Rattle.amounts.proofs.Sizes.{within-unread}
use Rattle.amounts.proofs.Tests.{rule-small}
use Rattle.engine.proofs.Passes.{entries-small, entries-more, entries_none}

-- ---- the beginning

abbrev axes : Option (Ray × Ray)
axes = Some (ray (pos 1) (pos 0), ray (pos 0) (pos 1))

module _ (floors : Floors) (f : Functional) (h : SmallFloors floors) {g : Option Ray} (eg : g ≡ gaining f axes) where
  corner : point (read floors.lx) (read floors.ly) (pos 1) ≡ point floors.lx floors.ly (pos 1)
  corner = point-same (within-unread h.lx_small tt) (within-unread h.ly_small tt) refl

  begun :
      {k : Option Ray} →
      g ≡ k →
      going (point floors.lx floors.ly (pos 1)) axes (opening f (point floors.lx floors.ly (pos 1)) axes k) 0 0 0
      ≡ begin floors f
  begun e =
      ap (λ k. going (point floors.lx floors.ly (pos 1)) axes (opening f (point floors.lx floors.ly (pos 1)) axes k) 0 0 0)
      (sym e ∙ eg)

  pub begun_open :
      {d : Ray} →
      g ≡ Some d →
      {w : Walk} →
      w ≡ going (point (read floors.lx) (read floors.ly) (pos 1)) axes None 0 0 0 →
      w ≡ begin floors f
  begun_open e ew = ew ∙ ap (λ s. going s axes None 0 0 0) corner ∙ begun e

  pub begun-best :
      g ≡ None →
      {w : Walk} →
      w ≡ going (point (read floors.lx) (read floors.ly) (pos 1)) axes (Some
      (point (read floors.lx) (read floors.ly) (pos 1))) 0 0 0 →
      w ≡ begin floors f
  begun-best e ew = ew ∙ ap (λ s. going s axes (Some s) 0 0 0) corner ∙ begun e

-- ---- the walk

entries_next : (l : List ℤ) (i k : ℕ) → entries l i k ++ (entry l (i + k) ∷ []) ≡ entries l i (suc k)
entries_next l i zero = ap (λ (j : ℕ). entry l j ∷ []) (add-zero i)
entries_next l i (suc k) =
    ap (λ (S : List Constraint). entry l i ∷ S)
    (ap (λ (j : ℕ). entries l (suc i) k ++ (entry l j ∷ [])) (shift i k) ∙ entries_next l (suc i) k)
  where
    shift : (i k : ℕ) → i + suc k ≡ suc i + k
    shift i k = omega arith

-- the entries so far, with one more
pub entries-grow : (l : List ℤ) (i : ℕ) → entries l 0 i ++ (entry l i ∷ []) ≡ entries l 0 (suc i)
entries-grow l i = ap (λ (j : ℕ). entries l 0 i ++ (entry l j ∷ [])) (sym (zero-add i)) ∙ entries_next l 0 i

-- ---- one more rule of a run

-- the rules from entry i on are within their ranges if the rule there is, and those after it
every_more :
    (l : List ℤ) (n i : ℕ) →
    i < n →
    {b : Bool} →
    rule_in_range (entry l i) ≡ b →
    every rule_in_range (entries l i (n - i)) ≡ elim b [ true ↦ every rule_in_range (entries l (suc i) (n - suc i)) | false ↦ false ]
every_more l n i h e =
    ap (every rule_in_range) (entries-more l n i h)
    ∙ ap (λ b. elim b [ true ↦ every rule_in_range (entries l (suc i) (n - suc i)) | false ↦ false ]) e

-- w is held before entry i, and w₀ was before the first rule: the walk along what is left gives the whole, and what is left decides
-- whether every rule is within its range
pub record Walked (f : Functional) (l : List ℤ) (n : ℕ) (w₀ w : Walk) (i : ℕ) : Type 0 where
  pub few : n + 2 < 2 ^ 64
  pub inside : i ≤ n + 2
  pub floors-first : 2 ≤ i
  pub taken : Entries l i
  pub small : SmallWalk (i - 2) w
  pub rest : walk_from tie f (entries l 0 i) i (entries l i (n + 2 - i)) w ≡ walk_from tie f (entries l 0 2) 2 (entries l 2 n) w₀
  pub in-range : every rule_in_range (entries l i (n + 2 - i)) ≡ every rule_in_range (entries l 2 n)

module _ {f : Functional} {floors : Floors} {l : List ℤ} {n : ℕ} (h : Walking f floors l n) where
  two-taken : Entries l 2
  two-taken = record { room = omega (arith, h.room); small = each }
    where
      each : (k : ℕ) → k < 2 → SmallConstraint (entry l k)
      each zero b = subst SmallConstraint (sym h.first) (floorX-small h.floors-small)
      each (suc zero) b = subst SmallConstraint (sym h.second) (floorY-small h.floors-small)
      each (suc (suc k)) b = absurd (far k b)
        where
          far : (k : ℕ) → suc (suc k) < 2 → ⊥
          far k b = omega arith

  pub walked_start : n + 2 < 2 ^ 64 → {w : Walk} → w ≡ begin floors f → Walked f l n w w 2
  walked_start few {w} e =
      record {
        few = few;
        inside = omega arith;
        floors-first = omega arith;
        taken = two-taken;
        small = subst (SmallWalk 0) (sym e) (begin-small floors h.floors-small f);
        rest = ap (λ (k : ℕ). walk_from tie f (entries l 0 2) 2 (entries l 2 k) w) (back n);
        in-range = ap (λ (k : ℕ). every rule_in_range (entries l 2 k)) (back n);
      }
    where
      back : (n : ℕ) → n + 2 - 2 ≡ n
      back n = omega arith

  module _ {w₀ w : Walk} {i : ℕ} (v : Walked f l n w₀ w i) where
    pub walked-room : i < n + 2 → Room l i
    walked-room b = record { room = omega (arith, h.room) }

    module _ {m : Constraint} (b : i < n + 2) (e : m ≡ entry l i) {t : Bool} (et : t ≡ rule_in_range m) where
      module _ (so : t ≡ true) where
        arrived : SmallConstraint m
        arrived = rule-small (sym et ∙ so)

        pub stepping : {tie' : Tie} → tie' ≡ tie → Stepping f tie' l i m w
        stepping eq =
            record {
              moving =
                  record {
                    objective = h.objective;
                    restarting = record { tie = subst SmallTie (sym eq) tie-small; entries = v.taken; h-small = arrived };
                  };
              state_small = v.small.state_small;
              moves-room = omega (arith, v.small.moves-small, v.floors-first);
              opened-room = omega (arith, v.small.opened-small, v.floors-first);
              restarts-room = omega (arith, v.small.restarts-small, v.floors-first);
            }

        -- one more entry is taken in
        pub more-taken : Entries l (i + 1)
        more-taken = record { room = omega (arith, h.room); small = λ k c. each k (dec_lt k i) c }
          where
            each : (k : ℕ) → Dec (k < i) → k < i + 1 → SmallConstraint (entry l k)
            each k (yes less) c = v.taken.small k less
            each k (no more) c = subst (λ (j : ℕ). SmallConstraint (entry l j)) (last k more c) (subst SmallConstraint e arrived)
              where
                last : (k : ℕ) → (k < i → ⊥) → k < i + 1 → i ≡ k
                last k more c = omega arith

        pub walked_step :
            {tie' : Tie} →
            tie' ≡ tie →
            {w' : Walk} →
            w' ≡ step tie' f (entries l 0 i) i m w →
            Walked f l n w₀ w' (i + 1)
        walked_step eq {w'} ew =
            record {
              few = v.few;
              inside = omega arith;
              floors-first = omega (arith, v.floors-first);
              taken = more-taken;
              small =
                  subst₂ (λ (k : ℕ) (u : Walk). SmallWalk k u) (one_later i v.floors-first) (sym made)
                  (step_small tie f (entries l 0 i) (entries-small v.taken) i arrived (i - 2) w v.small);
              rest = rw add-one (next ∙ v.rest);
              in-range = rw add-one (sym (every_more l (n + 2) i b (ap rule_in_range (sym e) ∙ sym et ∙ so)) ∙ v.in-range);
            }
          where
            made : w' ≡ step tie f (entries l 0 i) i m w
            made = ew ∙ ap (λ t. step t f (entries l 0 i) i m w) eq

            one_later : (i : ℕ) → 2 ≤ i → suc (i - 2) ≡ i + 1 - 2
            one_later i k = omega arith

            next :
                walk_from tie f (entries l 0 (suc i)) (suc i) (entries l (suc i) (n + 2 - suc i)) w'
                ≡ walk_from tie f (entries l 0 i) i (entries l i (n + 2 - i)) w
            next =
                ap₂ (λ (S : List Constraint) (u : Walk). walk_from tie f S (suc i) (entries l (suc i) (n + 2 - suc i)) u)
                (sym (entries-grow l i))
                (made ∙ ap (λ m. step tie f (entries l 0 i) i m w) e)
                ∙ sym (ap (λ (S : List Constraint). walk_from tie f (entries l 0 i) i S w) (entries-more l (n + 2) i b))

      -- a rule that is out of its range ends it
      pub walked_stop : t ≡ false → None ≡ rules_solved f floors (entries l 2 n)
      walked_stop so =
          sym (ap (λ s. cond s (Some (solution_of f (walk tie floors f (entries l 2 n)))) None)
          (sym v.in-range ∙ every_more l (n + 2) i b (ap rule_in_range (sym e) ∙ sym et ∙ so)))

    pub answering : Answering f w
    answering = record { objective = h.objective; state_small = v.small.state_small }

    pub walked_end :
        n + 2 ≤ i →
        w₀ ≡ begin floors f →
        {s : Solution} →
        s ≡ solution_of f w →
        Some s ≡ rules_solved f floors (entries l 2 n)
    walked_end b e₀ es =
        ap Some (es ∙ ap (solution_of f) whole)
        ∙ sym (ap (λ s. cond s (Some (solution_of f (walk tie floors f (entries l 2 n)))) None)
        (sym v.in-range ∙ ap (every rule_in_range) (entries_none l (n + 2) i b)))
      where
        whole : w ≡ walk tie floors f (entries l 2 n)
        whole =
            sym (ap (λ (S : List Constraint). walk_from tie f (entries l 0 i) i S w) (entries_none l (n + 2) i b)) ∙ v.rest
            ∙ (λ j. walk_from tie f (h.first j ∷ h.second j ∷ []) 2 (entries l 2 n) (e₀ j))
