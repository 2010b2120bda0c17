-- The last step of a plan: what the walk along a list of rules comes to, with its certificate's entries named, is document 01's answer.
-- The names are read off a run that may go on after them, so that they need only agree as far as there are rules.
use Rattle.std.specs.Prelude.{Option, None, Some}
use mathlib.Core.Path.{◌≡◌, refl, sym, ap, subst}
use mathlib.Core.List.Memᴰ
use mathlib.Core.List.{List, [], ◌∷◌, Memᴰ}
use mathlib.Core.Bool.{Bool, true, false, not}
use mathlib.Core.Logic.{⊎_elim}
use Prim.Native.Nat.{ℕ, zero, suc, ◌+◌, ◌<◌}
use native.Mathlib.Omega.{arith}
use lib.Dec.{T}
use lib.ListN.{length, get_or, take, length-take}
use lib.IntN.{ℤ}
use Rattle.lp.specs.declared.Constraint.{Constraint}
use Rattle.lp.specs.declared.Floors.{Floors}
use Rattle.lp.specs.declared.Terms.{Terms}
use Rattle.lp.specs.declared.Certificate.{Certificate}
use Rattle.lp.specs.Program.{floor_x, floor_y, system}
use Rattle.lp.specs.Certificate.{named, certifies, is_zero}
use Rattle.lp.specs.Range.{SmallConstraint, SmallFloors, SmallSystem}
use Rattle.lp.specs.Document.{tie}
use Rattle.lp.specs.declared.Ray.{Ray}
use Rattle.engine.specs.Solving.{solution_of, certificate_of}
use Rattle.model.specs.declared.State.{State}
use Rattle.model.specs.declared.State.TheVariants.{Ended, Going}
use Rattle.model.specs.Step.{walk, said, said_ray, gaining, place_of}
use Rattle.model.proofs.Bounds.{floorX-small, floorY-small}
use Rattle.theory.proofs.Ties.{tie_good}
use Rattle.theory.proofs.Farkas.{certificate-refutes}
use Rattle.theory.proofs.Walk.{Stands}
use Rattle.theory.proofs.Meaning.{walk-stands}
use Rattle.theory.proofs.Theorems.{walk-is_defined}
use Rattle.witness.specs.Witness.{code_at, code_of, coded, rising}
use Rattle.plans.specs.Planning.{Witnessed, PlannedAs, plan_of}
use Rattle.plans.proofs.Ordered.{Used}
use Rattle.plans.proofs.Names.{slots-named, entry}

-- ---- every constraint of a prefix's system is in range

small-member : (S : List Constraint) → SmallSystem S → (r : Constraint) → Memᴰ r S → SmallConstraint r
small-member [] small r i = absurd (Memᴰ.not-nil i)
small-member (x ∷ S) small r i =
    ⊎_elim (λ e. subst SmallConstraint (sym e) small.0) (λ j. small-member S small.1 r j) (Memᴰ.cases_cons i)

pub small-take : (k : ℕ) (S : List Constraint) → SmallSystem S → SmallSystem (take k S)
small-take zero S small = tt
small-take (suc k) [] small = tt
small-take (suc k) (x ∷ S) small = (small.0, small-take k S small.1)

small-prefix : (floors : Floors) (rules : List Constraint) (k : ℕ) →
    SmallFloors floors →
    SmallSystem rules →
    (r : Constraint) →
    Memᴰ r (system floors (take k rules)) →
    SmallConstraint r
small-prefix floors rules k low small =
    small-member (system floors (take k rules)) (floorX-small low, (floorY-small low, small-take k rules small))

-- ---- names that agree as far as there are rules

module _ (names run : List ℕ) (n : ℕ) (agree : (i : ℕ) → i < n → get_or run i 0 ≡ get_or names i 0) where
  same_code : (e : ℕ) → e < n + 2 → code_at run e ≡ code_at names e
  same_code zero h = refl
  same_code (suc zero) h = refl
  same_code (suc (suc i)) h = ap (λ m. m + 1) (agree i (omega arith))

  same_slot : (e : ℕ) (w : ℤ) → (Used w → e < n + 2) → code_of run e w ≡ code_of names e w
  same_slot e w inside = go (is_zero w) inside
    where
      go : (b : Bool) →
          (T (not b) → e < n + 2) →
          ◌≡◌ {A = ℕ} (elim b [ true ↦ 0 | false ↦ code_at run e ]) (elim b [ true ↦ 0 | false ↦ code_at names e ])
      go true h = refl
      go false h = same_code e (h tt)

  module _ (S : List Constraint) (size : length S < n + 3) (c : Certificate) (valid : T (certifies S (named c))) where
    within : (e : ℕ) (w : ℤ) → Memᴰ (entry e w) (named c) → e < n + 2
    within e w m = omega (arith, ((certificate-refutes S (named c) valid).sound (entry e w) m).entered)

    -- the entries in use are among the rules and floors
    pub coded-same : coded run c ≡ coded names c
    coded-same =
        λ i. record {
          first = same_slot c.first c.first_weight (λ u. within c.first c.first_weight ((slots-named c).first u)) i;
          first_weight = c.first_weight;
          second = same_slot c.second c.second_weight (λ u. within c.second c.second_weight ((slots-named c).second u)) i;
          second_weight = c.second_weight;
          third = same_slot c.third c.third_weight (λ u. within c.third c.third_weight ((slots-named c).third u)) i;
          third_weight = c.third_weight;
        }

-- ---- the plan

module _ (t : Terms) (names : List ℕ) (rules : List Constraint) (low : SmallFloors t.floors) (small : SmallSystem rules) where
  module _ (run : List ℕ) (agree : (i : ℕ) → i < length rules → get_or run i 0 ≡ get_or names i 0) where
    -- the witness of what the walk holds
    state_witnessed : (x : State) →
        Stands tie tie_good t.floors t.objective rules x →
        Witnessed t names rules (place_of x) (rising (coded run (certificate_of x))) (said t.objective x)
    state_witnessed (Ended p c) over =
        let valid = over.certified.valid (small-prefix t.floors rules p low small) in
        record {
          certificate = c;
          valid = valid;
          lean = over.certified.lean;
          same_entries =
              ap rising
              (coded-same names run (length rules) agree (system t.floors (take p rules)) (omega (arith, length-take p rules)) c valid);
        }
    state_witnessed (Going u rays None) standing = go (gaining t.objective rays)
      where
        go : (g : Option Ray) → Witnessed t names rules 0 (rising (coded run (certificate_of (Going u rays None)))) (said_ray u g)
        go (Some d) = refl
        go None = refl
    state_witnessed (Going u rays (Some v)) standing = refl

    pub finished : PlannedAs t names rules (plan_of run (solution_of t.objective (walk tie t.floors t.objective rules)))
    finished =
        let defined = walk-is_defined tie tie_good t.floors t.objective rules in
        record {
          outcome_defined = defined.outcome_defined;
          moves_defined = defined.moves_defined;
          open_defined = defined.open_defined;
          place_defined = defined.place_defined;
          witnessed =
              state_witnessed (walk tie t.floors t.objective rules).state
              (walk-stands tie tie_good t.floors t.objective rules).stands;
        }
