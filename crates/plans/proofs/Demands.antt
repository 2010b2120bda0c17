-- Demand 3 in the textbook's words, of any list of rules and whatever plan it is promised: impossible, unlimited and best exactly when
-- they are so over all pairs of fractions, of any size; the pair, the direction, the place and the witness; and the bounds of numbers and
-- counts. Each theorem takes `PlannedAs` and, where it speaks of a witness's codes or of ranges, that the rules are named and in range.
use mathlib.Core.Path.{◌≡◌, sym, ◌∙◌, subst}
use mathlib.Core.List.{List}
use mathlib.Core.Logic.{◌↔◌}
use Prim.Native.Nat.{ℕ, ◌+◌, ◌≤◌, ◌<◌}
use lib.ListN.{length, take, get_or}
use lib.IntN.{pos, ◌*ℤ◌}
use Rattle.lp.specs.declared.Constraint.{Constraint}
use Rattle.lp.specs.declared.Terms.{Terms}
use Rattle.lp.specs.declared.Point.{Point}
use Rattle.lp.specs.declared.Ray.{Ray}
use Rattle.lp.specs.declared.Outcome.{Outcome}
use Rattle.lp.specs.declared.Outcome.TheVariants as outcome
use Rattle.lp.specs.Program.{Feasible, constraint, system, gain}
use Rattle.lp.specs.Outcome as defined
use Rattle.lp.specs.Textbook.{Infeasible, Unbounded, Bounded, NoLater, NotBelow, LawfulDirection}
use Rattle.lp.specs.Certificate.{named, NothingSpare}
use Rattle.lp.specs.Range.{SmallFloors, SmallSystem}
use Rattle.lp.specs.Document.{tie, AlikeInRules}
use Rattle.answers.specs.declared.Plan.{Plan}
use Rattle.model.specs.Bounds.{SmallOutcome}
use Rattle.model.specs.Step.{walk}
use Rattle.model.proofs.Bounds.{said-small, walk-small}
use Rattle.theory.proofs.Ties.{tie_good}
use Rattle.theory.proofs.Farkas.{certificate_excludes}
use Rattle.theory.proofs.Meaning.{outcome-order-free}
use Rattle.theory.proofs.Theorems.{infeasible-exactly, unbounded_exactly, optimal_exactly, walk-is_defined}
use Rattle.theory.proofs.Theorems.{BestPoint, optimum-best, FirstPoint, start_first, FlattestRay, ray-flattest}
use Rattle.theory.proofs.Theorems.{Placed, place-least, moves-at-most, open_at-most}
use Rattle.theory.proofs.Words.{first_in_words, feasible_in_words, lawful_in_words}
use Rattle.witness.specs.Witness.{code_at, coded}
use Rattle.plans.specs.Planning.{Named, Proves, Witnessed, PlannedAs}
use Rattle.plans.specs.Adding.{AddsUp}
use Rattle.plans.proofs.Ordered.{InOrder, NoneTwice, rising_in_order, rising-none-twice}
use Rattle.plans.proofs.Names.{coded-apart, one-to-three}
use Rattle.plans.proofs.Sums as sums

-- every number of the outcome is within document 01's bounds
pub outcome-small : (t : Terms) (rules : List Constraint) →
    SmallFloors t.floors →
    SmallSystem rules →
    SmallOutcome (defined.outcome tie t.floors t.objective rules)
outcome-small t rules floors small =
    subst SmallOutcome (walk-is_defined tie tie_good t.floors t.objective rules).outcome_defined
    (said-small t.objective (walk tie t.floors t.objective rules).state
    (walk-small tie t.floors floors t.objective rules small).state_small)

module _ (t : Terms) (names : List ℕ) (rules : List Constraint) (p : Plan) (planned : PlannedAs t names rules p) where
  -- the floors and the rules
  abbrev pub chain : List Constraint
  chain = system t.floors rules

  -- ---- which outcome

  -- "impossible" exactly when no pair of fractions of any size keeps all rules
  pub impossible-exactly : (p.outcome ≡ outcome.Infeasible) ↔ Infeasible chain
  impossible-exactly = (
    (λ f. (infeasible-exactly tie tie_good t.floors t.objective rules).0 (sym planned.outcome_defined ∙ f)),
    (λ none. planned.outcome_defined ∙ (infeasible-exactly tie tie_good t.floors t.objective rules).1 none),
  )

  -- "unlimited" exactly when allowed pairs exist and gains have no top
  pub unlimited-exactly : ((u : Point) × (d : Ray) × (p.outcome ≡ outcome.Unbounded u d)) ↔ Unbounded chain t.objective
  unlimited-exactly = (
    (λ x. (unbounded_exactly tie tie_good t.floors t.objective rules).0 (x.0, x.1, sym planned.outcome_defined ∙ x.2)),
    (λ g. back ((unbounded_exactly tie tie_good t.floors t.objective rules).1 g)),
  )
    where
      back : (u : Point) × (d : Ray) × (defined.outcome tie t.floors t.objective rules ≡ outcome.Unbounded u d) →
          (u : Point) × (d : Ray) × (p.outcome ≡ outcome.Unbounded u d)
      back (u, d, f) = (u, d, planned.outcome_defined ∙ f)

  -- "best" exactly when they exist and gains have a top
  pub best-exactly : ((v : Point) × (p.outcome ≡ outcome.Optimal v)) ↔ Bounded chain t.objective
  best-exactly = (
    (λ x. (optimal_exactly tie tie_good t.floors t.objective rules).0 (x.0, sym planned.outcome_defined ∙ x.1)),
    (λ b. back ((optimal_exactly tie tie_good t.floors t.objective rules).1 b)),
  )
    where
      back : (v : Point) × (defined.outcome tie t.floors t.objective rules ≡ outcome.Optimal v) →
          (v : Point) × (p.outcome ≡ outcome.Optimal v)
      back (v, f) = (v, planned.outcome_defined ∙ f)

  -- ---- the pair and the direction

  -- a best pair is allowed, no allowed pair gains more, and it is first by the tie
  pub best-pair : (v : Point) →
      p.outcome ≡ outcome.Optimal v →
      BestPoint tie tie_good t.floors t.objective rules v
  best-pair v f = optimum-best tie tie_good t.floors t.objective rules v (sym planned.outcome_defined ∙ f)

  -- of the allowed pairs with the greatest gain it is the one to take, in document 01's words
  pub best-least : (v : Point) →
      p.outcome ≡ outcome.Optimal v →
      (w : Point) →
      Feasible chain w →
      gain t.objective w *ℤ v.d ≡ gain t.objective v *ℤ w.d →
      NoLater v w
  best-least v f w h same = first_in_words v w ((best-pair v f).tie-first w h same)

  -- it is not below the floors
  pub best-not-below : (v : Point) → p.outcome ≡ outcome.Optimal v → NotBelow t.floors v
  best-not-below v f = (feasible_in_words t.floors rules v (best-pair v f).feasible).0

  pub start-pair : (u : Point) (d : Ray) →
      p.outcome ≡ outcome.Unbounded u d →
      FirstPoint tie tie_good t.floors t.objective rules u
  start-pair u d f = start_first tie tie_good t.floors t.objective rules u d (sym planned.outcome_defined ∙ f)

  -- of the allowed pairs the one to take
  pub start-least : (u : Point) (d : Ray) →
      p.outcome ≡ outcome.Unbounded u d →
      (w : Point) →
      Feasible chain w →
      NoLater u w
  start-least u d f w h = first_in_words u w ((start-pair u d f).first w h)

  -- it is not below the floors either
  pub start-not-below : (u : Point) (d : Ray) → p.outcome ≡ outcome.Unbounded u d → NotBelow t.floors u
  start-not-below u d f = (feasible_in_words t.floors rules u (start-pair u d f).feasible).0

  -- a lawful candidate, none is less steep, and it is in lowest terms
  pub direction-given : (u : Point) (d : Ray) →
      p.outcome ≡ outcome.Unbounded u d →
      FlattestRay tie tie_good t.floors t.objective rules d
  direction-given u d f = ray-flattest tie tie_good t.floors t.objective rules u d (sym planned.outcome_defined ∙ f)

  pub direction-lawful : (u : Point) (d : Ray) →
      p.outcome ≡ outcome.Unbounded u d →
      LawfulDirection rules t.objective d
  direction-lawful u d f = lawful_in_words t.floors rules t.objective d (direction-given u d f).lawful-ray

  -- X and Y at most 65,534,000,000,000 either way, D from 1 to 2,147,352,578; dx and dy at most 32,767
  pub numbers_bounded : SmallFloors t.floors → SmallSystem rules → SmallOutcome p.outcome
  numbers_bounded floors small = subst SmallOutcome (sym planned.outcome_defined) (outcome-small t rules floors small)

  -- ---- the place and the witness

  -- the place is the least k whose first k rules allow no pair
  pub place-given : p.outcome ≡ outcome.Infeasible → Placed tie tie_good t.floors t.objective rules p.place
  place-given f =
      subst (Placed tie tie_good t.floors t.objective rules) (sym planned.place_defined)
      (place-least tie tie_good t.floors t.objective rules (impossible-exactly.0 f))

  -- an "impossible" names rules that can be added up, and they exclude every pair
  pub witness-given : p.outcome ≡ outcome.Infeasible → Proves t names rules p.place p.witness
  witness-given f = subst (Witnessed t names rules p.place p.witness) f planned.witnessed

  pub witness_excludes : p.outcome ≡ outcome.Infeasible → Infeasible (system t.floors (take p.place rules))
  witness_excludes f =
      certificate_excludes (system t.floors (take p.place rules)) (named (witness-given f).certificate) (witness-given f).valid

  -- its entries in the printed order: floors first, then names rising
  pub witness-rises : p.outcome ≡ outcome.Infeasible → InOrder p.witness
  witness-rises f =
      subst InOrder (sym (witness-given f).same_entries) (rising_in_order (coded names (witness-given f).certificate))

  module _ (n : Named names rules) where
    -- one to three entries are named, and none twice: the codes of those in use rise strictly
    pub witness-none-twice : p.outcome ≡ outcome.Infeasible → NoneTwice p.witness
    witness-none-twice f =
        subst NoneTwice (sym (witness-given f).same_entries)
        (rising-none-twice (coded names (witness-given f).certificate)
        (coded-apart names rules n t.floors p.place (witness-given f).certificate (witness-given f).valid))

    -- as many as the printed line counts
    pub witness-one-to-three : p.outcome ≡ outcome.Infeasible → (1 ≤ length (named p.witness)) × (length (named p.witness) ≤ 3)
    witness-one-to-three f = one-to-three p.witness (witness-none-twice f).first-used

    -- looked up and multiplied by their weights, the entries that it names add up to 0, 0 and a limit below 0
    pub witness-sums : (look : ℕ → Constraint) →
        ((k i : ℕ) →
        i < length (system t.floors (take k rules)) →
        look (code_at names i) ≡ get_or (system t.floors (take k rules)) i (constraint (pos 0) (pos 0) (pos 0))) →
        p.outcome ≡ outcome.Infeasible →
        AddsUp look names p.place p.witness
    witness-sums look looked f =
        sums.witness-adds-up t names rules n p.place look (looked p.place) p.witness (witness-given f)

    -- whichever of the named entries is given up, the others no longer clash
    pub witness-lean : (look : ℕ → Constraint) →
        ((k i : ℕ) →
        i < length (system t.floors (take k rules)) →
        look (code_at names i) ≡ get_or (system t.floors (take k rules)) i (constraint (pos 0) (pos 0) (pos 0))) →
        p.outcome ≡ outcome.Infeasible →
        NothingSpare look (named p.witness)
    witness-lean look looked f =
        sums.witness-lean t names rules n p.place look (looked p.place) p.witness (witness-given f)

  -- ---- the counts

  pub moves-bounded : p.moves ≤ length rules
  moves-bounded =
      subst (λ n. n ≤ length rules) (sym planned.moves_defined) (moves-at-most tie tie_good t.floors t.objective rules)

  pub open_bounded : p.opened ≤ length rules + 1
  open_bounded =
      subst (λ n. n ≤ length rules + 1) (sym planned.open_defined) (open_at-most tie tie_good t.floors t.objective rules)

-- two lists alike in objective, floors and rules get the same outcome, pair and direction, in whatever order and under whatever names
pub order-free : (t : Terms) (names names' : List ℕ) (rules rules' : List Constraint) (p p' : Plan) →
    PlannedAs t names rules p →
    PlannedAs t names' rules' p' →
    AlikeInRules rules rules' →
    p.outcome ≡ p'.outcome
order-free t names names' rules rules' p p' planned planned' alike =
    planned.outcome_defined
    ∙ outcome-order-free tie tie_good t.floors t.objective rules rules' alike
    ∙ sym planned'.outcome_defined
