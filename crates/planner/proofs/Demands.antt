-- Demands 1 and 3 on bytes, in the table's and the textbook's words: for all bytes s, of whichever layout L, and the answer a that `plan`
-- hands back for them. Of the code each theorem takes the promise of that call, `Answers L s a`, and nothing else; of the bytes, what
-- they read as. Those of demand 3 speak of the plan p in the answer to an accepted book, and are those of lists of rules (`plans`
-- Demands) for the chain.
use mathlib.Core.Path.{◌≡◌, refl, sym, ◌∙◌, subst}
use mathlib.Core.List.{List}
use mathlib.Core.Logic.{◌↔◌}
use Prim.Native.Nat.{ℕ, ◌+◌, ◌≤◌}
use native.Mathlib.Omega.{arith}
use lib.ListN.{length, take}
use lib.IntN.{◌*ℤ◌}
use Rattle.lp.specs.declared.Constraint.{Constraint}
use Rattle.lp.specs.declared.Terms.{Terms}
use Rattle.lp.specs.declared.Point.{Point}
use Rattle.lp.specs.declared.Ray.{Ray}
use Rattle.lp.specs.declared.Outcome.TheVariants as outcome
use Rattle.lp.specs.Program.{Feasible, system, gain}
use Rattle.lp.specs.Textbook.{Infeasible, Unbounded, Bounded, NoLater, NotBelow, LawfulDirection}
use Rattle.lp.specs.Certificate.{named, NothingSpare}
use Rattle.lp.specs.Document.{tie, AlikeInRules}
use Rattle.records.specs.Layout.{Layout}
use Rattle.book.specs.Reading.{Reading, refused, accepted, Entry, read_of, rules_of, records_of}
use Rattle.book.specs.Causes.{Applies}
use Rattle.book.proofs.Bounds.{rules-small, terms-small}
use Rattle.book.proofs.Causes.{refusal_applies, applies_refused}
use Rattle.std.proofs.Common.{Ok, Err}
use Rattle.answers.specs.Answer.{Answer}
use Rattle.answers.specs.declared.Plan.{Plan}
use Rattle.answers.specs.declared.Refusal.{Refusal}
use Rattle.answers.specs.Refusal.{refusal}
use Rattle.model.specs.Bounds.{SmallOutcome}
use Rattle.theory.proofs.Ties.{tie_good}
use Rattle.theory.proofs.Theorems.{BestPoint, FirstPoint, FlattestRay, Placed}
use Rattle.plans.specs.Planning.{PlannedAs, Proves}
use Rattle.plans.specs.Adding.{AddsUp}
use Rattle.plans.proofs.Ordered.{InOrder, NoneTwice}
use Rattle.plans.proofs.Demands as list
use Rattle.planner.specs.Planning.{AnsweredBy, Answers, rule_named}
use Rattle.planner.proofs.Chains.{length-rules, chain-named, looked}

-- ---- demand 1: what is turned back

module _ (L : Layout) (s : List ℕ) (a : Answer) (promise : Answers L s a) where
  -- a refused book is answered with its number and record
  pub refused-answered : (n r : ℕ) → read_of L s ≡ refused n r → a ≡ Err (refusal n r)
  refused-answered n r e = subst (λ x. AnsweredBy x a) e promise.answered

  -- an accepted book is planned, never refused
  pub accepted-planned : (t : Terms) (es : List Entry) →
      read_of L s ≡ accepted t es →
      (p : Plan) × (a ≡ Ok p) × PlannedAs t (records_of es) (rules_of es) p
  accepted-planned t es e = go a refl (subst (λ x. AnsweredBy x a) e promise.answered)
    where
      go : (b : Answer) → a ≡ b → AnsweredBy (accepted t es) b → (p : Plan) × (a ≡ Ok p) × PlannedAs t (records_of es) (rules_of es) p
      go (Err x) q h = absurd h
      go (Ok p) q h = (p, q, h)

  -- a cause of the table applies first exactly if that refusal is answered
  pub refused-exactly : (k i : ℕ) → (a ≡ Err (refusal k i)) ↔ Applies L s k i
  refused-exactly k i = (
    (λ q. go (read_of L s) refl q),
    (λ c. refused-answered k i (applies_refused L s c)),
  )
    where
      go : (x : Reading) → read_of L s ≡ x → a ≡ Err (refusal k i) → Applies L s k i
      go (refused n r) e q =
          let same : Err (refusal n r) ≡ Err (refusal k i) = sym (refused-answered n r e) ∙ q in
          let inner : refusal n r ≡ refusal k i = cc in
          subst (λ (x : Refusal). Applies L s x.number x.at) inner (refusal_applies L s e)
      go (accepted t es) e q = absurd (subst (AnsweredBy (accepted t es)) q (subst (λ x. AnsweredBy x a) e promise.answered))

  -- none applies exactly if the book is planned
  pub planned-exactly : ((p : Plan) × (a ≡ Ok p)) ↔ ((k i : ℕ) → Applies L s k i → ⊥)
  planned-exactly = (
    (λ x k i c. go x.0 x.1 k i c),
    (λ none. by (read_of L s) refl none),
  )
    where
      go : (p : Plan) → a ≡ Ok p → (k i : ℕ) → Applies L s k i → ⊥
      go p q k i c =
          let clash : Ok p ≡ Err (refusal k i) = sym q ∙ (refused-exactly k i).1 c in
          let z : ◌≡◌ {A = ℕ} 0 1 = cc in
          let b : ⊥ = omega arith in
          b

      by : (x : Reading) → read_of L s ≡ x → ((k i : ℕ) → Applies L s k i → ⊥) → (p : Plan) × (a ≡ Ok p)
      by (refused n r) e none = absurd (none n r (refusal_applies L s e))
      by (accepted t es) e none = let x = accepted-planned t es e in (x.0, x.1)

-- ---- demand 3: an accepted book s, its answer a and the plan p in it

module _ (L : Layout) (s : List ℕ) (a : Answer) (promise : Answers L s a)
    (t : Terms) (es : List Entry) (e : read_of L s ≡ accepted t es) (p : Plan) (q : a ≡ Ok p) where
  -- p is document 01's answer to the chain that the bytes read as
  pub planned : PlannedAs t (records_of es) (rules_of es) p
  planned = subst (AnsweredBy (accepted t es)) q (subst (λ r. AnsweredBy r a) e promise.answered)

  -- the floors and the rules that the bytes read as, in the chain's order
  abbrev pub chain : List Constraint
  chain = system t.floors (rules_of es)

  -- "impossible" exactly when no pair of fractions of any size keeps all rules
  pub impossible-exactly : (p.outcome ≡ outcome.Infeasible) ↔ Infeasible chain
  impossible-exactly = list.impossible-exactly t (records_of es) (rules_of es) p planned

  -- "unlimited" exactly when allowed pairs exist and gains have no top
  pub unlimited-exactly : ((u : Point) × (d : Ray) × (p.outcome ≡ outcome.Unbounded u d)) ↔ Unbounded chain t.objective
  unlimited-exactly = list.unlimited-exactly t (records_of es) (rules_of es) p planned

  -- "best" exactly when they exist and gains have a top
  pub best-exactly : ((v : Point) × (p.outcome ≡ outcome.Optimal v)) ↔ Bounded chain t.objective
  best-exactly = list.best-exactly t (records_of es) (rules_of es) p planned

  -- a best pair is allowed, no allowed pair gains more, and it is first by the tie
  pub best-pair : (v : Point) →
      p.outcome ≡ outcome.Optimal v →
      BestPoint tie tie_good t.floors t.objective (rules_of es) v
  best-pair = list.best-pair t (records_of es) (rules_of es) p planned

  -- of the allowed pairs with the greatest gain the one to take, in document 01's words
  pub best-least : (v : Point) →
      p.outcome ≡ outcome.Optimal v →
      (w : Point) →
      Feasible chain w →
      gain t.objective w *ℤ v.d ≡ gain t.objective v *ℤ w.d →
      NoLater v w
  best-least = list.best-least t (records_of es) (rules_of es) p planned

  -- it is not below the floors
  pub best-not-below : (v : Point) → p.outcome ≡ outcome.Optimal v → NotBelow t.floors v
  best-not-below = list.best-not-below t (records_of es) (rules_of es) p planned

  pub start-pair : (u : Point) (d : Ray) →
      p.outcome ≡ outcome.Unbounded u d →
      FirstPoint tie tie_good t.floors t.objective (rules_of es) u
  start-pair = list.start-pair t (records_of es) (rules_of es) p planned

  -- of the allowed pairs the one to take
  pub start-least : (u : Point) (d : Ray) →
      p.outcome ≡ outcome.Unbounded u d →
      (w : Point) →
      Feasible chain w →
      NoLater u w
  start-least = list.start-least t (records_of es) (rules_of es) p planned

  -- it is not below the floors either
  pub start-not-below : (u : Point) (d : Ray) → p.outcome ≡ outcome.Unbounded u d → NotBelow t.floors u
  start-not-below = list.start-not-below t (records_of es) (rules_of es) p planned

  -- the direction is a lawful candidate, none is less steep, and it is in lowest terms
  pub direction-given : (u : Point) (d : Ray) →
      p.outcome ≡ outcome.Unbounded u d →
      FlattestRay tie tie_good t.floors t.objective (rules_of es) d
  direction-given = list.direction-given t (records_of es) (rules_of es) p planned

  pub direction-lawful : (u : Point) (d : Ray) →
      p.outcome ≡ outcome.Unbounded u d →
      LawfulDirection (rules_of es) t.objective d
  direction-lawful = list.direction-lawful t (records_of es) (rules_of es) p planned

  -- X and Y at most 65,534,000,000,000 either way, D from 1 to 2,147,352,578; dx and dy at most 32,767
  pub numbers_bounded : SmallOutcome p.outcome
  numbers_bounded =
      list.numbers_bounded t (records_of es) (rules_of es) p planned (terms-small L s e).floors-small (rules-small L s e)

  -- the place is the least k whose first k rules allow no pair
  pub place-given : p.outcome ≡ outcome.Infeasible → Placed tie tie_good t.floors t.objective (rules_of es) p.place
  place-given = list.place-given t (records_of es) (rules_of es) p planned

  -- an "impossible" names rules that can be added up, and they exclude every pair
  pub witness-given : p.outcome ≡ outcome.Infeasible → Proves t (records_of es) (rules_of es) p.place p.witness
  witness-given = list.witness-given t (records_of es) (rules_of es) p planned

  pub witness_excludes : p.outcome ≡ outcome.Infeasible → Infeasible (system t.floors (take p.place (rules_of es)))
  witness_excludes = list.witness_excludes t (records_of es) (rules_of es) p planned

  -- looked up in the book and multiplied by their weights, the entries that it names add up to 0, 0 and a limit below 0
  pub witness-sums : p.outcome ≡ outcome.Infeasible → AddsUp (rule_named L t.floors s) (records_of es) p.place p.witness
  witness-sums =
      list.witness-sums t (records_of es) (rules_of es) p planned (chain-named L s t es e) (rule_named L t.floors s) (looked L s t es e)

  -- whichever of the named entries is given up, the others, looked up in the book, no longer clash
  pub witness-lean : p.outcome ≡ outcome.Infeasible → NothingSpare (rule_named L t.floors s) (named p.witness)
  witness-lean =
      list.witness-lean t (records_of es) (rules_of es) p planned (chain-named L s t es e) (rule_named L t.floors s) (looked L s t es e)

  -- its entries in the printed order: floors first, then records rising
  pub witness-rises : p.outcome ≡ outcome.Infeasible → InOrder p.witness
  witness-rises = list.witness-rises t (records_of es) (rules_of es) p planned

  -- one to three entries are named, and none twice: the codes of those in use rise strictly
  pub witness-none-twice : p.outcome ≡ outcome.Infeasible → NoneTwice p.witness
  witness-none-twice = list.witness-none-twice t (records_of es) (rules_of es) p planned (chain-named L s t es e)

  -- as many as the printed line counts
  pub witness-one-to-three : p.outcome ≡ outcome.Infeasible → (1 ≤ length (named p.witness)) × (length (named p.witness) ≤ 3)
  witness-one-to-three = list.witness-one-to-three t (records_of es) (rules_of es) p planned (chain-named L s t es e)

  pub moves-bounded : p.moves ≤ length es
  moves-bounded = subst (λ n. p.moves ≤ n) (length-rules es) (list.moves-bounded t (records_of es) (rules_of es) p planned)

  pub open_bounded : p.opened ≤ length es + 1
  open_bounded = subst (λ n. p.opened ≤ n + 1) (length-rules es) (list.open_bounded t (records_of es) (rules_of es) p planned)

-- two accepted books alike in objective, floors and rules get the same outcome, pair and direction, whatever their layouts and the order
-- of their rules
pub order-free : (L L' : Layout) (s s' : List ℕ) (a a' : Answer) →
    Answers L s a →
    Answers L' s' a' →
    (t : Terms) (es fs : List Entry) →
    read_of L s ≡ accepted t es →
    read_of L' s' ≡ accepted t fs →
    (p p' : Plan) →
    a ≡ Ok p →
    a' ≡ Ok p' →
    AlikeInRules (rules_of es) (rules_of fs) →
    p.outcome ≡ p'.outcome
order-free L L' s s' a a' promise promise' t es fs e e' p p' q q' alike =
    list.order-free t (records_of es) (records_of fs) (rules_of es) (rules_of fs) p p'
    (planned L s a promise t es e p q) (planned L' s' a' promise' t fs e' p' q') alike
