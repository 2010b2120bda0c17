-- The demands of two books joined, of any bytes and whatever answer `Joins` allows: which book is turned back, and when; and the textbook's
-- words for the plan of both, each carried over from crate `plans`, whose laws are over lists of rules with names.
use Rattle.std.specs.Prelude.{Result, Ok, Err}
use mathlib.Core.Path.{◌≡◌, refl, sym, ◌∙◌, ap, subst}
use mathlib.Core.List.{List}
use mathlib.Core.Logic.{◌↔◌}
use Prim.Native.Nat.{ℕ, ◌+◌, ◌≤◌}
use native.Mathlib.Omega.{arith}
use lib.ListN.{length, take}
use lib.IntN.{◌*ℤ◌}
use Rattle.lp.specs.declared.Constraint.{Constraint}
use Rattle.lp.specs.declared.Terms.{Terms}
use Rattle.lp.specs.declared.Point.{Point}
use Rattle.lp.specs.declared.Ray.{Ray}
use Rattle.lp.specs.declared.Outcome.TheVariants as outcome
use Rattle.lp.specs.Program.{Feasible, system, gain}
use Rattle.lp.specs.Textbook.{Infeasible, Unbounded, Bounded, NoLater, LawfulDirection}
use Rattle.lp.specs.Certificate.{named, NothingSpare}
use Rattle.lp.specs.Document.{tie, count, AlikeInRules}
use Rattle.records.specs.Layout.{v2}
use Rattle.book.specs.Reading.{Reading, refused, accepted, Entry, read_of, rules_of}
use Rattle.book.specs.Causes.{Applies}
use Rattle.book.proofs.Bounds.{rules-small, terms-small}
use Rattle.book.proofs.Causes.{refusal_applies, applies_refused, accepted_no_cause}
use Rattle.answers.specs.declared.Plan.{Plan}
use Rattle.answers.specs.declared.Refusal.{Refusal}
use Rattle.answers.specs.Refusal.{refusal}
use Rattle.model.specs.Bounds.{SmallOutcome}
use Rattle.theory.proofs.Ties.{tie_good}
use Rattle.theory.proofs.Theorems.{BestPoint, FirstPoint, FlattestRay, Placed}
use Rattle.plans.specs.Planning.{PlannedAs, Proves}
use Rattle.plans.specs.Adding.{AddsUp}
use Rattle.plans.proofs.Ordered.{InOrder, NoneTwice}
use Rattle.plans.proofs.Demands as list
use Rattle.joining.specs.declared.JointRefusal.{JointRefusal}
use Rattle.joining.specs.declared.JointRefusal.TheVariants.{Site, Tenant}
use Rattle.joining.specs.Joining.{joined_names, joined_rules, joined_of, PlannedBy, JoinedBy, Joins, rule_named}
use Rattle.joint_terms.specs.Terms.{joined_terms}
use Rattle.joint_terms.proofs.Compared.{joined_small}
use Rattle.joining.proofs.Joins.{small_append}
use Rattle.joining.proofs.Named.{joined-named, looked, rules-many}
use Rattle.joining.proofs.Allowed.{allowed-by-both}
use Rattle.joining.proofs.Alike.{alike_within, alike_across}

-- no cause of the table turns a book back
abbrev pub NoCause : List ℕ → Type 0
NoCause s = (k i : ℕ) → Applies v2 s k i → ⊥

-- ---- what is turned back

module _ (s u : List ℕ) (a : Result Plan JointRefusal) (promise : Joins s u a) where
  by_readings : (x y : Reading) → read_of v2 s ≡ x → read_of v2 u ≡ y → JoinedBy (joined_of x y) a
  by_readings x y e q =
      subst (λ (w : Reading). JoinedBy (joined_of x w) a) q
      (subst (λ (w : Reading). JoinedBy (joined_of w (read_of v2 u)) a) e promise.answered)

  -- a refused site is answered with its number and record, whatever the tenant's book is
  pub site-answered : (n r : ℕ) → read_of v2 s ≡ refused n r → a ≡ Err (Site (refusal n r))
  site-answered n r e = by_readings (refused n r) (read_of v2 u) e refl

  -- else a refused tenant
  pub tenant-answered : (t : Terms) (es : List Entry) (n r : ℕ) →
      read_of v2 s ≡ accepted t es →
      read_of v2 u ≡ refused n r →
      a ≡ Err (Tenant (refusal n r))
  tenant-answered t es n r e q = by_readings (accepted t es) (refused n r) e q

  -- else the plan of the single list
  pub joined-answered : (t t' : Terms) (es fs : List Entry) →
      read_of v2 s ≡ accepted t es →
      read_of v2 u ≡ accepted t' fs →
      (p : Plan) × (a ≡ Ok p) × PlannedAs (joined_terms t t') (joined_names es fs) (joined_rules es fs) p
  joined-answered t t' es fs e q = go a refl (by_readings (accepted t es) (accepted t' fs) e q)
    where
      go : (b : Result Plan JointRefusal) →
          a ≡ b →
          PlannedBy (joined_terms t t') (joined_names es fs) (joined_rules es fs) b →
          (p : Plan) × (a ≡ Ok p) × PlannedAs (joined_terms t t') (joined_names es fs) (joined_rules es fs) p
      go (Err x) w h = absurd h
      go (Ok p) w h = (p, w, h)

  -- equal answers carry equal refusals, and two answers of different kinds are never equal
  same_site : {x y : Refusal} → ◌≡◌ {A = Result Plan JointRefusal} (Err (Site x)) (Err (Site y)) → x ≡ y
  same_site e = cc

  same_tenant : {x y : Refusal} → ◌≡◌ {A = Result Plan JointRefusal} (Err (Tenant x)) (Err (Tenant y)) → x ≡ y
  same_tenant e = cc

  site-not-tenant : {x y : Refusal} → ◌≡◌ {A = Result Plan JointRefusal} (Err (Site x)) (Err (Tenant y)) → ⊥
  site-not-tenant clash = let z : ◌≡◌ {A = ℕ} 0 1 = cc in let b : ⊥ = omega arith in b

  site-not-planned : {x : Refusal} {p : Plan} → ◌≡◌ {A = Result Plan JointRefusal} (Err (Site x)) (Ok p) → ⊥
  site-not-planned clash = let z : ◌≡◌ {A = ℕ} 0 1 = cc in let b : ⊥ = omega arith in b

  tenant-not-planned : {x : Refusal} {p : Plan} → ◌≡◌ {A = Result Plan JointRefusal} (Err (Tenant x)) (Ok p) → ⊥
  tenant-not-planned clash = let z : ◌≡◌ {A = ℕ} 0 1 = cc in let b : ⊥ = omega arith in b

  -- the site is turned back exactly if a cause of the table applies to its book
  pub site-refused-exactly : (k i : ℕ) → (a ≡ Err (Site (refusal k i))) ↔ Applies v2 s k i
  site-refused-exactly k i = (
    (λ w. go (read_of v2 s) (read_of v2 u) refl refl w),
    (λ c. site-answered k i (applies_refused v2 s c)),
  )
    where
      go : (x y : Reading) → read_of v2 s ≡ x → read_of v2 u ≡ y → a ≡ Err (Site (refusal k i)) → Applies v2 s k i
      go (refused n r) y e q w =
          subst (λ (x : Refusal). Applies v2 s x.number x.at) (same_site (sym (site-answered n r e) ∙ w)) (refusal_applies v2 s e)
      go (accepted t es) (refused n r) e q w = absurd (site-not-tenant (sym w ∙ tenant-answered t es n r e q))
      go (accepted t es) (accepted t' fs) e q w = absurd (site-not-planned (sym w ∙ (joined-answered t t' es fs e q).1))

  -- the tenant exactly if none applies to the site's book, and one to the tenant's
  pub tenant-refused-exactly : (k i : ℕ) → (a ≡ Err (Tenant (refusal k i))) ↔ (NoCause s × Applies v2 u k i)
  tenant-refused-exactly k i = (
    (λ w. go (read_of v2 s) (read_of v2 u) refl refl w),
    (λ c. back (read_of v2 s) refl c.0 (applies_refused v2 u c.1)),
  )
    where
      go : (x y : Reading) →
          read_of v2 s ≡ x →
          read_of v2 u ≡ y →
          a ≡ Err (Tenant (refusal k i)) →
          NoCause s × Applies v2 u k i
      go (refused n r) y e q w = absurd (site-not-tenant (sym (site-answered n r e) ∙ w))
      go (accepted t es) (refused n r) e q w =
          let inner = same_tenant (sym (tenant-answered t es n r e q) ∙ w) in (
            (λ m j c. accepted_no_cause v2 s e c),
            subst (λ (x : Refusal). Applies v2 u x.number x.at) inner (refusal_applies v2 u q),
          )
      go (accepted t es) (accepted t' fs) e q w = absurd (tenant-not-planned (sym w ∙ (joined-answered t t' es fs e q).1))

      back : (x : Reading) → read_of v2 s ≡ x → NoCause s → read_of v2 u ≡ refused k i → a ≡ Err (Tenant (refusal k i))
      back (refused n r) e none q = absurd (none n r (refusal_applies v2 s e))
      back (accepted t es) e none q = tenant-answered t es k i e q

  -- both are planned exactly if none applies to either
  pub planned-exactly : ((p : Plan) × (a ≡ Ok p)) ↔ (NoCause s × NoCause u)
  planned-exactly = (
    (λ x. go (read_of v2 s) (read_of v2 u) refl refl x.1),
    (λ none. back (read_of v2 s) (read_of v2 u) refl refl none),
  )
    where
      go : {p : Plan} (x y : Reading) → read_of v2 s ≡ x → read_of v2 u ≡ y → a ≡ Ok p → NoCause s × NoCause u
      go (refused n r) y e q w = absurd (site-not-planned (sym (site-answered n r e) ∙ w))
      go (accepted t es) (refused n r) e q w = absurd (tenant-not-planned (sym (tenant-answered t es n r e q) ∙ w))
      go (accepted t es) (accepted t' fs) e q w =
          ((λ m j c. accepted_no_cause v2 s e c), (λ m j c. accepted_no_cause v2 u q c))

      back : (x y : Reading) → read_of v2 s ≡ x → read_of v2 u ≡ y → NoCause s × NoCause u → (p : Plan) × (a ≡ Ok p)
      back (refused n r) y e q none = absurd (none.0 n r (refusal_applies v2 s e))
      back (accepted t es) (refused n r) e q none = absurd (none.1 n r (refusal_applies v2 u q))
      back (accepted t es) (accepted t' fs) e q none = let x = joined-answered t t' es fs e q in (x.0, x.1)

-- ---- two accepted books s and u, their answer a and the plan p in it

module _
    (s u : List ℕ) (a : Result Plan JointRefusal) (promise : Joins s u a)
    (t t' : Terms) (es fs : List Entry)
    (e : read_of v2 s ≡ accepted t es) (e' : read_of v2 u ≡ accepted t' fs)
    (p : Plan) (q : a ≡ Ok p) where
  -- what both are planned under
  abbrev pub terms : Terms
  terms = joined_terms t t'

  -- the floors and the rules of both, the site's first
  abbrev pub chain : List Constraint
  chain = system (joined_terms t t').floors (joined_rules es fs)

  -- the joined answer is that of the joined list
  pub planned : PlannedAs (joined_terms t t') (joined_names es fs) (joined_rules es fs) p
  planned = subst (PlannedBy (joined_terms t t') (joined_names es fs) (joined_rules es fs)) q (by_readings s u a promise (accepted t es) (accepted t' fs) e e')

  -- ---- which outcome

  -- "impossible" exactly when no pair of fractions of any size keeps both books' rules and the greater floors
  pub impossible-exactly : (p.outcome ≡ outcome.Infeasible) ↔ Infeasible chain
  impossible-exactly = list.impossible-exactly (joined_terms t t') (joined_names es fs) (joined_rules es fs) p planned

  -- which is to say, when no pair is allowed by each of the two books with its own floors
  pub impossible-by_books : (p.outcome ≡ outcome.Infeasible)
      ↔ ((v : Point) → Feasible (system t.floors (rules_of es)) v → Feasible (system t'.floors (rules_of fs)) v → ⊥)
  impossible-by_books = (
    (λ f v h k. impossible-exactly.0 f v ((allowed-by-both t.floors t'.floors (rules_of es) (rules_of fs) v).1 (h, k))),
    (λ none. impossible-exactly.1
        (λ v h. let both = (allowed-by-both t.floors t'.floors (rules_of es) (rules_of fs) v).0 h in none v both.0 both.1)),
  )

  -- "unlimited" exactly when allowed pairs exist and gains have no top
  pub unlimited-exactly : ((v : Point) × (d : Ray) × (p.outcome ≡ outcome.Unbounded v d)) ↔ Unbounded chain t'.objective
  unlimited-exactly = list.unlimited-exactly (joined_terms t t') (joined_names es fs) (joined_rules es fs) p planned

  -- "best" exactly when they exist and gains have a top
  pub best-exactly : ((v : Point) × (p.outcome ≡ outcome.Optimal v)) ↔ Bounded chain t'.objective
  best-exactly = list.best-exactly (joined_terms t t') (joined_names es fs) (joined_rules es fs) p planned

  -- ---- the pair and the direction

  -- a best pair is allowed, no allowed pair gains more by the tenant's objective, and it is first by the tie
  pub best-pair : (v : Point) →
      p.outcome ≡ outcome.Optimal v →
      BestPoint tie tie_good (joined_terms t t').floors t'.objective (joined_rules es fs) v
  best-pair = list.best-pair (joined_terms t t') (joined_names es fs) (joined_rules es fs) p planned

  pub best-least : (v : Point) →
      p.outcome ≡ outcome.Optimal v →
      (w : Point) →
      Feasible chain w →
      gain t'.objective w *ℤ v.d ≡ gain t'.objective v *ℤ w.d →
      NoLater v w
  best-least = list.best-least (joined_terms t t') (joined_names es fs) (joined_rules es fs) p planned

  pub start-pair : (v : Point) (d : Ray) →
      p.outcome ≡ outcome.Unbounded v d →
      FirstPoint tie tie_good (joined_terms t t').floors t'.objective (joined_rules es fs) v
  start-pair = list.start-pair (joined_terms t t') (joined_names es fs) (joined_rules es fs) p planned

  pub start-least : (v : Point) (d : Ray) →
      p.outcome ≡ outcome.Unbounded v d →
      (w : Point) →
      Feasible chain w →
      NoLater v w
  start-least = list.start-least (joined_terms t t') (joined_names es fs) (joined_rules es fs) p planned

  -- the direction is a lawful candidate, none is less steep, and it is in lowest terms
  pub direction-given : (v : Point) (d : Ray) →
      p.outcome ≡ outcome.Unbounded v d →
      FlattestRay tie tie_good (joined_terms t t').floors t'.objective (joined_rules es fs) d
  direction-given = list.direction-given (joined_terms t t') (joined_names es fs) (joined_rules es fs) p planned

  pub direction-lawful : (v : Point) (d : Ray) →
      p.outcome ≡ outcome.Unbounded v d →
      LawfulDirection (joined_rules es fs) t'.objective d
  direction-lawful = list.direction-lawful (joined_terms t t') (joined_names es fs) (joined_rules es fs) p planned

  -- every number of the outcome is within document 01's bounds
  pub numbers_bounded : SmallOutcome p.outcome
  numbers_bounded =
      list.numbers_bounded (joined_terms t t') (joined_names es fs) (joined_rules es fs) p planned
      (joined_small t t' (terms-small v2 s e) (terms-small v2 u e')).floors-small
      (small_append (rules_of es) (rules_of fs) (rules-small v2 s e) (rules-small v2 u e'))

  -- ---- the place and the witness

  -- the place is the least k such that the first k rules of the joined chain, with the greater floors, allow no pair
  pub place-given : p.outcome ≡ outcome.Infeasible →
      Placed tie tie_good (joined_terms t t').floors t'.objective (joined_rules es fs) p.place
  place-given = list.place-given (joined_terms t t') (joined_names es fs) (joined_rules es fs) p planned

  pub witness-given : p.outcome ≡ outcome.Infeasible →
      Proves (joined_terms t t') (joined_names es fs) (joined_rules es fs) p.place p.witness
  witness-given = list.witness-given (joined_terms t t') (joined_names es fs) (joined_rules es fs) p planned

  pub witness_excludes : p.outcome ≡ outcome.Infeasible →
      Infeasible (system (joined_terms t t').floors (take p.place (joined_rules es fs)))
  witness_excludes = list.witness_excludes (joined_terms t t') (joined_names es fs) (joined_rules es fs) p planned

  -- looked up by book and record and multiplied by their weights, its entries add up to 0, 0 and a limit below 0
  pub witness-sums : p.outcome ≡ outcome.Infeasible →
      AddsUp (rule_named (joined_terms t t').floors s u) (joined_names es fs) p.place p.witness
  witness-sums =
      list.witness-sums (joined_terms t t') (joined_names es fs) (joined_rules es fs) p planned (joined-named s u t t' es fs e e')
      (rule_named (joined_terms t t').floors s u) (looked s u t t' es fs e e' (joined_terms t t').floors)

  -- whichever of the named entries is given up, the others, looked up by book and record, no longer clash
  pub witness-lean : p.outcome ≡ outcome.Infeasible → NothingSpare (rule_named (joined_terms t t').floors s u) (named p.witness)
  witness-lean =
      list.witness-lean (joined_terms t t') (joined_names es fs) (joined_rules es fs) p planned (joined-named s u t t' es fs e e')
      (rule_named (joined_terms t t').floors s u) (looked s u t t' es fs e e' (joined_terms t t').floors)

  -- floors first, then the site's records rising, then the tenant's
  pub witness-rises : p.outcome ≡ outcome.Infeasible → InOrder p.witness
  witness-rises = list.witness-rises (joined_terms t t') (joined_names es fs) (joined_rules es fs) p planned

  -- no entry twice, and so each floor once at most
  pub witness-none-twice : p.outcome ≡ outcome.Infeasible → NoneTwice p.witness
  witness-none-twice =
      list.witness-none-twice (joined_terms t t') (joined_names es fs) (joined_rules es fs) p planned (joined-named s u t t' es fs e e')

  pub witness-one-to-three : p.outcome ≡ outcome.Infeasible → (1 ≤ length (named p.witness)) × (length (named p.witness) ≤ 3)
  witness-one-to-three =
      list.witness-one-to-three (joined_terms t t') (joined_names es fs) (joined_rules es fs) p planned (joined-named s u t t' es fs e e')

  -- ---- the counts

  pub moves-bounded : p.moves ≤ length es + length fs
  moves-bounded =
      subst (λ n. p.moves ≤ n) (rules-many s u t t' es fs e e')
      (list.moves-bounded (joined_terms t t') (joined_names es fs) (joined_rules es fs) p planned)

  pub open_bounded : p.opened ≤ length es + length fs + 1
  open_bounded =
      subst (λ n. p.opened ≤ n + 1) (rules-many s u t t' es fs e e')
      (list.open_bounded (joined_terms t t') (joined_names es fs) (joined_rules es fs) p planned)

-- ---- order

-- two pairs of books, their answers and the plans in them
module _
    (s u : List ℕ) (a : Result Plan JointRefusal) (promise : Joins s u a)
    (t t' : Terms) (es fs : List Entry)
    (e : read_of v2 s ≡ accepted t es) (e' : read_of v2 u ≡ accepted t' fs)
    (p : Plan) (q : a ≡ Ok p)
    (s₂ u₂ : List ℕ) (a₂ : Result Plan JointRefusal) (promise₂ : Joins s₂ u₂ a₂)
    (t₂ t₂' : Terms) (es₂ fs₂ : List Entry)
    (e₂ : read_of v2 s₂ ≡ accepted t₂ es₂) (e₂' : read_of v2 u₂ ≡ accepted t₂' fs₂)
    (p₂ : Plan) (q₂ : a₂ ≡ Ok p₂)
    (same : joined_terms t t' ≡ joined_terms t₂ t₂') where
  -- alike together, in whatever order and in whichever book each rule stands, they get the same outcome, pair and direction
  pub order-free : AlikeInRules (joined_rules es fs) (joined_rules es₂ fs₂) → p.outcome ≡ p₂.outcome
  order-free alike =
      list.order-free (joined_terms t₂ t₂') (joined_names es fs) (joined_names es₂ fs₂) (joined_rules es fs) (joined_rules es₂ fs₂) p p₂
      (subst (λ (x : Terms). PlannedAs x (joined_names es fs) (joined_rules es fs) p) same
      (planned s u a promise t t' es fs e e' p q))
      (planned s₂ u₂ a₂ promise₂ t₂ t₂' es₂ fs₂ e₂ e₂' p₂ q₂) alike

  -- the rules of each book in another order
  pub order-free-within :
      AlikeInRules (rules_of es) (rules_of es₂) →
      AlikeInRules (rules_of fs) (rules_of fs₂) →
      p.outcome ≡ p₂.outcome
  order-free-within h k = order-free (alike_within (rules_of es) (rules_of es₂) (rules_of fs) (rules_of fs₂) h k)

  -- the books' rules exchanged
  pub order-free-across : rules_of es₂ ≡ rules_of fs → rules_of fs₂ ≡ rules_of es → p.outcome ≡ p₂.outcome
  order-free-across h k =
      order-free
      (λ r. alike_across (rules_of es) (rules_of fs) r
      ∙ alike_within (rules_of fs) (rules_of es₂) (rules_of es) (rules_of fs₂) (λ x. ap (count x) (sym h)) (λ x. ap (count x) (sym k)) r)
