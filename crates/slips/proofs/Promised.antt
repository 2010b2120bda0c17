-- From the planner's promise to the writer's: the slip of an accepted book has its plan's outcome, pair and direction, and gets a yes.
use mathlib.Core.Path.{◌≡◌, refl, sym, ◌∙◌, ap, subst}
use mathlib.Core.List.{List, [], ◌∷◌}
use mathlib.Core.Bool.{Bool, true, false}
use Prim.Native.Nat.{ℕ, zero, suc, ◌<◌}
use native.Mathlib.Omega.{arith}
use lib.Dec.{T}
use lib.ListN.{length, get_or}
use lib.IntN.{pos}
use lib.Signed.{lt_z}
use Rattle.lp.specs.declared.Constraint.{Constraint}
use Rattle.lp.specs.declared.Terms.{Terms}
use Rattle.lp.specs.declared.Point.{Point}
use Rattle.lp.specs.declared.Ray.{Ray}
use Rattle.lp.specs.declared.Outcome.TheVariants as outcome
use Rattle.lp.specs.Outcome.{det}
use Rattle.records.specs.Layout.{v2}
use Rattle.book.specs.Reading.{Reading, refused, accepted, Entry, read_of, rules_of, records_of}
use Rattle.book.proofs.Bounds.{rules-small, terms-small, index-within, count_room}
use Rattle.answers.specs.Answer.{Answer}
use Rattle.std.proofs.Common.{Ok, Err}
use Rattle.answers.specs.declared.Plan.{Plan}
use Rattle.answers.specs.declared.Refusal.{Refusal}
use Rattle.answers.specs.Refusal.{refusal}
use Rattle.model.specs.Bounds.{SmallPoint, SmallOutcome}
use Rattle.plans.specs.Planning.{Named, PlannedAs}
use Rattle.planner.specs.Planning.{AnsweredBy, Answers}
use Rattle.planner.proofs.Chains.{chain-named, length-records}
use Rattle.planner.proofs.Demands as plan
use Rattle.slip.specs.declared.Weights.{Weights}
use Rattle.slip.specs.declared.Slip.{Slip}
use Rattle.slip.specs.Facts.{judged}
use Rattle.slip.specs.Runs.{SmallPair}
use Rattle.std.specs.Prelude.{Ok, Err}
use Rattle.slips.specs.declared.pass.Held.{Held}
use Rattle.slips.specs.Pass.{normal_of, dot, held_of}
use Rattle.slip.specs.Weights.{no_weights}
use Rattle.slips.specs.Weights.{weights_with, one_weight, two_weights, weights_of, best_weights, conflict_weights, SmallCodes}
use Rattle.slips.specs.Writing.{BestOf, Tidy, TidyFor, Lean, Planned, Plans, Slips, WrittenBy, Writes}
use Rattle.slips.proofs.Yes.{optimum-yes, unlimited-yes}
use Rattle.slips.proofs.Conflict.{conflict-yes, conflict-lean, codes_small, unused_codes, conflict_tidy, Unused}
use Rattle.plans.proofs.Demands as list

never : (p : Plan) (x : Refusal) → Ok p ≡ Err x → ⊥
never p x e =
    let z : ◌≡◌ {A = ℕ} 0 1 = cc in
    let b : ⊥ = omega arith in
    b

unlimited-not-impossible : {v : Point} {d : Ray} → outcome.Unbounded v d ≡ outcome.Infeasible → ⊥
unlimited-not-impossible e =
    let z : ◌≡◌ {A = ℕ} 0 1 = cc in
    let b : ⊥ = omega arith in
    b

best-not-impossible : {v : Point} → outcome.Optimal v ≡ outcome.Infeasible → ⊥
best-not-impossible e =
    let z : ◌≡◌ {A = ℕ} 0 1 = cc in
    let b : ⊥ = omega arith in
    b

-- ---- an optimum's weights leave nothing behind

pub optimum_tidy : (f : Constraint) (h : Held) → Tidy (weights_of f h)
optimum_tidy f h = go (lt_z (pos 0) (dot f h.level.rule)) (lt_z (pos 0) (det h.right.rule h.left.rule))
  where
    two_tidy : (b : Bool) →
        Tidy (elim b [
          | true ↦
              weights_with (det h.right.rule h.left.rule) (pos 2) h.right.code (det f h.left.rule) h.left.code
              (det h.right.rule f) (pos 0) (pos 0)
          | false ↦
              weights_with (det h.right.rule h.left.rule) (pos 2) h.left.code (det h.right.rule f) h.right.code
              (det f h.left.rule) (pos 0) (pos 0)
        ])
    two_tidy true =
        record {
          first-unused = λ z. absurd (subst T z tt);
          second-unused = λ z. absurd (subst T z tt);
          third-unused = λ z. (refl, refl);
        }
    two_tidy false =
        record {
          first-unused = λ z. absurd (subst T z tt);
          second-unused = λ z. absurd (subst T z tt);
          third-unused = λ z. (refl, refl);
        }

    go : (a b : Bool) →
        Tidy (elim a [
          | true ↦ one_weight f h.level
          | false ↦ elim b [ true ↦ two_weights f h.right h.left | false ↦ no_weights (pos 1) ]
        ])
    go true b =
        record {
          first-unused = λ z. absurd (subst T z tt);
          second-unused = λ z. (refl, refl);
          third-unused = λ z. (refl, refl);
        }
    go false true = two_tidy (lt_z h.right.code h.left.code)
    go false false =
        record { first-unused = λ z. (refl, refl); second-unused = λ z. (refl, refl); third-unused = λ z. (refl, refl) }

-- ---- names are small

below_all : (l : List ℕ) (m : ℕ) → 0 < m → ((i : ℕ) → i < length l → get_or l i 0 < m) → (i : ℕ) → get_or l i 0 < m
below_all [] m h f i = h
below_all (x ∷ l) m h f zero = f 0 (omega arith)
below_all (x ∷ l) m h f (suc i) = below_all l m h (λ j b. f (suc j) (omega arith)) i

names-small : (s : List ℕ) (t : Terms) (es : List Entry) → read_of v2 s ≡ accepted t es → (i : ℕ) → get_or (records_of es) i 0 < 65536
names-small s t es e =
    below_all (records_of es) 65536 (omega arith)
    (λ i b. omega (arith, (index-within v2 s e i (omega (arith, b, length-records es))).1, count_room v2 s e))

-- ---- the slip of a plan

module _ (s : List ℕ) (p : Plan) (promise : Plans s p) where
  module _ (t : Terms) (es : List Entry) (e : read_of v2 s ≡ accepted t es) where
    abbrev names : List ℕ
    names = records_of es

    abbrev rules : List Constraint
    rules = rules_of es

    planned : PlannedAs t names rules p
    planned = plan.planned v2 s (Ok p) promise t es e p refl

    n : Named names rules
    n = chain-named v2 s t es e

    bounded : SmallOutcome p.outcome
    bounded = plan.numbers_bounded v2 s (Ok p) promise t es e p refl

    impossible-planned : (o : p.outcome ≡ outcome.Infeasible) (w : Weights) →
        w ≡ conflict_weights p.witness →
        Planned t es (record { outcome = p.outcome; weights = w })
    impossible-planned o w ew =
        record {
          outcome_defined = planned.outcome_defined;
          checked = (λ i. judged t names rules (record { outcome = o i; weights = ew i })) ∙ conflict-yes t names rules n p planned o;
          lean = λ q. subst (Lean t names rules) (sym ew) (conflict-lean t names rules n p planned o);
          unused = subst (λ x. TidyFor x w) (sym o) (
            ap (λ (x : Weights). x.scale) ew,
            subst Tidy (sym ew)
                (conflict_tidy p.witness
                (subst Unused (sym (list.witness-given t names rules p planned o).same_entries)
                (unused_codes names (list.witness-given t names rules p planned o).certificate))
                (list.witness-none-twice t names rules p planned n o)),
          );
        }

    unlimited-planned : (v : Point) (d : Ray) →
        p.outcome ≡ outcome.Unbounded v d →
        (w : Weights) →
        w ≡ no_weights (pos 0) →
        Planned t es (record { outcome = p.outcome; weights = w })
    unlimited-planned v d o w ew =
        record {
          outcome_defined = planned.outcome_defined;
          checked = ap (λ x. judged t names rules (record { outcome = x; weights = w })) o
              ∙ unlimited-yes t names rules n v d w (subst SmallOutcome o bounded).0 (subst SmallOutcome o bounded).1
              (plan.start-pair v2 s (Ok p) promise t es e p refl v d o).feasible
              (plan.direction-lawful v2 s (Ok p) promise t es e p refl v d o);
          lean = λ q. absurd (unlimited-not-impossible (sym o ∙ q));
          unused = subst (λ x. TidyFor x w) (sym o) ew;
        }

    best-planned : (v : Point) →
        p.outcome ≡ outcome.Optimal v →
        (w : Weights) →
        w ≡ best_weights t v names rules →
        Planned t es (record { outcome = p.outcome; weights = w })
    best-planned v o w ew =
        record {
          outcome_defined = planned.outcome_defined;
          checked = (λ i. judged t names rules (record { outcome = o i; weights = ew i }))
              ∙ optimum-yes t names rules n v (terms-small v2 s e) (rules-small v2 s e) (subst SmallOutcome o bounded)
              (plan.best-pair v2 s (Ok p) promise t es e p refl v o).feasible
              (plan.best-pair v2 s (Ok p) promise t es e p refl v o).no_more;
          lean = λ q. absurd (best-not-impossible (sym o ∙ q));
          unused = subst (λ x. TidyFor x w) (sym o)
              (subst Tidy (sym ew) (optimum_tidy (normal_of t.objective) (held_of t.objective v t.floors names rules)));
        }

  -- a planned book is an accepted one
  by-reading : {Q : Type 0} → ((t : Terms) (es : List Entry) → read_of v2 s ≡ accepted t es → Q) → Q
  by-reading {Q} f = go (read_of v2 s) refl
    where
      go : (r : Reading) → read_of v2 s ≡ r → Q
      go (refused k i) e = absurd (never p (refusal k i) (subst (λ r. AnsweredBy r (Ok p)) e promise.answered))
      go (accepted t es) e = f t es e

  pub witness_small : p.outcome ≡ outcome.Infeasible → SmallCodes p.witness
  witness_small o =
      by-reading (λ t es e.
      subst SmallCodes (sym (list.witness-given t (records_of es) (rules_of es) p (planned t es e) o).same_entries)
      (codes_small (records_of es) (names-small s t es e) (list.witness-given t (records_of es) (rules_of es) p
      (planned t es e) o).certificate))

  pub pair_small : (v : Point) → p.outcome ≡ outcome.Optimal v → SmallPair v
  pair_small v o = by-reading (λ t es e. small (subst SmallOutcome o (bounded t es e)))
    where
      small : SmallPoint v → SmallPair v
      small h = record { x-small = h.x-small; y-small = h.y-small; d_small = h.d_small }

  pub impossible-slip : p.outcome ≡ outcome.Infeasible →
      {w : Weights} →
      w ≡ conflict_weights p.witness →
      Slips s (record { outcome = p.outcome; weights = w })
  impossible-slip o {w} ew = record { of_book = λ t es e. impossible-planned t es e o w ew }

  pub unlimited-slip : (v : Point) (d : Ray) →
      p.outcome ≡ outcome.Unbounded v d →
      {w : Weights} →
      w ≡ no_weights (pos 0) →
      Slips s (record { outcome = p.outcome; weights = w })
  unlimited-slip v d o {w} ew = record { of_book = λ t es e. unlimited-planned t es e v d o w ew }

  pub best-slip : (v : Point) →
      p.outcome ≡ outcome.Optimal v →
      {w : Weights} →
      BestOf s v w →
      Slips s (record { outcome = outcome.Optimal v; weights = w })
  best-slip v o {w} b =
      subst (λ x. Slips s (record { outcome = x; weights = w })) o
      (record { of_book = λ t es e. best-planned t es e v o w (b.best t es e) })

-- ---- of any book

module _ (s : List ℕ) {a : Answer} (promise : Answers v2 s a) where
  pub plans_of : {p : Plan} → a ≡ Ok p → Plans s p
  plans_of q = subst (Answers v2 s) q promise

  pub refused-writes : {x : Refusal} → a ≡ Err x → Writes s (Err x)
  refused-writes {x} q = record { written = go (read_of v2 s) (subst (AnsweredBy (read_of v2 s)) q promise.answered) }
    where
      go : (r : Reading) → AnsweredBy r (Err x) → WrittenBy r (Err x)
      go (refused k i) e = let inner : x ≡ refusal k i = cc in ap Err inner
      go (accepted t es) e = absurd e

  pub given-writes : {p : Plan} → a ≡ Ok p → {slip : Slip} → Slips s slip → Writes s (Ok slip)
  given-writes {p} q {slip} k = record { written = go (read_of v2 s) refl }
    where
      go : (r : Reading) → read_of v2 s ≡ r → WrittenBy r (Ok slip)
      go (refused n i) e =
          absurd (never p (refusal n i) (subst (λ r. AnsweredBy r (Ok p)) e (plans_of q).answered))
      go (accepted t es) e = k.of_book t es e
