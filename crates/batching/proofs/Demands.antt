-- What a batch's promise means: for all bytes of a book s, of objectives and of an output, what `batch` hands back for them, r, and the
-- output after it. Of the code each theorem takes the promise of that call, `Batches s objectives out r after`, and nothing else.
use Rattle.std.specs.Prelude.{Result, Ok, Err}
use Prim.Native.Nat.{ℕ, ◌*◌, ◌/◌, ◌≤◌, ◌<◌}
use mathlib.Core.Path.{◌≡◌, refl, sym, ap, ◌∙◌, subst}
use mathlib.Core.Bool.{Bool, true, false}
use mathlib.Core.List.{List, ◌++◌}
use mathlib.Core.Logic.{◌↔◌}
use native.Mathlib.Omega.{arith}
use borrow.Author.Tests.{le-ltb, ltb-true, ltb-false}
use lib.Dec.{ltb}
use lib.ListN.{length, take, drop, length-drop}
use lib.Seq.{take-append-le, drop-append-le}
use Rattle.lp.specs.declared.Constraint.{Constraint}
use Rattle.lp.specs.declared.Terms.{Terms}
use Rattle.lp.specs.declared.Floors.{Floors}
use Rattle.lp.specs.Outcome.{outcome}
use Rattle.lp.specs.Document.{tie, AlikeInRules}
use Rattle.records.specs.Layout.{Layout, v2}
use Rattle.book.specs.Reading.{Reading, refused, accepted, Entry, read_of, rules_of}
use Rattle.book.specs.Causes.{Applies}
use Rattle.book.proofs.Causes.{refusal_applies, applies_refused, accepted_no_cause, cause-number}
use Rattle.answers.specs.Answer.{Answer}
use Rattle.std.proofs.Common.{Ok}
use Rattle.answers.specs.declared.Plan.{Plan}
use Rattle.answers.specs.declared.Refusal.{Refusal}
use Rattle.answers.specs.Refusal.{refusal}
use Rattle.theory.proofs.Ties.{tie_good}
use Rattle.theory.proofs.Meaning.{outcome-order-free}
use Rattle.planner.specs.Planning.{Answers}
use Rattle.planner.proofs.Demands.{planned}
use Rattle.objectives.specs.Objectives.{objective_at, objectives_of, bad_objectives}
use Rattle.offering.specs.Offers.{offer_of, offer_bytes, answers_for}
use Rattle.batching.specs.Promises.{Batch, declined, answered, batch_of, batched_of, output_of, Batches}
use Rattle.objectives.specs.Causes.{WrongObjectives}
use Rattle.batching.specs.Causes.{Declines, own, sixteen, eleven}
use Rattle.objectives.proofs.Sound.{whole-objectives}
use Rattle.offering.proofs.Written.{length-answers, length-objectives, answer_at}
use Rattle.objectives.proofs.Wrong.{bad-wrong, sound-right}

-- ---- what a batch comes to, cause by cause

module _ (s objectives : List ℕ) (room : ℕ) where
  abbrev come : Batch
  come = batch_of (read_of v2 s) objectives room

  -- a batch to which no cause applies
  pub record Accepted : Type 0 where
    pub terms : Terms
    pub chain : List Entry
    pub reads : read_of v2 s ≡ accepted terms chain
    pub sound : bad_objectives objectives ≡ false
    pub fits : 8 * length objectives ≤ room

  -- each batch is declined or accepted
  pub data Fate : Type 0 where
    turned-back : (k i : ℕ) → Declines s objectives room k i → come ≡ declined k i → Fate
    taken : (x : Accepted) → come ≡ answered (answers_for x.terms.floors (rules_of x.chain) (objectives_of objectives)) → Fate

  pub fate : Fate
  unfolding batch_of
  fate = go (read_of v2 s) refl
    where
      none : {t : Terms} {es : List Entry} → read_of v2 s ≡ accepted t es → (k i : ℕ) → Applies v2 s k i → ⊥
      none e k i a = accepted_no_cause v2 s e a

      go : (x : Reading) → read_of v2 s ≡ x → Fate
      go (refused k i) e = turned-back k i (own (refusal_applies v2 s e)) (rw e)
      go (accepted t es) e = bad (bad_objectives objectives) refl
        where
          fit : bad_objectives objectives ≡ false → (b : Bool) → ltb room (8 * length objectives) ≡ b → Fate
          fit q true w =
              turned-back 11 0 (eleven (none e) (sound-right objectives q) (ltb-true room (8 * length objectives) w)) (rw (e, q, w))
          fit q false w =
              taken
              (record { terms = t; chain = es; reads = e; sound = q; fits = ltb-false room (8 * length objectives) w })
              (rw (e, q, w))

          bad : (b : Bool) → bad_objectives objectives ≡ b → Fate
          bad true q = turned-back 16 0 (sixteen (none e) (bad-wrong objectives q)) (rw (e, q))
          bad false q = fit q (ltb room (8 * length objectives)) refl

  from-accepted : Accepted → {k i : ℕ} → Declines s objectives room k i → ⊥
  from-accepted x (own a) = accepted_no_cause v2 s x.reads a
  from-accepted x (sixteen n w) = sound-right objectives x.sound w
  from-accepted x (eleven n w h) = let z : ⊥ = omega (arith, x.fits) in z

  own-said : {k i : ℕ} → Applies v2 s k i → come ≡ declined k i
  unfolding batch_of
  own-said a = rw (applies_refused v2 s a)

  same-cause : {k i k' i' : ℕ} →
      Declines s objectives room k' i' →
      come ≡ declined k' i' →
      Declines s objectives room k i →
      come ≡ declined k i
  same-cause x e (own b) = own-said b
  same-cause (own a) e (sixteen n w) = absurd (n _ _ a)
  same-cause (own a) e (eleven n w h) = absurd (n _ _ a)
  same-cause (sixteen n w) e (sixteen m v) = e
  same-cause (sixteen n w) e (eleven m v h) = absurd (v w)
  same-cause (eleven n w h) e (sixteen m v) = absurd (w v)
  same-cause (eleven n w h) e (eleven m v g) = e

  -- a cause that applies is the one that is said
  pub declines-said : (k i : ℕ) → Declines s objectives room k i → come ≡ declined k i
  declines-said k i d = go fate
    where
      go : Fate → come ≡ declined k i
      go (turned-back k' i' x e) = same-cause x e d
      go (taken x e) = absurd (from-accepted x d)

  -- no cause has the number 0
  pub declines-number : {k i : ℕ} → Declines s objectives room k i → 0 < k
  declines-number (own a) = (cause-number a).0
  declines-number (sixteen n w) = omega arith
  declines-number (eleven n w h) = omega arith

-- ---- the promise

ok_apart : {x : Refusal} {n : ℕ} → ◌≡◌ {A = Result ℕ Refusal} (Err x) (Ok n) → ⊥
ok_apart e = cc

same_refusal : {x y : Refusal} → ◌≡◌ {A = Result ℕ Refusal} (Err x) (Err y) → x ≡ y
same_refusal e = cc

same_count : {n m : ℕ} → ◌≡◌ {A = Result ℕ Refusal} (Ok n) (Ok m) → n ≡ m
same_count e = cc

module _ (s objectives out : List ℕ) (r : Result ℕ Refusal) (after : List ℕ) (promise : Batches s objectives out r after) where
  -- ---- refusals: these in this order, and no other

  -- a cause that applies first is handed back with its record, and the output is as it was
  pub declined-answered : (k i : ℕ) →
      Declines s objectives (length out) k i →
      (r ≡ Err (refusal k i)) × (after ≡ out)
  declined-answered k i d =
      let e = declines-said s objectives (length out) k i d in
      (promise.answer ∙ ap batched_of e, promise.output ∙ ap (λ (x : Batch). output_of x out) e)

  -- a refusal is handed back exactly if its cause applies first
  pub declined-exactly : (k i : ℕ) → (r ≡ Err (refusal k i)) ↔ Declines s objectives (length out) k i
  declined-exactly k i = (go (fate s objectives (length out)), (λ d. (declined-answered k i d).0))
    where
      go : Fate s objectives (length out) → r ≡ Err (refusal k i) → Declines s objectives (length out) k i
      go (turned-back k' i' d e) q =
          subst (λ (x : Refusal). Declines s objectives (length out) x.number x.at)
          (same_refusal (sym (promise.answer ∙ ap batched_of e) ∙ q)) d
      go (taken x e) q = absurd (ok_apart (sym q ∙ promise.answer ∙ ap batched_of e))

  -- no refusal is handed back exactly if no cause applies
  pub answered-exactly : ((n : ℕ) × (r ≡ Ok n)) ↔ ((k i : ℕ) → Declines s objectives (length out) k i → ⊥)
  answered-exactly = (
    (λ x k i d. ok_apart (sym (declined-answered k i d).0 ∙ x.1)),
    (λ none. go (fate s objectives (length out)) none),
  )
    where
      go : Fate s objectives (length out) → ((k i : ℕ) → Declines s objectives (length out) k i → ⊥) → (n : ℕ) × (r ≡ Ok n)
      go (turned-back k i d e) none = absurd (none k i d)
      go (taken x e) none = (_, promise.answer ∙ ap batched_of e)

  -- no more bytes are filled than the output has
  pub filled_within : (n : ℕ) → r ≡ Ok n → n ≤ length out
  filled_within n q = go (fate s objectives (length out))
    where
      few : (f : Floors) (rules : List Constraint) →
          bad_objectives objectives ≡ false →
          8 * length objectives ≤ length out →
          length (answers_for f rules (objectives_of objectives)) ≤ length out
      few f rules e h =
          omega (
            arith,
            length-answers f rules (objectives_of objectives),
            length-objectives objectives 0 (length objectives / 4),
            whole-objectives objectives e,
          )

      go : Fate s objectives (length out) → n ≤ length out
      go (turned-back k i d e) = absurd (ok_apart (sym (promise.answer ∙ ap batched_of e) ∙ q))
      go (taken x e) =
          rw (same_count (sym q ∙ promise.answer ∙ ap batched_of e)) (few x.terms.floors (rules_of x.chain) x.sound x.fits)

  -- ---- a batch that is not turned back

  module _ (t : Terms) (es : List Entry) (reads : read_of v2 s ≡ accepted t es) (right : WrongObjectives objectives → ⊥)
      (fits : 8 * length objectives ≤ length out) where
    abbrev bytes : List ℕ
    bytes = answers_for t.floors (rules_of es) (objectives_of objectives)

    sound : bad_objectives objectives ≡ false
    sound = go (bad_objectives objectives) refl
      where
        go : (b : Bool) → bad_objectives objectives ≡ b → b ≡ false
        go true q = absurd (right (bad-wrong objectives q))
        go false q = refl

    comes : batch_of (read_of v2 s) objectives (length out) ≡ answered bytes
    unfolding batch_of
    comes = rw (reads, sound, le-ltb (length out) (8 * length objectives) fits)

    bytes-long : length bytes ≡ 8 * length objectives
    bytes-long =
        omega (
          arith,
          length-answers t.floors (rules_of es) (objectives_of objectives),
          length-objectives objectives 0 (length objectives / 4),
          whole-objectives objectives sound,
        )

    -- 32 bytes are filled for each objective, and that is handed back
    pub filled-all : r ≡ Ok (8 * length objectives)
    filled-all = promise.answer ∙ ap batched_of comes ∙ ap (λ (n : ℕ). Ok n) bytes-long

    -- every byte of the output: the answers in the objectives' order, and then what was there
    pub every_byte : after ≡ bytes ++ drop (8 * length objectives) out
    every_byte =
        promise.output
        ∙ ap (λ (x : Batch). output_of x out) comes
        ∙ ap (λ (n : ℕ). bytes ++ drop n out) bytes-long

    -- the answer at i is the defined outcome and its pair
    pub answer_defined : (i : ℕ) →
        i < length objectives / 4 →
        take 32 (drop (32 * i) after) ≡ offer_bytes (offer_of (outcome tie t.floors (objective_at objectives i) (rules_of es)))
    answer_defined i h =
        let before : 32 * i ≤ length bytes = omega (arith, bytes-long, whole-objectives objectives sound) in
        let enough : 32 ≤ length (drop (32 * i) bytes) =
        omega (arith, length-drop (32 * i) bytes, bytes-long, whole-objectives objectives sound) in
        ap (λ l. take 32 (drop (32 * i) l)) every_byte
        ∙ ap (take 32) (drop-append-le (32 * i) bytes (drop (8 * length objectives) out) before)
        ∙ take-append-le 32 (drop (32 * i) bytes) (drop (8 * length objectives) out) enough
        ∙ answer_at t.floors (rules_of es) objectives (length objectives / 4) i h

    -- .. which are those that `plan` gives for any accepted book, of whichever version, that is alike in rules and floors and has this
    -- objective
    pub answer-is-plan : (i : ℕ) →
        i < length objectives / 4 →
        (L : Layout) (book : List ℕ) (a : Answer) →
        Answers L book a →
        (t' : Terms) (es' : List Entry) →
        read_of L book ≡ accepted t' es' →
        t'.floors ≡ t.floors →
        t'.objective ≡ objective_at objectives i →
        AlikeInRules (rules_of es') (rules_of es) →
        (p : Plan) →
        a ≡ Ok p →
        take 32 (drop (32 * i) after) ≡ offer_bytes (offer_of p.outcome)
    answer-is-plan i h L book a answers t' es' e floors objective alike p q =
        answer_defined i h
        ∙ ap (λ o. offer_bytes (offer_of o))
        (sym ((planned L book a answers t' es' e p q).outcome_defined
        ∙ (λ j. outcome tie (floors j) (objective j) (rules_of es'))
        ∙ outcome-order-free tie tie_good t.floors (objective_at objectives i) (rules_of es') (rules_of es) alike))
