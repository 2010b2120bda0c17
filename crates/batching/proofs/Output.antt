-- What a batch hands back and leaves in the output, from what the book reads as.
use Rattle.std.specs.Prelude.{Some, None, Result, Ok, Err}
use Prim.Native.Nat.{ℕ, ◌*◌, ◌/◌, ◌≤◌, ◌<◌}
use mathlib.Core.Path.{◌≡◌, refl, sym, ap, ◌∙◌, subst}
use mathlib.Core.Bool.{Bool, true, false, cond}
use mathlib.Core.List.{List, ◌++◌}
use native.Mathlib.Omega.{arith}
use borrow.Author.Tests.{lt-ltb, le-ltb, ltb-true, ltb-false}
use lib.Dec.{ltb}
use lib.ListN.{length, drop}
use lib.IntN.{ℤ}
use Rattle.records.specs.Layout.{v2}
use Rattle.book.specs.declared.Head.{Head}
use Rattle.book.specs.Reading.{refused, read_of, rules_of}
use Rattle.engine.specs.Entries.{entries}
use Rattle.answers.specs.declared.Cause.{Cause}
use Rattle.answers.specs.declared.Cause.TheVariants as cause
use Rattle.answers.specs.declared.Refusal.{Refusal}
use Rattle.answers.specs.Cause.{number_of_cause}
use Rattle.objectives.specs.Objectives.{objectives_of, bad_objectives, cause_of}
use Rattle.offering.specs.Offers.{answers_for}
use Rattle.batching.specs.Promises as promised
use Rattle.batching.specs.Promises.{Batch, declined, batch_of, batched_of, output_of, Batches}
use Rattle.objectives.proofs.Sound.{whole-objectives}
use Rattle.offering.specs.declared.Unanswered.{Unanswered}
use Rattle.offering.specs.declared.Unanswered.TheVariants as unanswered
use Rattle.offering.specs.Answering.{Answers}
use Rattle.objectives.proofs.Turned.{cause-sixteen, cause-eleven, cause-none, none-sound, none-room}
use Rattle.offering.proofs.Written.{length-answers, length-objectives}
use Rattle.batching.specs.Asked.{Roomy, batched_by}
use Rattle.batching.proofs.Books.{Ready}
use Rattle.batching.proofs.Runs.{in-range}

module _ (s objectives out : List ℕ) where
  -- what a batch comes to fixes what is handed back and the output
  comes-to : (b : Batch) {r : Result ℕ Refusal} {after : List ℕ} →
      batch_of (read_of v2 s) objectives (length out) ≡ b →
      r ≡ batched_of b →
      after ≡ output_of b out →
      Batches s objectives out r after
  comes-to b e er ea =
      record { answer = er ∙ ap batched_of (sym e); output = ea ∙ ap (λ (x : Batch). output_of x out) (sym e) }

  pub batch-refused : {f : Refusal} →
      read_of v2 s ≡ refused f.number f.at →
      {r : Result ℕ Refusal} →
      r ≡ Err f →
      Batches s objectives out r out
  unfolding batch_of
  batch-refused {f} e er = comes-to (declined f.number f.at) (rw e) er refl

  module _ {h : Head} {l : List ℤ} (x : Ready s h l) where
    pub batch-sixteen : bad_objectives objectives ≡ true →
        {r : Result ℕ Refusal} →
        r ≡ batched_of (declined 16 0) →
        Batches s objectives out r out
    unfolding batch_of
    batch-sixteen e er = comes-to (declined 16 0) (rw (x.reads, e)) er refl

    pub batch-eleven : bad_objectives objectives ≡ false →
        length out < 8 * length objectives →
        {r : Result ℕ Refusal} →
        r ≡ batched_of (declined 11 0) →
        Batches s objectives out r out
    unfolding batch_of
    batch-eleven e short er =
        comes-to (declined 11 0) (rw (x.reads, e, lt-ltb (length out) (8 * length objectives) short)) er refl

    pub batch-answered : bad_objectives objectives ≡ false →
        8 * length objectives ≤ length out →
        {n : ℕ} →
        n ≡ h.n →
        {after : List ℕ} →
        after ≡ answers_for h.terms.floors (entries l 2 n) (objectives_of objectives) ++ drop (8 * length objectives) out →
        Batches s objectives out (Ok (8 * length objectives)) after
    unfolding batch_of
    batch-answered e room {n} en {after} ea =
        let bytes = answers_for x.terms.floors (rules_of x.chain) (objectives_of objectives) in
        let long : length bytes ≡ 8 * length objectives =
        omega (
          arith,
          length-answers x.terms.floors (rules_of x.chain) (objectives_of objectives),
          length-objectives objectives 0 (length objectives / 4),
          whole-objectives objectives e,
        ) in
        let same : answers_for h.terms.floors (entries l 2 n) (objectives_of objectives) ≡ bytes =
        ap (λ (k : ℕ). answers_for h.terms.floors (entries l 2 k) (objectives_of objectives)) en
        ∙ (λ j. answers_for (x.head j).terms.floors (x.rules j) (objectives_of objectives)) in
        comes-to (promised.answered bytes) (rw (x.reads, e, le-ltb (length out) (8 * length objectives) room))
        (ap (λ (n : ℕ). Ok n) (sym long))
        (ea ∙ (λ j. same j ++ drop (sym long j) out))

    -- what the objectives were answered is what the batch comes to
    module _
        {records : List ℕ} {run : List ℤ} {ring : List ℕ} {corners : List ℤ} (room : Roomy s records run ring corners)
        (order : List ℕ) (eo : length order ≡ h.n) (el : length l ≡ length run)
        {a : Result ℕ Unanswered} {l' : List ℤ} {order' ring' : List ℕ} {corners' : List ℤ} {after : List ℕ}
        (w : Answers h.terms.floors l order ring corners objectives out a l' order' ring' corners' after)
        {r : Result ℕ Refusal} (er : r ≡ batched_by a) where
      done : cause_of objectives (length out) ≡ None → Batches s objectives out r after
      done none =
          let d = w.done none in
          let so = in-range s h l x room order eo el in
          let bytes = answers_for h.terms.floors (entries l 2 (length order)) (objectives_of objectives) in
          subst (λ (z : Result ℕ Refusal). Batches s objectives out z after)
          (sym (er ∙ ap batched_by (d.answer ∙ ap (λ b. cond b (Ok (8 * length objectives)) (Err unanswered.Outside)) so)))
          (batch-answered (none-sound objectives (length out) none) (none-room objectives (length out) none) eo
          (d.output ∙ ap (λ b. cond b (bytes ++ drop (8 * length objectives) out) out) so))

      -- a cause's number
      turned-back : (k : Cause) →
          cause_of objectives (length out) ≡ Some k →
          (r ≡ batched_of (declined (number_of_cause k) 0)) × (after ≡ out)
      turned-back k e = let d = w.declined k e in (er ∙ ap batched_by d.answer, d.output)

      same-output : {b : List ℕ} → after ≡ b → Batches s objectives out r b → Batches s objectives out r after
      same-output e = subst (λ (z : List ℕ). Batches s objectives out r z) (sym e)

      pub batch-done : Batches s objectives out r after
      batch-done = go (bad_objectives objectives) refl (ltb (length out) (8 * length objectives)) refl
        where
          go : (b : Bool) →
              bad_objectives objectives ≡ b →
              (c : Bool) →
              ltb (length out) (8 * length objectives) ≡ c →
              Batches s objectives out r after
          go true e c q =
              let t = turned-back cause.Objectives (sym (cause-sixteen objectives (length out) e)) in
              same-output t.1 (batch-sixteen e t.0)
          go false e true q =
              let short = ltb-true (length out) (8 * length objectives) q in
              let t = turned-back cause.Room (sym (cause-eleven objectives (length out) e short)) in
              same-output t.1 (batch-eleven e short t.0)
          go false e false q =
              done (sym (cause-none objectives (length out) e (ltb-false (length out) (8 * length objectives) q)))
