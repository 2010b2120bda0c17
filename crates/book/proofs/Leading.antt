-- What a judged link means for the walk: it ends there with a refusal, or it has come to a sound record that is new on the chain.
use Prim.Native.Nat.{ℕ, suc, ◌+◌, ◌≤◌, ◌<◌}
use mathlib.Core.Path.{◌≡◌, refl, sym, ap, ◌∙◌, subst, subst⁻¹}
use mathlib.Core.Bool.{Bool, true, false, cond, ◌||◌}
use mathlib.Core.List.{List, [], ◌∷◌, ◌++◌, map}
use native.Mathlib.Omega.{arith}
use native.Mathlib.Decide.{dec_lt}
use borrow.Author.Tests.{lt-ltb, le-ltb, eqb-true}
use lib.ListN.{length, length-append}
use lib.Dec.{eqb}
use Rattle.records.specs.declared.Rule.{Rule}
use Rattle.records.specs.Layout.{Layout}
use Rattle.records.specs.Record.{record_at, rule_of, link_of, decoded_of, number_of}
use Rattle.records.specs.Header.{count_of}
use Rattle.std.specs.Prelude.{Result, Ok, Err}
use Rattle.answers.specs.declared.Cause.{Cause}
use Rattle.answers.specs.declared.Cause.TheVariants.{Length}
use Rattle.answers.specs.Cause.{number_of_cause}
use Rattle.answers.specs.declared.Refusal.{Refusal}
use Rattle.answers.specs.Refusal.{refusal}
use Rattle.records.specs.declared.Sound.{Sound}
use Rattle.book.specs.Reading.{label_at, memb, refused, end_of}
use Rattle.book.specs.Causes.{Walked, header, visit}
use Rattle.book.specs.Tables.{is_noted}
use Rattle.book.specs.Judging.{record_after, is_passed, again, judged_as, judged, labels_after, SmallLabel}
use Rattle.records.proofs.Checks.{sound-holds}
use Rattle.book.proofs.Results.{ok-err, same_Ok}
use Rattle.book.proofs.Members.{memb_snoc, memb-map}
use Rattle.book.proofs.TableLaws.{Noted}
use Rattle.book.proofs.Links.{walk-over, walk-again, walk-fault, walk_repeat}
use Rattle.book.proofs.Causes.{rule-clear, walked_next}

-- what turns a link back leaves the table of labels as it is
pub again_kept : (r : Refusal) (labels : List ℕ) → labels ≡ labels_after (Err r) labels
again_kept r labels = refl

-- ---- the documents' tests, one by one

-- no cause has the number 0
pub some-number : (cause : Cause) → number_of_cause cause ≡ 0 → ⊥
some-number Length e = omega arith
some-number _ e = omega arith

module _ (L : Layout) (s : List ℕ) (labels : List ℕ) (count n at i : ℕ) where
  pub judged-over : count < i → Err (refusal 6 at) ≡ judged L s labels count n at i
  unfolding judged
  judged-over h = rw (lt-ltb count i h)

  module _ (h : i ≤ count) {d : Result Sound Cause} (e : d ≡ decoded_of L (record_at L s i)) where
    pub judged-held : judged_as L s labels n at i d ≡ judged L s labels count n at i
    unfolding judged
    judged-held = rw (le-ltb count i h, sym e)

  -- a sound record is new, or its label was met
  module _ (h : i ≤ count) (sound : Sound) (e : Ok sound ≡ decoded_of L (record_at L s i)) where
    pub judged-met : is_noted labels sound.rule.label ≡ true → Err (again L s n at i) ≡ judged L s labels count n at i
    judged-met q = sym (ap (λ b. cond b (Err (again L s n at i)) (Ok sound)) q) ∙ judged-held h e

    pub judged-sound : is_noted labels sound.rule.label ≡ false → Ok sound ≡ judged L s labels count n at i
    judged-sound q = sym (ap (λ b. cond b (Err (again L s n at i)) (Ok sound)) q) ∙ judged-held h e

  -- the label of a sound record is small, if one is met there
  pub small-over : count < i → i ≤ count → SmallLabel L s i
  small-over h k = absurd (let z : ⊥ = omega arith in z)

  pub small-faulty : {cause : Cause} → Err cause ≡ decoded_of L (record_at L s i) → i ≤ count → SmallLabel L s i
  small-faulty {cause} e k sound q = absurd (ok-err sound cause (q ∙ sym e))

  pub small-sound : {d : Sound} → Ok d ≡ decoded_of L (record_at L s i) → d.rule.label < 65536 → i ≤ count → SmallLabel L s i
  small-sound {d} e h k sound q = subst (λ (x : Sound). x.rule.label < 65536) (same_Ok d sound (e ∙ sym q)) h

-- ---- the records passed

add-one : (k : ℕ) → suc k ≡ k + 1
add-one k = omega arith

one_more : (done : List ℕ) (i : ℕ) → length (done ++ (i ∷ [])) ≡ suc (length done)
one_more done i = length-append done (i ∷ []) ∙ omega arith

module _ (L : Layout) (s : List ℕ) (n at i : ℕ) where
  pub again-passed : is_passed L s n i ≡ true → refusal 7 at ≡ again L s n at i
  again-passed p = rw p

  pub again-other : is_passed L s n i ≡ false → refusal 12 i ≡ again L s n at i
  again-other p = rw p

-- one link more
module _ (L : Layout) (s : List ℕ) (k : ℕ) {at next : ℕ} (here : at ≡ record_after L s k) (e : next ≡ link_of L (record_at L s at)) where
  pub after_more : next ≡ record_after L s (k + 1)
  unfolding record_after
  after_more = e ∙ ap (λ i. link_of L (record_at L s i)) here ∙ ap (record_after L s) (add-one k)

  pub passed-more : (i : ℕ) {found : Bool} → found ≡ is_passed L s k i → found || eqb i next ≡ is_passed L s (k + 1) i
  unfolding is_passed
  passed-more i f =
      (λ j. f j || eqb i ((after_more ∙ ap (record_after L s) (sym (add-one k))) j)) ∙ ap (λ n. is_passed L s n i) (add-one k)

module _ (L : Layout) (s : List ℕ) where
  -- as many links as records were passed lead to the record reached last
  after-walk : {done : List ℕ} {at : ℕ} → Walked L s done at → record_after L s (length done) ≡ at
  unfolding record_after
  after-walk (header a b c d f) = refl
  after-walk (visit {done = done} w i e z h m ka kb kc q) =
      ap (record_after L s) (one_more done i) ∙ ap (λ k. link_of L (record_at L s k)) (after-walk w) ∙ sym e

  -- so they lead to the records passed, and to no other
  passed_are : {done : List ℕ} {at : ℕ} (j : ℕ) → Walked L s done at → is_passed L s (length done) j ≡ memb j done
  unfolding is_passed memb
  passed_are j (header a b c d f) = refl
  passed_are j (visit {done = done} w i e z h m ka kb kc q) =
      ap (λ k. is_passed L s k j) (one_more done i)
      ∙ ap (λ x. x || eqb j (record_after L s (suc (length done)))) (passed_are j w)
      ∙ ap (λ k. memb j done || eqb j k)
      (sym (ap (record_after L s) (one_more done i)) ∙ after-walk (visit w i e z h m ka kb kc q))
      ∙ sym (memb_snoc j i done)

  -- a record that was passed was sound
  passed-sound : {done : List ℕ} {at : ℕ} (j : ℕ) →
      Walked L s done at →
      memb j done ≡ true →
      number_of (decoded_of L (record_at L s j)) ≡ 0
  unfolding memb
  passed-sound j (header a b c d f) p = absurd (let y : ◌≡◌ {A = ℕ} 0 1 = cc in let z : ⊥ = omega arith in z)
  passed-sound j (visit {done = done} w i e z h m ka kb kc q) p =
      go (memb j done) (sym (memb_snoc j i done) ∙ p) (λ x. passed-sound j w x)
    where
      go : (b : Bool) →
          b || eqb j i ≡ true →
          (b ≡ true → number_of (decoded_of L (record_at L s j)) ≡ 0) →
          number_of (decoded_of L (record_at L s j)) ≡ 0
      go true y before = before refl
      go false y before =
          ap (λ k. number_of (decoded_of L (record_at L s k))) (eqb-true j i y) ∙ rule-clear L s (record_at L s i) ka kb kc

-- ---- what it means for the walk

-- a sound record that was not visited, with a label that was not met
pub record NewRule (L : Layout) (s : List ℕ) (done : List ℕ) (i : ℕ) (r : Rule) (next : ℕ) : Type 0 where
  pub within : i ≤ count_of L s
  pub unvisited : memb i done ≡ false
  pub sound : number_of (decoded_of L (record_at L s i)) ≡ 0
  pub fresh : memb (label_at L s i) (map (label_at L s) done) ≡ false
  pub rule : r ≡ rule_of L (record_at L s i)
  pub link : next ≡ link_of L (record_at L s i)
  pub small : r.label < 65536

-- the walk ends there with a refusal, or has come to a new rule
abbrev pub Leads : Layout → List ℕ → (done : List ℕ) → (i : ℕ) → Result Sound Refusal → Type 0
Leads L s done i (Err r) = end_of L s ≡ record { reading = refused r.number r.at; passed = done }
Leads L s done i (Ok s') = NewRule L s done i s'.rule s'.next

module _
    {L : Layout} {s : List ℕ} {done : List ℕ} {labels : List ℕ} {n at i : ℕ}
    (small : i ≤ count_of L s → SmallLabel L s i) (w : Walked L s done at) (length-is : n ≡ length done)
    (met : Noted 1024 labels (map (label_at L s) done))
    (held : i ≡ link_of L (record_at L s at)) (some : i ≡ 0 → ⊥) where
  abbrev verdict : Result Sound Refusal
  verdict = judged L s labels (count_of L s) n at i

  to : {j : Result Sound Refusal} → j ≡ verdict → Leads L s done i j → Leads L s done i verdict
  to e l = subst⁻¹ (Leads L s done i) (sym e) l

  is-passed : is_passed L s n i ≡ memb i done
  is-passed = ap (λ k. is_passed L s k i) length-is ∙ passed_are L s i w

  module _ (h : i ≤ count_of L s) where
    -- a sound record
    module _ (s' : Sound) (e : Ok s' ≡ decoded_of L (record_at L s i)) where
      has : (s'.rule ≡ rule_of L (record_at L s i)) × (s'.next ≡ link_of L (record_at L s i))
      has = sound-holds L (record_at L s i) s'.rule s'.next (sym e)

      clear : number_of (decoded_of L (record_at L s i)) ≡ 0
      clear = ap number_of (sym e)

      met-label : is_noted labels s'.rule.label ≡ memb (label_at L s i) (map (label_at L s) done)
      met-label =
          met.agrees s'.rule.label (omega (arith, small h s' e))
          ∙ ap (λ (r : Rule). memb r.label (map (label_at L s) done)) has.0

      -- one that was passed is found by its label, and named by 7
      old : memb i done ≡ true → Leads L s done i verdict
      old m =
          to
          (ap Err (again-passed L s n at i (is-passed ∙ m))
          ∙ judged-met L s labels (count_of L s) n at i h s' e (met-label ∙ memb-map (label_at L s) done i m))
          (walked_next L s w ∙ walk-again L s _ done at i held some h m)

      by-label : memb i done ≡ false → (b : Bool) → is_noted labels s'.rule.label ≡ b → Leads L s done i verdict
      by-label m true q =
          to
          (ap Err (again-other L s n at i (is-passed ∙ m)) ∙ judged-met L s labels (count_of L s) n at i h s' e q)
          (walked_next L s w ∙ walk_repeat L s _ done at i held some h m clear (sym met-label ∙ q))
      by-label m false q =
          to (judged-sound L s labels (count_of L s) n at i h s' e q)
          (record { within = h; unvisited = m; sound = clear; fresh = sym met-label ∙ q; rule = has.0; link = has.1; small = small h s' e })

      by-passed : (b : Bool) → memb i done ≡ b → Leads L s done i verdict
      by-passed true m = old m
      by-passed false m = by-label m (is_noted labels s'.rule.label) refl

    -- one that a cause turns back was not passed
    faulty : (cause : Cause) → Err cause ≡ decoded_of L (record_at L s i) → (b : Bool) → memb i done ≡ b → Leads L s done i verdict
    faulty cause e true m = absurd (some-number cause (ap number_of e ∙ passed-sound L s i w m))
    faulty cause e false m =
        to (judged-held L s labels (count_of L s) n at i h e)
        (walked_next L s w
        ∙ walk-fault L s _ done at i held some h m (λ z. some-number cause (ap number_of e ∙ z))
        ∙ ap (λ k. record { reading = refused k i; passed = done }) (sym (ap number_of e)))

    by-record : (d : Result Sound Cause) → d ≡ decoded_of L (record_at L s i) → Leads L s done i verdict
    by-record (Ok s') e = by-passed s' e (memb i done) refl
    by-record (Err cause) e = faulty cause e (memb i done) refl

  pub leads : Leads L s done i verdict
  leads = go (dec_lt (count_of L s) i)
    where
      go : Dec (count_of L s < i) → Leads L s done i verdict
      go (yes h) =
          to (judged-over L s labels (count_of L s) n at i h)
          (walked_next L s w ∙ walk-over L s _ done at i held some h)
      go (no h) = by-record (omega arith) (decoded_of L (record_at L s i)) refl

  -- of an answer that is one of its cases, where the header's count was handed over
  pub leads-to : {r j : Result Sound Refusal} {count : ℕ} →
      count ≡ count_of L s →
      r ≡ judged L s labels count n at i →
      r ≡ j →
      Leads L s done i j
  leads-to c e q = subst (Leads L s done i) (sym (e ∙ ap (λ k. judged L s labels k n at i) c) ∙ q) leads
