-- Both directions of reading: what `read_of` says is what document 01's table says. A refusal's cause applies and none before it does; an
-- accepted book's chain ends with no cause on the way; and where a cause applies first, the book is refused with its number and record.
use Prim.Native.Nat.{ℕ, zero, suc, ◌+◌, ◌-◌, ◌*◌, ◌/◌, ◌≤◌, ◌<◌}
use mathlib.Core.Path.{◌≡◌, refl, sym, ap, ◌∙◌, subst, ap₂}
use mathlib.Core.Bool.{Bool, true, false, cond}
use mathlib.Core.List.{List, [], ◌∷◌, ◌++◌, map}
use native.Mathlib.Omega.{arith}
use native.Mathlib.Decide.{ℕ_discrete}
use native.Mathlib.Nat.{div-le_of_le-mul, le-div_iff_mul-le, one-mul}
use borrow.Author.Tests.{eq-eqb, ne_eqb, ltb-true, ltb-false, eqb-true, eqb-false}
use lib.ListN.{length, set, replicate, length-append}
use lib.Dec.{eqb, ltb, lit≤}
use Rattle.lp.specs.declared.Terms.{Terms}
use Rattle.std.specs.Prelude.{Err, Some, None}
use Rattle.answers.specs.declared.Cause.TheVariants.{Length, Version, Count, Objective, Tail, Kind, Slope, Bound}
use Rattle.answers.specs.Cause.{numbered}
use Rattle.records.specs.Layout.{Layout, width}
use Rattle.records.specs.Record.{sound_with, record_at, link_of, pad_of, rule_of, bad_kind, bad_slope, bad_bound, decoded_with, decoded_of, number_of}
use Rattle.records.specs.Header.{terms_of, count_of, header_cause, header_fault, bad_length, bad_version, bad_count, bad_objective, bad_tail}
use Rattle.book.specs.Reading.{Reading, refused, accepted, Entry, Ending, entry_at, label_at, memb, walk, end_of, read_of, passed_of}
use Rattle.book.specs.Causes.{WrongLength, WrongVersion, WrongCount, WrongObjective, WrongTail, WrongKind, WrongSlope, WrongBound, short, long, differs, Walked, header, visit, Reached, Applies, cause_1, cause_2, cause_3, cause_4, cause_5, cause_6, cause_7, cause_8, cause_9, cause_10, cause_12, Accepts, Meets}
use Rattle.book.proofs.Decided.{refutes, refuted, length-test, version-test, count-test, objective-test, tail-test, kind-test, slope-test, bound-test}
use Rattle.book.proofs.Links.{walk_ends, walk-over, walk-again, walk-fault, walk_repeat, walk-on, Marked, marked_start, marked_step}

abbrev reading : Ending → Reading
reading e = e.reading

-- a value of Bool, with its equation
by-test : (b : Bool) {X : Type 0} → (b ≡ true → X) → (b ≡ false → X) → X
by-test true f g = f refl
by-test false f g = g refl

not-below : (m n : ℕ) → (m < n → ⊥) → n ≤ m
not-below m n h = omega arith

eq_of : (m n : ℕ) → ((m ≡ n → ⊥) → ⊥) → m ≡ n
eq_of m n h = go (ℕ_discrete m n)
  where
    go : Dec (m ≡ n) → m ≡ n
    go (yes e) = e
    go (no d) = absurd (h d)

-- the number of the first of five tests that is true
abbrev first : Bool → Bool → Bool → Bool → Bool → ℕ
first a b c d f =
    numbered (cond a (Some Length) (cond b (Some Version) (cond c (Some Count) (cond d (Some Objective) (cond f (Some Tail) None)))))

module _ (L : Layout) (s : List ℕ) where
  -- ---- the header

  pub header_good : header_fault L s ≡ 0 → Walked L s [] 0
  unfolding header_fault header_cause
  header_good e = go (bad_length L s) (bad_version L s) (bad_count L s) (bad_objective L s) (bad_tail L s) refl refl refl refl refl e
    where
      go : (a b c d f : Bool) →
          bad_length L s ≡ a →
          bad_version L s ≡ b →
          bad_count L s ≡ c →
          bad_objective L s ≡ d →
          bad_tail L s ≡ f →
          first a b c d f ≡ 0 →
          Walked L s [] 0
      go true b c d f pa pb pc pd pf e = absurd (let z : ⊥ = omega arith in z)
      go false true c d f pa pb pc pd pf e = absurd (let z : ⊥ = omega arith in z)
      go false false true d f pa pb pc pd pf e = absurd (let z : ⊥ = omega arith in z)
      go false false false true f pa pb pc pd pf e = absurd (let z : ⊥ = omega arith in z)
      go false false false false true pa pb pc pd pf e = absurd (let z : ⊥ = omega arith in z)
      go false false false false false pa pb pc pd pf e =
          header (refutes (length-test L s) pa) (refutes (version-test L s) pb) (refutes (count-test L s) pc)
          (refutes (objective-test L s) pd) (refutes (tail-test L s) pf)

  header-bad : (header_fault L s ≡ 0 → ⊥) → Applies L s (header_fault L s) 0
  unfolding header_fault header_cause
  header-bad h = go (bad_length L s) (bad_version L s) (bad_count L s) (bad_objective L s) (bad_tail L s) refl refl refl refl refl h
    where
      go : (a b c d f : Bool) →
          bad_length L s ≡ a →
          bad_version L s ≡ b →
          bad_count L s ≡ c →
          bad_objective L s ≡ d →
          bad_tail L s ≡ f →
          (first a b c d f ≡ 0 → ⊥) →
          Applies L s (first a b c d f) 0
      go true b c d f pa pb pc pd pf h = cause_1 ((length-test L s).holds pa)
      go false true c d f pa pb pc pd pf h = cause_2 (refutes (length-test L s) pa) ((version-test L s).holds pb)
      go false false true d f pa pb pc pd pf h =
          cause_3 (refutes (length-test L s) pa) (refutes (version-test L s) pb) ((count-test L s).holds pc)
      go false false false true f pa pb pc pd pf h =
          cause_4 (refutes (length-test L s) pa) (refutes (version-test L s) pb) (refutes (count-test L s) pc)
          ((objective-test L s).holds pd)
      go false false false false true pa pb pc pd pf h =
          cause_5 (refutes (length-test L s) pa) (refutes (version-test L s) pb) (refutes (count-test L s) pc)
          (refutes (objective-test L s) pd) ((tail-test L s).holds pf)
      go false false false false false pa pb pc pd pf h = absurd (h refl)

  header-clear : (WrongLength L s → ⊥) →
      (WrongVersion L s → ⊥) →
      (WrongCount L s → ⊥) →
      (WrongObjective L s → ⊥) →
      (WrongTail L s → ⊥) →
      header_fault L s ≡ 0
  unfolding header_fault header_cause
  header-clear a b c d f =
      rw (
        refuted (length-test L s) a,
        refuted (version-test L s) b,
        refuted (count-test L s) c,
        refuted (objective-test L s) d,
        refuted
            (tail-test L s) f,
      )

  header_1 : WrongLength L s → header_fault L s ≡ 1
  unfolding header_fault header_cause
  header_1 a = rw ((length-test L s).tests a)

  header_2 : (WrongLength L s → ⊥) → WrongVersion L s → header_fault L s ≡ 2
  unfolding header_fault header_cause
  header_2 a b = rw (refuted (length-test L s) a, (version-test L s).tests b)

  header_3 : (WrongLength L s → ⊥) → (WrongVersion L s → ⊥) → WrongCount L s → header_fault L s ≡ 3
  unfolding header_fault header_cause
  header_3 a b c = rw (refuted (length-test L s) a, refuted (version-test L s) b, (count-test L s).tests c)

  header_4 : (WrongLength L s → ⊥) → (WrongVersion L s → ⊥) → (WrongCount L s → ⊥) → WrongObjective L s → header_fault L s ≡ 4
  unfolding header_fault header_cause
  header_4 a b c d =
      rw (refuted (length-test L s) a, refuted (version-test L s) b, refuted (count-test L s) c, (objective-test L s).tests d)

  header_5 : (WrongLength L s → ⊥) →
      (WrongVersion L s → ⊥) →
      (WrongCount L s → ⊥) →
      (WrongObjective L s → ⊥) →
      WrongTail L s →
      header_fault L s ≡ 5
  unfolding header_fault header_cause
  header_5 a b c d f =
      rw (
        refuted (length-test L s) a,
        refuted (version-test L s) b,
        refuted (count-test L s) c,
        refuted
            (objective-test L s) d,
        (tail-test L s).tests f,
      )

  -- a header with the right length and count has its count below the greatest number of records
  count-below : (WrongLength L s → ⊥) → (WrongCount L s → ⊥) → count_of L s < L.records
  count-below a c =
      let e : count_of L s ≡ length s / width L - 1 = eq_of (count_of L s) (length s / width L - 1) (λ n. c (differs n)) in
      let l : width L ≤ length s = not-below (length s) (width L) (λ h. a (short h)) in
      let g : length s ≤ width L * L.records = not-below (width L * L.records) (length s) (λ h. a (long h)) in
      let one : 1 ≤ length s / width L = (le-div_iff_mul-le {k = width L} {x = 1} {y = length s} (omega arith)).1 (rw one-mul l) in
      let most : length s / width L ≤ L.records = div-le_of_le-mul (width L) g in
      omega arith

  -- ---- a rule record

  module _ (r : List ℕ) where
    pub rule_good : number_of (decoded_of L r) ≡ 0 → (WrongKind L r → ⊥) × (WrongSlope L r → ⊥) × (WrongBound L r → ⊥)
    unfolding decoded_of decoded_with
    rule_good e = go (bad_kind (eqb (pad_of L r) 0) (rule_of L r)) (bad_slope (rule_of L r)) (bad_bound (rule_of L r)) refl refl refl e
      where
        go : (a b c : Bool) →
            bad_kind (eqb (pad_of L r) 0) (rule_of L r) ≡ a →
            bad_slope (rule_of L r) ≡ b →
            bad_bound (rule_of L r) ≡ c →
            number_of (cond a (Err Kind) (cond b (Err Slope) (cond c (Err Bound) (sound_with (rule_of L r) (link_of L r))))) ≡ 0 →
            (WrongKind L r → ⊥) × (WrongSlope L r → ⊥) × (WrongBound L r → ⊥)
        go true b c pa pb pc e = absurd (let z : ⊥ = omega arith in z)
        go false true c pa pb pc e = absurd (let z : ⊥ = omega arith in z)
        go false false true pa pb pc e = absurd (let z : ⊥ = omega arith in z)
        go false false false pa pb pc e = (refutes (kind-test L r) pa, refutes (slope-test L r) pb, refutes (bound-test L r) pc)

    pub rule-clear : (WrongKind L r → ⊥) → (WrongSlope L r → ⊥) → (WrongBound L r → ⊥) → number_of (decoded_of L r) ≡ 0
    unfolding decoded_of decoded_with
    rule-clear a b c = rw (refuted (kind-test L r) a, refuted (slope-test L r) b, refuted (bound-test L r) c)

    rule_8 : WrongKind L r → number_of (decoded_of L r) ≡ 8
    unfolding decoded_of decoded_with
    rule_8 a = rw ((kind-test L r).tests a)

    rule_9 : (WrongKind L r → ⊥) → WrongSlope L r → number_of (decoded_of L r) ≡ 9
    unfolding decoded_of decoded_with
    rule_9 a b = rw (refuted (kind-test L r) a, (slope-test L r).tests b)

    rule_10 : (WrongKind L r → ⊥) → (WrongSlope L r → ⊥) → WrongBound L r → number_of (decoded_of L r) ≡ 10
    unfolding decoded_of decoded_with
    rule_10 a b c = rw (refuted (kind-test L r) a, refuted (slope-test L r) b, (bound-test L r).tests c)

  rule-bad : (i : ℕ) →
      Reached L s i →
      (number_of (decoded_of L (record_at L s i)) ≡ 0 → ⊥) →
      Applies L s (number_of (decoded_of L (record_at L s i))) i
  unfolding decoded_of decoded_with
  rule-bad i w h = go (bad_kind (eqb (pad_of L r) 0) (rule_of L r)) (bad_slope (rule_of L r)) (bad_bound (rule_of L r)) refl refl refl h
    where
      r : List ℕ
      r = record_at L s i

      go : (a b c : Bool) →
          bad_kind (eqb (pad_of L r) 0) (rule_of L r) ≡ a →
          bad_slope (rule_of L r) ≡ b →
          bad_bound (rule_of L r) ≡ c →
          (number_of (cond a (Err Kind) (cond b (Err Slope) (cond c (Err Bound) (sound_with (rule_of L r) (link_of L r))))) ≡ 0 → ⊥) →
          Applies L s (number_of (cond a (Err Kind) (cond b (Err Slope) (cond c (Err Bound) (sound_with (rule_of L r) (link_of L r)))))) i
      go true b c pa pb pc h = cause_8 w ((kind-test L r).holds pa)
      go false true c pa pb pc h = cause_9 w (refutes (kind-test L r) pa) ((slope-test L r).holds pb)
      go false false true pa pb pc h = cause_10 w (refutes (kind-test L r) pa) (refutes (slope-test L r) pb) ((bound-test L r).holds pc)
      go false false false pa pb pc h = absurd (h refl)

  -- ---- the chain

  -- the marks of the records visited
  walked_marks : {done : List ℕ} {at : ℕ} → Walked L s done at → (seen : List Bool) × Marked (count_of L s) done seen
  walked_marks (header a b c d f) = (true ∷ replicate (count_of L s) false, marked_start (count_of L s))
  walked_marks (visit w i e z h m ka kb kc q) =
      let rest = walked_marks w in
      (set rest.0 i true, marked_step rest.1 i (omega arith) h m)

  pub walked-count : {done : List ℕ} {at : ℕ} → Walked L s done at → count_of L s < L.records
  walked-count (header a b c d f) = count-below a c
  walked-count (visit w i e z h m ka kb kc q) = walked-count w

  pub walked-length : {done : List ℕ} {at : ℕ} → Walked L s done at → length done ≤ count_of L s
  walked-length w = omega (arith, (walked_marks w).1.counted)

  -- what the walk comes to, from where it was walked to
  walk_meets : (links : ℕ) (done : List ℕ) (at : ℕ) →
      Walked L s done at →
      count_of L s < length done + links →
      Meets L s (walk L s links done at).reading
  walk_meets zero done at w h = absurd (let z : ⊥ = omega (arith, walked-length w) in z)
  walk_meets (suc links) done at w h =
      by-test (eqb i 0) ends
      (λ z. by-test (ltb (count_of L s) i) (over z)
      (λ b. by-test (memb i done) (again z b)
      (λ m. by-test (eqb (number_of (decoded_of L (record_at L s i))) 0)
      (λ f. by-test (memb (label_at L s i) (map (label_at L s) done)) (repeated z b m f)
      (λ q.
      let good = rule_good (record_at L s i) (eqb-true (number_of (decoded_of L (record_at L s i))) 0 f) in
      subst (λ (e : Ending). Meets L s e.reading)
      (sym
      (walk-on L s links done at i refl (eqb-false i 0 z) (ltb-false (count_of L s) i b) m
      (eqb-true (number_of (decoded_of L (record_at L s i))) 0 f) q))
      (walk_meets links (done ++ (i ∷ [])) i
      (visit w i refl (eqb-false i 0 z) (ltb-false (count_of L s) i b) m good.0 good.1 good.2 q)
      (omega (arith, length-append done (i ∷ []))))))
      (fault z b m))))
    where
      i : ℕ
      i = link_of L (record_at L s at)

      ends : eqb i 0 ≡ true → Meets L s (walk L s (suc links) done at).reading
      ends z =
          subst (λ (e : Ending). Meets L s e.reading) (sym (walk_ends L s links done at i refl (eqb-true i 0 z)))
          (record { done = done; at = at; walked = w; ends = eqb-true i 0 z; terms = refl; entries = refl })

      over : eqb i 0 ≡ false → ltb (count_of L s) i ≡ true → Meets L s (walk L s (suc links) done at).reading
      over z b =
          subst (λ (e : Ending). Meets L s e.reading)
          (sym (walk-over L s links done at i refl (eqb-false i 0 z) (ltb-true (count_of L s) i b)))
          (cause_6 w (ltb-true (count_of L s) i b))

      again : eqb i 0 ≡ false → ltb (count_of L s) i ≡ false → memb i done ≡ true → Meets L s (walk L s (suc links) done at).reading
      again z b m =
          subst (λ (e : Ending). Meets L s e.reading)
          (sym (walk-again L s links done at i refl (eqb-false i 0 z) (ltb-false (count_of L s) i b) m))
          (cause_7 w (eqb-false i 0 z) (ltb-false (count_of L s) i b) m)

      repeated : eqb i 0 ≡ false →
          ltb (count_of L s) i ≡ false →
          memb i done ≡ false →
          eqb (number_of (decoded_of L (record_at L s i))) 0 ≡ true →
          memb (label_at L s i) (map (label_at L s) done) ≡ true →
          Meets L s (walk L s (suc links) done at).reading
      repeated z b m f q =
          let good = rule_good (record_at L s i) (eqb-true (number_of (decoded_of L (record_at L s i))) 0 f) in
          subst (λ (e : Ending). Meets L s e.reading)
          (sym
          (walk_repeat L s links done at i refl (eqb-false i 0 z) (ltb-false (count_of L s) i b) m
          (eqb-true (number_of (decoded_of L (record_at L s i))) 0 f) q))
          (cause_12
          (record {
            done = done;
            at = at;
            walked = w;
            link = refl;
            some = eqb-false i 0 z;
            within = ltb-false (count_of L s) i b;
            new = m;
          }) good.0 good.1 good.2 q)

      fault : eqb i 0 ≡ false →
          ltb (count_of L s) i ≡ false →
          memb i done ≡ false →
          eqb (number_of (decoded_of L (record_at L s i))) 0 ≡ false →
          Meets L s (walk L s (suc links) done at).reading
      fault z b m f =
          subst (λ (e : Ending). Meets L s e.reading)
          (sym
          (walk-fault L s links done at i refl (eqb-false i 0 z) (ltb-false (count_of L s) i b) m
          (eqb-false (number_of (decoded_of L (record_at L s i))) 0 f)))
          (rule-bad i
          (record {
            done = done;
            at = at;
            walked = w;
            link = refl;
            some = eqb-false i 0 z;
            within = ltb-false (count_of L s) i b;
            new = m;
          }) (eqb-false (number_of (decoded_of L (record_at L s i))) 0 f))

  -- ---- the whole book

  pub ends-clear : header_fault L s ≡ 0 → end_of L s ≡ walk L s L.records [] 0
  unfolding end_of
  ends-clear e = rw (eq-eqb (header_fault L s) 0 e)

  pub ends_faulty : (header_fault L s ≡ 0 → ⊥) → end_of L s ≡ record { reading = refused (header_fault L s) 0; passed = [] }
  unfolding end_of
  ends_faulty e = rw (ne_eqb (header_fault L s) 0 e)

  -- the count of a header that is not refused
  pub count_small : header_fault L s ≡ 0 → count_of L s < L.records
  count_small e = walked-count (header_good e)

  -- and it is as many as there are records after the header
  pub count-is : header_fault L s ≡ 0 → count_of L s ≡ length s / width L - 1
  count-is e = eq_of (count_of L s) (length s / width L - 1) (λ h. right (header_good e) (differs h))
    where
      right : {done : List ℕ} {at : ℕ} → Walked L s done at → WrongCount L s → ⊥
      right (header a b c d f) = c
      right (visit w i e z h m ka kb kc q) = right w

  -- what a book reads as is what the table says of it
  pub reading-meets : Meets L s (read_of L s)
  reading-meets =
      by-test (eqb (header_fault L s) 0)
      (λ e.
      let w = header_good (eqb-true (header_fault L s) 0 e) in
      subst (λ (e : Ending). Meets L s e.reading) (sym (ends-clear (eqb-true (header_fault L s) 0 e)))
      (walk_meets L.records [] 0 w (omega (arith, walked-count w))))
      (λ e.
      let h = eqb-false (header_fault L s) 0 e in
      subst (λ (e : Ending). Meets L s e.reading) (sym (ends_faulty h)) (header-bad h))

  -- a refusal's cause applies, and none before it
  pub refusal_applies : {k i : ℕ} → read_of L s ≡ refused k i → Applies L s k i
  refusal_applies e = subst (Meets L s) e reading-meets

  -- no cause applies along an accepted book's chain
  pub acceptance_means : {t : Terms} {es : List Entry} → read_of L s ≡ accepted t es → Accepts L s t es
  acceptance_means e = subst (Meets L s) e reading-meets

  -- ---- and the other way round

  walked-goes-on : {done : List ℕ} {at : ℕ} → Walked L s done at → end_of L s ≡ walk L s (L.records - length done) done at
  walked-goes-on (header a b c d f) = ends-clear (header-clear a b c d f) ∙ ap (λ n. walk L s n [] 0) (omega arith)
  walked-goes-on (visit {done = done} {at = at} w i e z h m ka kb kc q) =
      let left : L.records - length done ≡ suc (L.records - length (done ++ (i ∷ []))) =
      omega (arith, walked-length w, walked-count w, length-append done (i ∷ [])) in
      walked-goes-on w ∙ ap (λ n. walk L s n done at) left ∙ walk-on L s _ done at i e z h m (rule-clear (record_at L s i) ka kb kc) q

  -- the same, with a link to follow
  pub walked_next : {done : List ℕ} {at : ℕ} → Walked L s done at → end_of L s ≡ walk L s (suc (L.records - suc (length done))) done at
  walked_next {done} {at} w =
      let left : L.records - length done ≡ suc (L.records - suc (length done)) = omega (arith, walked-length w, walked-count w) in
      walked-goes-on w ∙ ap (λ n. walk L s n done at) left

  header_refused : (k : ℕ) → header_fault L s ≡ suc k → read_of L s ≡ refused (suc k) 0
  header_refused k e = ap reading (ends_faulty (λ z. let b : ⊥ = omega arith in b)) ∙ ap (λ n. refused n 0) e

  reached-refused : {i : ℕ} → Reached L s i → (k : ℕ) → number_of (decoded_of L (record_at L s i)) ≡ suc k → read_of L s ≡ refused (suc k) i
  reached-refused {i} r k e =
      ap reading
      (walked_next r.walked
      ∙ walk-fault L s _ r.done r.at i r.link r.some r.within r.new (λ z. let b : ⊥ = omega arith in b))
      ∙ ap (λ n. refused n i) e

  -- where a cause applies first, the book is refused with its number and record
  pub applies_refused : {k i : ℕ} → Applies L s k i → read_of L s ≡ refused k i
  applies_refused (cause_1 a) = header_refused 0 (header_1 a)
  applies_refused (cause_2 a b) = header_refused 1 (header_2 a b)
  applies_refused (cause_3 a b c) = header_refused 2 (header_3 a b c)
  applies_refused (cause_4 a b c d) = header_refused 3 (header_4 a b c d)
  applies_refused (cause_5 a b c d f) = header_refused 4 (header_5 a b c d f)
  applies_refused (cause_6 {done = done} {at = at} w h) =
      ap reading
      (walked_next w ∙ walk-over L s _ done at (link_of L (record_at L s at)) refl (λ z. let b : ⊥ = omega arith in b) h)
  applies_refused (cause_7 {done = done} {at = at} w z h m) =
      ap reading (walked_next w ∙ walk-again L s _ done at (link_of L (record_at L s at)) refl z h m)
  applies_refused (cause_8 {i = i} r a) = reached-refused r 7 (rule_8 (record_at L s i) a)
  applies_refused (cause_9 {i = i} r a b) = reached-refused r 8 (rule_9 (record_at L s i) a b)
  applies_refused (cause_10 {i = i} r a b c) = reached-refused r 9 (rule_10 (record_at L s i) a b c)
  applies_refused (cause_12 {i = i} r a b c q) =
      ap reading
      (walked_next r.walked
      ∙ walk_repeat L s _ r.done r.at i r.link r.some r.within r.new (rule-clear (record_at L s i) a b c) q)

  accepts_ends : {t : Terms} {es : List Entry} (a : Accepts L s t es) →
      end_of L s ≡ record { reading = accepted (terms_of L s) (map (entry_at L s) a.done); passed = a.done }
  accepts_ends a =
      walked_next a.walked
      ∙ walk_ends L s _ a.done a.at (link_of L (record_at L s a.at)) refl a.ends

  -- where the chain ends with no cause on the way, the book is accepted
  pub accepts_accepted : {t : Terms} {es : List Entry} → Accepts L s t es → read_of L s ≡ accepted t es
  accepts_accepted a =
      ap reading (accepts_ends a) ∙ ap₂ accepted (sym a.terms) (sym a.entries)

  -- the records that were passed are then those of the chain
  pub accepted-passed : {t : Terms} {es : List Entry} → read_of L s ≡ accepted t es → passed_of L s ≡ es
  accepted-passed e =
      let a = acceptance_means e in
      ap (λ (x : Ending). map (entry_at L s) x.passed) (accepts_ends a) ∙ sym a.entries

  -- so no cause applies to an accepted book
  pub accepted_no_cause : {t : Terms} {es : List Entry} → read_of L s ≡ accepted t es → {k i : ℕ} → Applies L s k i → ⊥
  accepted_no_cause e a = let p = applies_refused a in let z : ◌≡◌ {A = ℕ} 0 1 = cc in omega arith

-- none of the table's numbers is 0, and 11 is the repacker's alone
pub cause-number : {L : Layout} {s : List ℕ} {k i : ℕ} → Applies L s k i → (1 ≤ k) × (k ≡ 11 → ⊥) × (k ≡ 5 → WrongTail L s)
cause-number (cause_1 a) = (lit≤ tt, λ e. omega arith, λ e. absurd (let z : ⊥ = omega arith in z))
cause-number (cause_2 a b) = (lit≤ tt, λ e. omega arith, λ e. absurd (let z : ⊥ = omega arith in z))
cause-number (cause_3 a b c) = (lit≤ tt, λ e. omega arith, λ e. absurd (let z : ⊥ = omega arith in z))
cause-number (cause_4 a b c d) = (lit≤ tt, λ e. omega arith, λ e. absurd (let z : ⊥ = omega arith in z))
cause-number (cause_5 a b c d f) = (lit≤ tt, λ e. omega arith, λ e. f)
cause-number (cause_6 w h) = (lit≤ tt, λ e. omega arith, λ e. absurd (let z : ⊥ = omega arith in z))
cause-number (cause_7 w z h m) = (lit≤ tt, λ e. omega arith, λ e. absurd (let z : ⊥ = omega arith in z))
cause-number (cause_8 r a) = (lit≤ tt, λ e. omega arith, λ e. absurd (let z : ⊥ = omega arith in z))
cause-number (cause_9 r a b) = (lit≤ tt, λ e. omega arith, λ e. absurd (let z : ⊥ = omega arith in z))
cause-number (cause_10 r a b c) = (lit≤ tt, λ e. omega arith, λ e. absurd (let z : ⊥ = omega arith in z))
cause-number (cause_12 r a b c q) = (lit≤ tt, λ e. omega arith, λ e. absurd (let z : ⊥ = omega arith in z))

-- a book to which no cause applies is accepted
pub none_applies_accepted : (L : Layout) (s : List ℕ) →
    ((k i : ℕ) → Applies L s k i → ⊥) →
    (t : Terms) × (es : List Entry) × (read_of L s ≡ accepted t es)
none_applies_accepted L s none = go (read_of L s) refl
  where
    go : (r : Reading) → read_of L s ≡ r → (t : Terms) × (es : List Entry) × (read_of L s ≡ accepted t es)
    go (refused k i) e = absurd (none k i (refusal_applies L s e))
    go (accepted t es) e = (t, es, e)

-- no refusal has the number 0, which stands for none
pub refusal-number : (L : Layout) (s : List ℕ) {k i : ℕ} → read_of L s ≡ refused k i → k ≡ 0 → ⊥
refusal-number L s e z = omega (arith, (cause-number (refusal_applies L s e)).0)

-- an accepted book's header is lawful
pub accepted-clear : (L : Layout) (s : List ℕ) {t : Terms} {es : List Entry} → read_of L s ≡ accepted t es → header_fault L s ≡ 0
accepted-clear L s e = go (header_fault L s) refl
  where
    go : (n : ℕ) → header_fault L s ≡ n → header_fault L s ≡ 0
    go zero q = q
    go (suc n) q = absurd (no_chain (ends_faulty L s (λ z. omega (arith, q, z))))
      where
        no_chain : end_of L s ≡ record { reading = refused (header_fault L s) 0; passed = [] } → ⊥
        no_chain f =
            let p = sym e ∙ ap (λ (x : Ending). x.reading) f in
            let z : ◌≡◌ {A = ℕ} 0 1 = cc in
            omega arith
