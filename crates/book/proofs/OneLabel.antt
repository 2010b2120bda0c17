-- A label means one rule: 12 is said of a book exactly where a label stands a second time on the chain, and a book whose chain has
-- distinct labels is read as it was before 12 was.
use Prim.Native.Nat.{ℕ, zero, suc, ◌≤◌, ◌<◌}
use mathlib.Core.Path.{◌≡◌, refl, ◌∙◌, subst, subst⁻¹}
use mathlib.Core.Bool.{Bool, true, false, cond}
use mathlib.Core.List.{List, [], ◌∷◌, ◌++◌, map}
use native.Mathlib.Omega.{arith}
use lib.ListN.{length, get_or}
use lib.Dec.{eqb, ltb}
use Rattle.records.specs.Layout.{Layout}
use Rattle.records.specs.Record.{record_at, link_of, decoded_of, number_of}
use Rattle.records.specs.Header.{terms_of, count_of, header_fault}
use Rattle.book.specs.Reading.{Reading, Ending, refused, accepted, entry_at, label_at, memb, follow, walk, end_of, read_of}
use Rattle.book.specs.Causes.{WrongKind, WrongSlope, WrongBound, Walked, header, visit, Reached, Applies, cause_1, cause_2, cause_3, cause_4, cause_5, cause_6, cause_7, cause_8, cause_9, cause_10, cause_12}
use Rattle.book.specs.Spare.{OnChain, header, link}
use Rattle.book.proofs.Members.{Place, place_of, memb-at, map_same, not_there}
use Rattle.book.proofs.Causes.{refusal_applies, applies_refused}
use Rattle.book.proofs.Bounds.{each_snoc, walked-labels}

-- ---- what 12 says

module _ (L : Layout) (s : List ℕ) where
  -- the chain is walked to record i with no cause on the way, the record is sound, and its label is that of a record visited; up to there
  -- no label stands twice
  pub record Repeats (i : ℕ) : Type 0 where
    pub reached : Reached L s i
    pub kind : WrongKind L (record_at L s i) → ⊥
    pub slope : WrongSlope L (record_at L s i) → ⊥
    pub bound : WrongBound L (record_at L s i) → ⊥
    pub stood : Place (label_at L s) reached.done (label_at L s i)
    pub first : (k : ℕ) →
        k < length reached.done →
        (j : ℕ) →
        j < k →
        label_at L s (get_or reached.done j 0) ≡ label_at L s (get_or reached.done k 0) →
        ⊥

  twelve : {n i : ℕ} → Applies L s n i → n ≡ 12 → Repeats i
  twelve (cause_1 a) e = absurd (let z : ⊥ = omega arith in z)
  twelve (cause_2 a b) e = absurd (let z : ⊥ = omega arith in z)
  twelve (cause_3 a b c) e = absurd (let z : ⊥ = omega arith in z)
  twelve (cause_4 a b c d) e = absurd (let z : ⊥ = omega arith in z)
  twelve (cause_5 a b c d f) e = absurd (let z : ⊥ = omega arith in z)
  twelve (cause_6 w h) e = absurd (let z : ⊥ = omega arith in z)
  twelve (cause_7 w z h m) e = absurd (let z : ⊥ = omega arith in z)
  twelve (cause_8 r a) e = absurd (let z : ⊥ = omega arith in z)
  twelve (cause_9 r a b) e = absurd (let z : ⊥ = omega arith in z)
  twelve (cause_10 r a b c) e = absurd (let z : ⊥ = omega arith in z)
  twelve (cause_12 {i = i} r a b c q) e =
      record {
        reached = r;
        kind = a;
        slope = b;
        bound = c;
        stood = place_of (label_at L s) r.done (label_at L s i) q;
        first = walked-labels L s r.walked;
      }

  -- a book is refused 12 at record i exactly when its chain up to i is otherwise lawful and i is the first whose label stood before
  pub refused_repeats : {i : ℕ} → read_of L s ≡ refused 12 i → Repeats i
  refused_repeats e = twelve (refusal_applies L s e) refl

  pub repeats_refused : {i : ℕ} → Repeats i → read_of L s ≡ refused 12 i
  repeats_refused {i} r =
      let p = r.stood in
      let q : memb (label_at L s i) (map (label_at L s) r.reached.done) ≡ true =
      subst (λ (l : ℕ). memb l (map (label_at L s) r.reached.done) ≡ true) p.value
      (memb-at (label_at L s) r.reached.done p.place p.within) in
      applies_refused L s (cause_12 r.reached r.kind r.slope r.bound q)

-- ---- reading as it was before: every test but 12

module _ (L : Layout) (s : List ℕ) where
  unfoldable pub follow_before : List ℕ → ℕ → ℕ → Reading → Reading
  follow_before done at i on =
      cond (eqb i 0) (accepted (terms_of L s) (map (entry_at L s) done))
      (cond (ltb (count_of L s) i) (refused 6 at)
      (cond (memb i done) (refused 7 at)
      (cond (eqb (number_of (decoded_of L (record_at L s i))) 0) on
      (refused (number_of (decoded_of L (record_at L s i))) i))))

  unfoldable pub walk_before : ℕ → List ℕ → ℕ → Reading
  walk_before zero done at = refused 7 at
  walk_before (suc links) done at =
      let i = link_of L (record_at L s at) in
      let on = walk_before links (done ++ (i ∷ [])) i in
      follow_before done at i on

unfoldable pub read_before : Layout → List ℕ → Reading
read_before L s =
    let f = header_fault L s in
    let chain = walk_before L s L.records [] 0 in
    cond (eqb f 0) chain (refused f 0)

-- no refusal 12
abbrev Other : Reading → Type 0
Other x = (i : ℕ) → x ≡ refused 12 i → ⊥

-- one test, with 12 after it and without
test : (a b c d q : Bool) (x y z u v w : Reading) (i : ℕ) →
    Other (cond a x (cond b y (cond c z (cond d (cond q (refused 12 i) u) w)))) →
    (Other u → u ≡ v) →
    cond a x (cond b y (cond c z (cond d (cond q (refused 12 i) u) w))) ≡ cond a x (cond b y (cond c z (cond d v w)))
test true b c d q x y z u v w i o p = refl
test false true c d q x y z u v w i o p = refl
test false false true d q x y z u v w i o p = refl
test false false false false q x y z u v w i o p = refl
test false false false true true x y z u v w i o p = absurd (o i refl)
test false false false true false x y z u v w i o p = p o

-- what a walk reads as is picked by the same tests as its end
picked : (a b c d q : Bool) (done : List ℕ) (x y z r : Reading) (u : Ending) (w : Reading) →
    (cond a (record { reading = x; passed = done })
    (cond b (record { reading = y; passed = done })
    (cond c (record { reading = z; passed = done })
    (cond d (cond q (record { reading = r; passed = done }) u) (record { reading = w; passed = done }))))).reading
    ≡ cond a x (cond b y (cond c z (cond d (cond q r u.reading) w)))
picked true b c d q done x y z r u w = refl
picked false true c d q done x y z r u w = refl
picked false false true d q done x y z r u w = refl
picked false false false false q done x y z r u w = refl
picked false false false true true done x y z r u w = refl
picked false false false true false done x y z r u w = refl

module _ (L : Layout) (s : List ℕ) where
  walked_before : (links : ℕ) (done : List ℕ) (at : ℕ) →
      Other (walk L s links done at).reading →
      (walk L s links done at).reading ≡ walk_before L s links done at
  unfolding walk follow walk_before follow_before
  walked_before zero done at o = refl
  walked_before (suc links) done at o =
      let i = link_of L (record_at L s at) in
      picked (eqb i 0) (ltb (count_of L s) i) (memb i done) (eqb (number_of (decoded_of L (record_at L s i))) 0)
      (memb (label_at L s i) (map (label_at L s) done)) done
      (accepted (terms_of L s) (map (entry_at L s) done)) (refused 6 at) (refused 7 at) (refused 12 i)
      (walk L s links (done ++ (i ∷ [])) i) (refused (number_of (decoded_of L (record_at L s i))) i)
      ∙ test (eqb i 0) (ltb (count_of L s) i) (memb i done) (eqb (number_of (decoded_of L (record_at L s i))) 0)
      (memb (label_at L s i) (map (label_at L s) done))
      (accepted (terms_of L s) (map (entry_at L s) done)) (refused 6 at) (refused 7 at)
      (walk L s links (done ++ (i ∷ [])) i).reading (walk_before L s links (done ++ (i ∷ [])) i)
      (refused (number_of (decoded_of L (record_at L s i))) i) i
      (subst Other
      (picked (eqb i 0) (ltb (count_of L s) i) (memb i done) (eqb (number_of (decoded_of L (record_at L s i))) 0)
      (memb (label_at L s i) (map (label_at L s) done)) done
      (accepted (terms_of L s) (map (entry_at L s) done)) (refused 6 at) (refused 7 at) (refused 12 i)
      (walk L s links (done ++ (i ∷ [])) i) (refused (number_of (decoded_of L (record_at L s i))) i))
      o)
      (walked_before links (done ++ (i ∷ [])) i)

  -- a book that is not refused 12 is read as before
  pub others_as_before : Other (read_of L s) → read_of L s ≡ read_before L s
  unfolding end_of read_before
  others_as_before o = go (eqb (header_fault L s) 0) o
    where
      first : Bool → Ending
      first b = cond b (walk L s L.records [] 0) (record { reading = refused (header_fault L s) 0; passed = [] })

      go : (b : Bool) →
          Other (first b).reading →
          (first b).reading ≡ cond b (walk_before L s L.records [] 0) (refused (header_fault L s) 0)
      go true o = walked_before L.records [] 0 o
      go false o = refl

  -- ---- distinct labels on the chain

  -- of the records that are there: links may lead past the count, where a record reads as label 0
  pub record DistinctLabels : Type 0 where
    pub apart : (i j : ℕ) →
        OnChain L s i →
        OnChain L s j →
        (i ≡ 0 → ⊥) →
        (j ≡ 0 → ⊥) →
        i ≤ count_of L s →
        j ≤ count_of L s →
        label_at L s i ≡ label_at L s j →
        i ≡ j

  walked_here : {done : List ℕ} {at : ℕ} → Walked L s done at → OnChain L s at
  walked_here (header a b c d f) = header
  walked_here (visit w i e z h m ka kb kc q) = subst⁻¹ (OnChain L s) e (link (walked_here w))

  walked-chain : {done : List ℕ} {at : ℕ} →
      Walked L s done at →
      (k : ℕ) →
      k < length done →
      OnChain L s (get_or done k 0) × ((get_or done k 0 ≡ 0 → ⊥) × (get_or done k 0 ≤ count_of L s))
  walked-chain (header a b c d f) = λ k h. absurd (let z : ⊥ = omega arith in z)
  walked-chain (visit {done = done} w i e z h m ka kb kc q) =
      each_snoc (λ j. OnChain L s j × ((j ≡ 0 → ⊥) × (j ≤ count_of L s))) done i (walked-chain w)
      (subst⁻¹ (OnChain L s) e (link (walked_here w)), (z, h))

  distinct-other : DistinctLabels → Other (read_of L s)
  distinct-other d i e =
      let r = refused_repeats L s e in
      let w = r.reached in
      let p = r.stood in
      let there = walked-chain w.walked p.place p.within in
      let here : OnChain L s i = subst⁻¹ (OnChain L s) w.link (link (walked_here w.walked)) in
      not_there (λ n. n) w.done i (rw (map_same w.done) w.new) p.place p.within
      (d.apart (get_or w.done p.place 0) i there.0 here there.1.0 w.some there.1.1 w.within p.value)

  -- a book whose chain has distinct labels is read as before
  pub distinct_as_before : DistinctLabels → read_of L s ≡ read_before L s
  distinct_as_before d = others_as_before (distinct-other d)
