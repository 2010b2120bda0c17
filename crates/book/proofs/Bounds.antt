-- What holds of every accepted book: its chain has no more entries than the header counts, each of them a record after the header, none
-- twice, no label twice, and its numbers are within document 01's ranges.
use Prim.Native.Nat.{ℕ, zero, suc, ◌+◌, ◌-◌, ◌≤◌, ◌<◌}
use mathlib.Core.Path.{◌≡◌, refl, sym, ap, ◌∙◌, subst⁻¹}
use mathlib.Core.Bool.{Bool, true, false, cond}
use mathlib.Core.List.{List, [], ◌∷◌, ◌++◌, map}
use mathlib.Core.Logic.{◌⊎◌, inl, inr}
use native.Mathlib.Omega.{arith}
use native.Mathlib.Decide.{ℕ_discrete, dec_lt}
use borrow.Author.Tests.{ltb-true, ltb-false}
use lib.ListN.{length, get_or, drop, length-append, length-map, get_or-append}
use lib.Seq.{get_or_at}
use lib.Dec.{eqb, ltb, lt→ltb, lit≤}
use lib.IntN.{ℤ, pos, negsuc, neg_ℤ, nat_abs}
use lib.Signed.{◌<ℤ◌}
use mir.Syntax.{w16}
use mir.Val.{to_z, sel}
use Rattle.lp.specs.declared.Terms.{Terms}
use Rattle.lp.specs.Range.{SmallConstraint, SmallSystem, SmallFloors, SmallTerms}
use Rattle.records.specs.declared.Rule.{Rule}
use Rattle.records.specs.Planned.{planned_rule}
use Rattle.lp.specs.Program.{constraint}
use Rattle.records.specs.Layout.{Layout, at_c}
use Rattle.records.specs.Number.{number}
use Rattle.records.specs.Record.{record_at, kind_of, a_of, b_of, rule_of}
use Rattle.records.specs.Header.{terms_of, count_of}
use Rattle.book.specs.Reading.{accepted, Entry, records_of, rules_of, entry_at, label_at, read_of}
use Rattle.book.specs.Causes.{WrongKind, WrongSlope, WrongBound, p-least, q-least, neither, a-least, b-least, low, high, Walked, header, visit, Accepts}
use Rattle.book.proofs.Members.{map_same, not_there, apart_snoc}
use Rattle.book.proofs.Links.{indices}
use Rattle.book.proofs.Causes.{acceptance_means, walked-length, walked-count}

-- ---- ranges

-- sixteen bits other than −32,768
sixteen : (n : ℕ) → (to_z w16 n ≡ negsuc 32767 → ⊥) → nat_abs (to_z w16 n) ≤ 32767
sixteen n h = go (ltb n 32768) refl
  where
    go : (b : Bool) → ltb n 32768 ≡ b → nat_abs (sel b (pos n) (negsuc (65536 - suc n))) ≤ 32767
    go true e = omega (arith, ltb-true n 32768 e)
    go false e =
        let d : 65536 - suc n ≡ 32767 → ⊥ = λ q. h (rw e (ap negsuc q)) in
        omega (arith, ltb-false n 32768 e)

not-over : (a b : ℕ) → (b < a → ⊥) → a ≤ b
not-over a b k = omega arith

within : (z : ℤ) → (z <ℤ negsuc 999999999 → ⊥) → (pos 1000000000 <ℤ z → ⊥) → nat_abs z ≤ 1000000000
within (pos n) l h = not-over n 1000000000 (λ k. h (record { lt = lt→ltb 1000000000 n k }))
within (negsuc n) l h = let m = not-over n 999999999 (λ k. l (record { lt = lt→ltb 999999999 n k })) in omega arith

one_of : (k : ℕ) → ((k ≡ 1 → ⊥) → (k ≡ 2 → ⊥) → ⊥) → (k ≡ 1) ⊎ (k ≡ 2)
one_of k h = go (ℕ_discrete k 1) (ℕ_discrete k 2)
  where
    go : Dec (k ≡ 1) → Dec (k ≡ 2) → (k ≡ 1) ⊎ (k ≡ 2)
    go (yes e) d = inl e
    go (no m) (yes e) = inr e
    go (no m) (no n) = absurd (h m n)

-- a rule that no cause turns back
pub record SoundRule (r : Rule) : Type 0 where
  pub kind : (r.kind ≡ 1) ⊎ (r.kind ≡ 2)
  pub a : nat_abs r.a ≤ 32767
  pub b : nat_abs r.b ≤ 32767
  pub c : nat_abs r.c ≤ 1000000000

module _ (L : Layout) where
  pub sound-rule : (r : List ℕ) → (WrongKind L r → ⊥) → (WrongSlope L r → ⊥) → (WrongBound L r → ⊥) → SoundRule (rule_of L r)
  sound-rule r k s b =
      record {
        kind = one_of (kind_of L r) (λ m n. k (neither m n));
        a = sixteen (a_of L r) (λ e. s (a-least e));
        b = sixteen (b_of L r) (λ e. s (b-least e));
        c = within (rule_of L r).c (λ l. b (low l)) (λ h. b (high h));
      }

-- as it is planned: kind 1 as written, kind 2 with every sign turned round, and within the same range
same_size : (z : ℤ) → nat_abs (neg_ℤ z) ≡ nat_abs z
same_size (pos zero) = refl
same_size (pos (suc n)) = refl
same_size (negsuc n) = refl

pub planned-small : (r : Rule) → SoundRule r → SmallConstraint (planned_rule r)
planned-small r l = go (eqb r.kind 2)
  where
    go : (b : Bool) →
        SmallConstraint (cond b (constraint (neg_ℤ r.a) (neg_ℤ r.b) (neg_ℤ r.c)) (constraint r.a r.b r.c))
    go true =
        record {
          a_small = record { small = rw same_size l.a };
          b-small = record { small = rw same_size l.b };
          c-small = record { small = rw same_size l.c };
        }
    go false = record { a_small = record { small = l.a }; b-small = record { small = l.b }; c-small = record { small = l.c } }

-- any signed number of sixteen bits is small enough for a floor
floor_small : (n : ℕ) → nat_abs (to_z w16 n) ≤ 32768
floor_small n = go (ltb n 32768) refl
  where
    go : (b : Bool) → ltb n 32768 ≡ b → nat_abs (sel b (pos n) (negsuc (65536 - suc n))) ≤ 32768
    go true e = omega (arith, ltb-true n 32768 e)
    go false e = omega (arith, ltb-false n 32768 e)

floors-small : (b : Bool) (m n : ℕ) →
    SmallFloors (cond b (record { lx = to_z w16 m; ly = to_z w16 n }) (record { lx = pos 0; ly = pos 0 }))
floors-small true m n =
    record { lx_small = record { small = floor_small m }; ly_small = record { small = floor_small n } }
floors-small false m n =
    record { lx_small = record { small = lit≤ tt }; ly_small = record { small = lit≤ tt } }

-- ---- each record of the chain

-- a fact of every place of a list and of one more is a fact of every place of the longer list
pub each_snoc : (P : ℕ → Type 0) (l : List ℕ) (i : ℕ) →
    ((k : ℕ) → k < length l → P (get_or l k 0)) →
    P i →
    (k : ℕ) →
    k < length (l ++ (i ∷ [])) →
    P (get_or (l ++ (i ∷ [])) k 0)
each_snoc P l i f p k h = go (dec_lt k (length l))
  where
    go : Dec (k < length l) → P (get_or (l ++ (i ∷ [])) k 0)
    go (yes m) = subst⁻¹ P (get_or-append l (i ∷ []) 0 k m) (f k m)
    go (no n) =
        let e : length l ≡ k = omega (arith, length-append l (i ∷ [])) in
        subst⁻¹ P (get_or_at l i [] 0 k e) p

module _ (L : Layout) (s : List ℕ) where
  walked-within : {done : List ℕ} {at : ℕ} →
      Walked L s done at →
      (k : ℕ) →
      k < length done →
      (1 ≤ get_or done k 0) × (get_or done k 0 ≤ count_of L s)
  walked-within (header a b c d f) = λ k h. absurd (let z : ⊥ = omega arith in z)
  walked-within (visit {done = done} w i e z h m ka kb kc q) =
      each_snoc (λ j. (1 ≤ j) × (j ≤ count_of L s)) done i (walked-within w) (omega arith, h)

  walked-sound : {done : List ℕ} {at : ℕ} →
      Walked L s done at →
      (k : ℕ) →
      k < length done →
      SoundRule (rule_of L (record_at L s (get_or done k 0)))
  walked-sound (header a b c d f) = λ k h. absurd (let z : ⊥ = omega arith in z)
  walked-sound (visit {done = done} w i e z h m ka kb kc q) =
      each_snoc (λ j. SoundRule (rule_of L (record_at L s j))) done i (walked-sound w) (sound-rule L (record_at L s i) ka kb kc)

  walked-distinct : {done : List ℕ} {at : ℕ} →
      Walked L s done at →
      (k : ℕ) →
      k < length done →
      (j : ℕ) →
      j < k →
      get_or done j 0 ≡ get_or done k 0 →
      ⊥
  walked-distinct (header a b c d f) = λ k l j g p. let z : ⊥ = omega arith in z
  walked-distinct (visit {done = done} w i e z h m ka kb kc q) =
      apart_snoc (λ n. n) done i (not_there (λ n. n) done i (rw (map_same done) m)) (walked-distinct w)

  pub walked-labels : {done : List ℕ} {at : ℕ} →
      Walked L s done at →
      (k : ℕ) →
      k < length done →
      (j : ℕ) →
      j < k →
      label_at L s (get_or done j 0) ≡ label_at L s (get_or done k 0) →
      ⊥
  walked-labels (header a b c d f) = λ k l j g p. let z : ⊥ = omega arith in z
  walked-labels (visit {done = done} w i e z h m ka kb kc q) =
      apart_snoc (label_at L s) done i (not_there (label_at L s) done (label_at L s i) q) (walked-labels w)

  walked-terms : {done : List ℕ} {at : ℕ} → Walked L s done at → SmallTerms (terms_of L s)
  walked-terms (header a b c d f) =
      record {
        objective-small =
            record {
              p-small = record { small = sixteen (a_of L (record_at L s 0)) (λ e. d (p-least e)) };
              q-small = record { small = sixteen (b_of L (record_at L s 0)) (λ e. d (q-least e)) };
            };
        floors-small =
            floors-small L.floors (number 2 (drop (at_c L) (record_at L s 0))) (number 2 (drop (at_c L + 2) (record_at L s 0)));
      }
  walked-terms (visit w i e z h m ka kb kc q) = walked-terms w

  -- of every place of a list of records, so of the system that they make
  system-small : (l : List ℕ) →
      ((k : ℕ) → k < length l → SmallConstraint (planned_rule (rule_of L (record_at L s (get_or l k 0))))) →
      SmallSystem (rules_of (map (entry_at L s) l))
  system-small [] f = tt
  system-small (i ∷ l) f = (f 0 (omega arith), system-small l (λ k h. f (suc k) (omega arith)))

  -- an accepted book
  module _ {t : Terms} {es : List Entry} (e : read_of L s ≡ accepted t es) where
    meant : Accepts L s t es
    meant = acceptance_means L s e

    listed : records_of es ≡ meant.done
    listed = ap (records_of) meant.entries ∙ indices L s meant.done

    counted : length es ≡ length meant.done
    counted = ap length meant.entries ∙ length-map meant.done (entry_at L s)

    -- no more entries than the header counts, and no more than the format has room for
    pub chain-count : length es ≤ count_of L s
    chain-count = omega (arith, counted, walked-length L s meant.walked)

    pub count_room : count_of L s < L.records
    count_room = walked-count L s meant.walked

    pub chain-few : length es < L.records
    chain-few = omega (arith, chain-count, count_room)

    pub terms-small : SmallTerms t
    terms-small = subst⁻¹ SmallTerms meant.terms (walked-terms meant.walked)

    -- every entry is its record's, so the record indices say all
    pub accepted-entries : es ≡ map (entry_at L s) (records_of es)
    accepted-entries = meant.entries ∙ ap (map (entry_at L s)) (sym listed)

    -- the entry at a place of the chain
    pub index-within : (k : ℕ) → k < length es → (1 ≤ get_or (records_of es) k 0) × (get_or (records_of es) k 0 ≤ count_of L s)
    index-within k h = rw listed (walked-within meant.walked k (omega (arith, counted)))

    pub index-distinct : (j k : ℕ) → j < k → k < length es → get_or (records_of es) j 0 ≡ get_or (records_of es) k 0 → ⊥
    index-distinct j k g h p = walked-distinct meant.walked k (omega (arith, counted)) j g (rw listed at p)

    -- no label stands twice on the chain
    pub label-distinct : (j k : ℕ) →
        j < k →
        k < length es →
        label_at L s (get_or (records_of es) j 0) ≡ label_at L s (get_or (records_of es) k 0) →
        ⊥
    label-distinct j k g h p = walked-labels meant.walked k (omega (arith, counted)) j g (rw listed at p)

    pub entry-sound : (k : ℕ) → k < length es → SoundRule (rule_of L (record_at L s (get_or (records_of es) k 0)))
    entry-sound k h = rw listed (walked-sound meant.walked k (omega (arith, counted)))

    -- every rule of the chain as it is planned is within document 01's range
    pub rule-small : (k : ℕ) → k < length es → SmallConstraint (planned_rule (rule_of L (record_at L s (get_or (records_of es) k 0))))
    rule-small k h = planned-small (rule_of L (record_at L s (get_or (records_of es) k 0))) (entry-sound k h)

    pub rules-small : SmallSystem (rules_of es)
    rules-small =
        subst⁻¹ (λ (l : List Entry). SmallSystem (rules_of l)) meant.entries
        (system-small meant.done
        (λ k h. planned-small (rule_of L (record_at L s (get_or meant.done k 0))) (walked-sound meant.walked k h)))
