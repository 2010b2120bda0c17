-- A witness as it is handed over adds up: looked up by code, its entries with their weights sum to what the certificate by index sums to.
-- Naming entries changes no product, putting them in order changes no sum, and an entry that is not in use adds 0.
use mathlib.Core.Path.{◌≡◌, refl, sym, ◌∙◌, ap, ap₂, subst}
use mathlib.Core.List.Memᴰ
use mathlib.Core.List.{List, [], ◌∷◌, ◌++◌, Memᴰ, append-nil}
use mathlib.Core.Bool.{Bool, true, false, not}
use Prim.Native.Nat.{ℕ, zero, suc, ◌+◌, ◌≤◌, ◌<◌}
use native.Mathlib.Omega.{arith}
use lib.Dec.{T, not_T}
use lib.ListN.{length, take, get_or, length-take}
use lib.IntN.{ℤ, pos, negsuc, ◌+ℤ◌, ◌*ℤ◌, zero-*ℤ}
use lib.Signed.{clash_ℤ}
use Rattle.ints.specs.Order.{◌≤ᶻ◌, ◌<ᶻ◌}
use Rattle.ints.proofs.Order.{pos_nat, le_of_eq}
use Rattle.ints.proofs.Ring.{ring, con, ◌⊕◌, ◌⊗◌, ◌≐◌}
use Rattle.lp.specs.declared.Constraint.{Constraint}
use Rattle.lp.specs.declared.Certificate.{Certificate}
use Rattle.lp.specs.Program.{Keeps, system}
use Rattle.lp.specs.Certificate.{Weighted, weighted, named, entry_in, total, greatest_weight, is_zero, GivenUp, NothingSpare}
use Rattle.theory.proofs.Lists.{for-members}
use Rattle.theory.proofs.Farkas.{is-zero, Refutes, certificate-weights, certificate-refutes}
use Rattle.witness.specs.Witness.{code_at, code_of, coded, rising}
use Rattle.lp.specs.declared.Terms.{Terms}
use Rattle.lp.specs.Program.{constraint}
use Rattle.plans.specs.Planning.{Named, Proves}
use Rattle.plans.specs.Adding.{sum_of, Codes, floor-x, floor-y, rule, AddsUp}
use Rattle.plans.proofs.Ordered.{Used, first_exchanged, last_exchanged, rising-keeps}
use Rattle.plans.proofs.Names.{entry, code-used, Slots, slots-named}

-- ---- the sum over what a certificate names is that over its three places

module _ (value : ℕ → ℤ) where
  abbrev three : Certificate → ℤ
  three k =
      k.first_weight *ℤ value k.first +ℤ (k.second_weight *ℤ value k.second +ℤ (k.third_weight *ℤ value k.third +ℤ pos 0))

  module _ (sum : List Weighted → ℤ) (empty : sum [] ≡ pos 0)
      (more : (w : Weighted) (l : List Weighted) → sum (w ∷ l) ≡ w.weight *ℤ value w.entry +ℤ sum l) where
    one : (e : ℕ) (w : ℤ) (l : List Weighted) → sum (weighted e w ++ l) ≡ w *ℤ value e +ℤ sum l
    one e (pos zero) l = ring 2 (λ x t. t ≐ con (pos 0) ⊗ x ⊕ t) refl (value e) (sum l)
    one e (pos (suc n)) l = more (entry e (pos (suc n))) l
    one e (negsuc n) l = more (entry e (negsuc n)) l

    sum_of-three : (k : Certificate) → sum (named k) ≡ three k
    sum_of-three k =
        one k.first k.first_weight (weighted k.second k.second_weight ++ last)
        ∙ ap (λ z. k.first_weight *ℤ value k.first +ℤ z) (one k.second k.second_weight last
        ∙ ap (λ z. k.second_weight *ℤ value k.second +ℤ z) (ap sum (sym (append-nil last))
        ∙ one k.third k.third_weight []
        ∙ ap (λ z. k.third_weight *ℤ value k.third +ℤ z) empty))
      where
        last : List Weighted
        last = weighted k.third k.third_weight

  -- the order of the places is free
  first-sum : (z : ℤ) (k : Certificate) → three k ≡ z → three (first_exchanged k) ≡ z
  first-sum z k e =
      ring 3 (λ x y z. y ⊕ (x ⊕ (z ⊕ con (pos 0))) ≐ x ⊕ (y ⊕ (z ⊕ con (pos 0)))) refl (k.first_weight *ℤ value k.first)
      (k.second_weight *ℤ value k.second) (k.third_weight *ℤ value k.third)
      ∙ e

  last_sum : (z : ℤ) (k : Certificate) → three k ≡ z → three (last_exchanged k) ≡ z
  last_sum z k e =
      ring 3 (λ x y z. x ⊕ (z ⊕ (y ⊕ con (pos 0))) ≐ x ⊕ (y ⊕ (z ⊕ con (pos 0)))) refl (k.first_weight *ℤ value k.first)
      (k.second_weight *ℤ value k.second) (k.third_weight *ℤ value k.third)
      ∙ e

  rising-sum : (k : Certificate) → three (rising k) ≡ three k
  rising-sum k = rising-keeps (λ c. three c ≡ three k) (first-sum (three k)) (last_sum (three k)) k refl

-- an entry under its code adds what it adds under its index
module _ (records : List ℕ) (value value' : ℕ → ℤ) where
  same-product : (e : ℕ) (w : ℤ) → (Used w → value' (code_at records e) ≡ value e) → w *ℤ value' (code_of records e w) ≡ w *ℤ value e
  same-product e w same = go (is_zero w) refl
    where
      go : (b : Bool) → is_zero w ≡ b → w *ℤ value' (code_of records e w) ≡ w *ℤ value e
      go true q =
          let z : w ≡ pos 0 = is-zero w (subst T (sym q) tt) in
          ap (λ u. u *ℤ value' (code_of records e w)) z ∙ zero-*ℤ (value' (code_of records e w)) ∙ sym
          (ap (λ u. u *ℤ value e) z ∙ zero-*ℤ (value e))
      go false q =
          let u : Used w = subst (λ b. T (not b)) (sym q) tt in
          ap (λ c. w *ℤ value' c) (code-used records e w u) ∙ ap (λ z. w *ℤ z) (same u)

  coded-sum : (k : Certificate) → Slots (λ e w. value' (code_at records e) ≡ value e) k → three value' (coded records k) ≡ three value k
  coded-sum k same =
      ap₂ (λ x y. x +ℤ y) (same-product k.first k.first_weight same.first)
      (ap₂ (λ x y. x +ℤ y) (same-product k.second k.second_weight same.second)
      (ap (λ x. x +ℤ pos 0) (same-product k.third k.third_weight same.third)))

-- ---- what holds of each place in use holds of what is named

above_zero : (n : ℕ) → Used (pos (suc n))
above_zero n = not_T (is_zero (pos (suc n))) (λ z. clash_ℤ (pos_nat n) (le_of_eq (is-zero (pos (suc n)) z)))

module _ (P : ℕ → ℤ → Type 0) where
  rising-slots : (k : Certificate) → Slots P k → Slots P (rising k)
  rising-slots =
      rising-keeps (Slots P) (λ k h. record { first = h.second; second = h.first; third = h.third })
      (λ k h. record { first = h.first; second = h.third; third = h.second })

  coded-slots : (records : List ℕ) (k : Certificate) → Slots (λ e w. P (code_at records e) w) k → Slots P (coded records k)
  coded-slots records k h =
      record {
        first = λ u. subst (λ c. P c k.first_weight) (sym (code-used records k.first k.first_weight u)) (h.first u);
        second = λ u. subst (λ c. P c k.second_weight) (sym (code-used records k.second k.second_weight u)) (h.second u);
        third = λ u. subst (λ c. P c k.third_weight) (sym (code-used records k.third k.third_weight u)) (h.third u);
      }

  abbrev Of : Weighted → Type 0
  Of x = P x.entry x.weight

  of_one : (e : ℕ) (w : ℤ) (l : List Weighted) →
      (Used w → P e w) →
      ((x : Weighted) → Memᴰ x l → Of x) →
      (x : Weighted) →
      Memᴰ x (weighted e w ++ l) →
      Of x
  of_one e (pos zero) l h others = others
  of_one e (pos (suc n)) l h others = for-members Of (entry e (pos (suc n))) l (h (above_zero n)) others
  of_one e (negsuc n) l h others = for-members Of (entry e (negsuc n)) l (h tt) others

  of_last : (e : ℕ) (w : ℤ) → (Used w → P e w) → (x : Weighted) → Memᴰ x (weighted e w) → Of x
  of_last e w h x i =
      of_one e w [] h (λ y j. absurd (Memᴰ.not-nil j)) x (subst (Memᴰ x) (sym (append-nil (weighted e w))) i)

  of_named : (k : Certificate) → Slots P k → (x : Weighted) → Memᴰ x (named k) → Of x
  of_named k h =
      of_one k.first k.first_weight (weighted k.second k.second_weight ++ weighted k.third k.third_weight)
      h.first
      (of_one k.second k.second_weight (weighted k.third k.third_weight) h.second (of_last k.third k.third_weight h.third))

-- ---- a list of rules with a name for each

abbrev none : Constraint
none = constraint (pos 0) (pos 0) (pos 0)

module _ (t : Terms) (names : List ℕ) (rules : List Constraint) (n : Named names rules) (k : ℕ) (look : ℕ → Constraint) where
  abbrev S : List Constraint
  S = system t.floors (take k rules)

  -- within the first k rules, and within the list
  low : (j : ℕ) → suc (suc j) < length S → j < k
  low j h = omega (arith, length-take k rules)

  high : (j : ℕ) → suc (suc j) < length S → j < length names
  high j h = omega (arith, length-take k rules, n.count)

  index_codes : (i : ℕ) → i < length S → Codes names k (code_at names i)
  index_codes zero h = floor-x
  index_codes (suc zero) h = floor-y
  index_codes (suc (suc j)) h = rule j (low j h) (high j h)

  -- the code of an index stands for what is there
  module _ (looked : (i : ℕ) → i < length S → look (code_at names i) ≡ get_or S i none) (w : Certificate) (proof : Proves t names rules k w)
    where
      abbrev c : Certificate
      c = proof.certificate

      refutes : Refutes S (named c)
      refutes = certificate-refutes S (named c) proof.valid

      -- a fact of the entries that c names is one of its places in use
      slots-of : (P : ℕ → ℤ → Type 0) → ((x : Weighted) → Memᴰ x (named c) → P x.entry x.weight) → Slots P c
      slots-of P h =
          record {
            first = λ u. h (entry c.first c.first_weight) ((slots-named c).first u);
            second = λ u. h (entry c.second c.second_weight) ((slots-named c).second u);
            third = λ u. h (entry c.third c.third_weight) ((slots-named c).third u);
          }

      of_witness : (P : ℕ → ℤ → Type 0) →
          ((x : Weighted) → Memᴰ x (named c) → P (code_at names x.entry) x.weight) →
          (x : Weighted) →
          Memᴰ x (named w) →
          P x.entry x.weight
      of_witness P h =
          subst (λ v. (x : Weighted) → Memᴰ x (named v) → P x.entry x.weight) (sym proof.same_entries)
          (of_named P (rising (coded names c))
          (rising-slots P (coded names c) (coded-slots P names c (slots-of (λ i u. P (code_at names i) u) h))))

      -- an entry of the witness is one of the certificate's, under its code
      record From (e : ℕ) : Type 0 where
        source : Weighted
        listed : Memᴰ source (named c)
        under : code_at names source.entry ≡ e

      from : (x : Weighted) → Memᴰ x (named w) → From x.entry
      from = of_witness (λ e u. From e) (λ x i. record { source = x; listed = i; under = refl })

      -- so whichever entry is given up, the others no longer clash, each looked up by its code
      pub witness-lean : NothingSpare look (named w)
      witness-lean x i =
          let f = from x i in
          let rest : GivenUp (entry_in S) (named c) f.source = proof.lean f.source f.listed in
          record { pair = rest.pair; proper = rest.proper; others-kept = λ y j other. kept f rest y (from y j) other }
        where
          kept : (f : From x.entry) (rest : GivenUp (entry_in S) (named c) f.source) (y : Weighted) →
              From y.entry →
              (y.entry ≡ x.entry → ⊥) →
              Keeps (look y.entry) rest.pair
          kept f rest y g other =
              let found : look y.entry ≡ entry_in S g.source.entry =
              ap look (sym g.under) ∙ looked g.source.entry (refutes.sound g.source g.listed).entered in
              subst (λ r. Keeps r rest.pair) (sym found)
              (rest.others-kept g.source g.listed (λ e. other (sym g.under ∙ ap (code_at names) e ∙ f.under)))

      same_sum : (part : Constraint → ℤ) → sum_of look part (named w) ≡ total part S (named c)
      same_sum part =
          ap (λ v. sum_of look part (named v)) proof.same_entries
          ∙ sum_of-three named_value (sum_of look part) refl (λ x l. refl) (rising (coded names c))
          ∙ rising-sum named_value (coded names c)
          ∙ coded-sum names index-value named_value c same
          ∙ sym (sum_of-three index-value (total part S) refl (λ x l. refl) c)
        where
          named_value : ℕ → ℤ
          named_value i = part (look i)

          index-value : ℕ → ℤ
          index-value i = part (get_or S i none)

          same : Slots (λ i u. named_value (code_at names i) ≡ index-value i) c
          same =
              slots-of (λ i u. named_value (code_at names i) ≡ index-value i)
              (λ x i. ap part (looked x.entry (refutes.sound x i).entered))

      pub witness-adds-up : AddsUp look names k w
      witness-adds-up =
          record {
            entries = of_witness (λ i u. Codes names k i) (λ x i. index_codes x.entry (refutes.sound x i).entered);
            weights =
                of_witness (λ i u. (pos 1 ≤ᶻ u) × (u ≤ᶻ greatest_weight)) (λ x i. certificate-weights S (named c) proof.valid x i);
            cancels_a = same_sum (λ r. r.a) ∙ refutes.cancels_a;
            cancels_b = same_sum (λ r. r.b) ∙ refutes.cancels_b;
            falls = subst (λ z. z <ᶻ pos 0) (sym (same_sum (λ r. r.c))) refutes.falls;
          }
