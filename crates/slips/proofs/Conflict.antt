-- The slip of an impossible book gets a yes and has nothing spare: the plan's witness, its entries by code and rising, as a slip's shares.
use mathlib.Core.Path.{◌≡◌, refl, sym, ◌∙◌, ap, subst}
use mathlib.Core.List.{List, [], ◌∷◌, ◌++◌, map, Memᴰ}
use mathlib.Core.Bool.{Bool, true, false, not, ◌&&◌}
use Prim.Native.Nat.{ℕ, zero, suc, ◌^◌, ◌<◌}
use native.Mathlib.Omega.{arith}
use lib.Dec.{T}
use lib.ListN.{length, take, get_or, length-take}
use lib.Seq.{get_or-take}
use lib.IntN.{ℤ, pos, negsuc, nat_abs, ◌+ℤ◌, ◌*ℤ◌}
use lib.Signed.{le_z, lt_z, le_z_yes}
use Rattle.ints.specs.Order.{◌≤ᶻ◌}
use Rattle.ints.proofs.Order.{antisymmetric}
use Rattle.lp.specs.declared.Constraint.{Constraint}
use Rattle.lp.specs.declared.Terms.{Terms}
use Rattle.lp.specs.declared.Certificate.{Certificate}
use Rattle.lp.specs.declared.Outcome.TheVariants as outcome
use Rattle.lp.specs.Program.{system}
use Rattle.lp.specs.Outcome.{every}
use Rattle.lp.specs.Certificate.{Weighted, weighted, named, greatest_weight, is_zero, NothingSpare}
use Rattle.lp.specs.Document.{same}
use Rattle.theory.proofs.Lists.{is_true}
use Rattle.theory.proofs.Farkas.{is-zero}
use Rattle.answers.specs.declared.Plan.{Plan}
use Rattle.witness.specs.Witness.{code_at, code_of, coded, rising}
use Rattle.plans.specs.Planning.{Named, PlannedAs}
use Rattle.plans.specs.Adding.{sum_of, Codes, floor-x, floor-y, rule, AddsUp}
use Rattle.plans.proofs.Ordered.{NoneTwice, rising-keeps}
use Rattle.plans.proofs.Demands as list
use Rattle.slip.specs.declared.Weights.{Weights}
use Rattle.slip.specs.declared.Verdict.TheVariants.{Yes}
use Rattle.slip.specs.Facts.{Share, share, shares, distinct, none, ranges, entry_of, is_entry, entry_rule, rule_at}
use Rattle.slip.specs.Facts.{share_in_range, sums, answered, judged}
use Rattle.slip.proofs.Shares.{both}
use Rattle.slips.specs.Weights.{weights_with, conflict_weights, SmallCodes}
use Rattle.slips.specs.Writing.{Tidy, weighted_of, Lean}
use Rattle.slips.proofs.Yes.{range_test, rule-entry}

-- ---- what a witness names

abbrev entry : ℕ → ℤ → Weighted
entry e w = record { entry = e; weight = w }

weighted-used : (e : ℕ) (w : ℤ) → is_zero w ≡ false → weighted e w ≡ entry e w ∷ []
weighted-used e (pos zero) u = absurd (subst T u tt)
weighted-used e (pos (suc n)) u = refl
weighted-used e (negsuc n) u = refl

weighted-unused : (e : ℕ) (w : ℤ) → is_zero w ≡ true → weighted e w ≡ []
weighted-unused e w u = ap (weighted e) (is-zero w (subst T (sym u) tt))

abbrev to_share : Weighted → Share
to_share x = share (pos x.entry) x.weight

-- codes that rise are different
rising-differ : (i j : ℕ) → i < j → same (pos i) (pos j) ≡ false
rising-differ i j h = go (same (pos i) (pos j)) refl
  where
    equal_numbers : pos i ≡ pos j → ⊥
    equal_numbers e = omega (arith, ap nat_abs e)

    go : (b : Bool) → same (pos i) (pos j) ≡ b → same (pos i) (pos j) ≡ false
    go true e =
        let x = both (le_z (pos i) (pos j)) (le_z (pos j) (pos i)) e in
        absurd (equal_numbers (antisymmetric (le_z_yes (subst T (sym x.0) tt)) (le_z_yes (subst T (sym x.1) tt))))
    go false e = e

used-not : (b : Bool) → T (not b) → b ≡ false
used-not true u = absurd u
used-not false u = refl

not-used : (b : Bool) → b ≡ false → T (not b)
not-used b e = subst (λ x. T (not x)) (sym e) tt

module _ (t : Terms) (names : List ℕ) (rules : List Constraint) (n : Named names rules) (p : Plan) (planned : PlannedAs t names rules p)
    (f : p.outcome ≡ outcome.Infeasible) where
  -- what the checker looks up under a code
  abbrev look : ℕ → Constraint
  look c = rule_at t names rules (pos c)

  looked : (k i : ℕ) → i < length (system t.floors (take k rules)) →
      look (code_at names i) ≡ get_or (system t.floors (take k rules)) i none
  looked k zero h = refl
  looked k (suc zero) h = refl
  looked k (suc (suc j)) h =
      ap entry_rule (rule-entry t names rules n j high) ∙ sym (get_or-take k rules j none low)
    where
      low : j < k
      low = omega (arith, length-take k rules)

      high : j < length names
      high = omega (arith, length-take k rules, n.count)

  adds : AddsUp look names p.place p.witness
  adds = list.witness-sums t names rules p planned n look looked f

  apart : NoneTwice p.witness
  apart = list.witness-none-twice t names rules p planned n f

  code-entered : (c : ℕ) → Codes names p.place c → is_entry (entry_of t.floors names rules (pos c)) ≡ true
  code-entered c floor-x = refl
  code-entered c floor-y = refl
  code-entered c (rule i a b) = ap is_entry (rule-entry t names rules n i b)

  -- ---- the shares of a list of named entries

  every-share : (l : List Weighted) →
      ((x : Weighted) → Memᴰ x l → Codes names p.place x.entry) →
      ((x : Weighted) → Memᴰ x l → (pos 1 ≤ᶻ x.weight) × (x.weight ≤ᶻ greatest_weight)) →
      every (share_in_range t names rules) (map to_share l) ≡ true
  every-share [] codes weights = refl
  every-share (x ∷ l) codes weights =
      ap (λ b. elim b [ true ↦ every (share_in_range t names rules) (map to_share l) | false ↦ false ])
      (λ i. range_test (weights x (Memᴰ.head refl)).0 (weights x (Memᴰ.head refl)).1 i
      && code-entered x.entry (codes x (Memᴰ.head refl)) i)
      ∙ every-share l (λ y j. codes y (Memᴰ.tail j)) (λ y j. weights y (Memᴰ.tail j))

  sums-a : (l : List Weighted) → (sums t names rules (map to_share l)).a ≡ sum_of look (λ r. r.a) l
  sums-a [] = refl
  sums-a (x ∷ l) = ap (λ z. x.weight *ℤ (look x.entry).a +ℤ z) (sums-a l)

  sums-b : (l : List Weighted) → (sums t names rules (map to_share l)).b ≡ sum_of look (λ r. r.b) l
  sums-b [] = refl
  sums-b (x ∷ l) = ap (λ z. x.weight *ℤ (look x.entry).b +ℤ z) (sums-b l)

  sums-c : (l : List Weighted) → (sums t names rules (map to_share l)).c ≡ sum_of look (λ r. r.c) l
  sums-c [] = refl
  sums-c (x ∷ l) = ap (λ z. x.weight *ℤ (look x.entry).c +ℤ z) (sums-c l)

  abbrev k : Certificate
  k = p.witness

  abbrev Said : Weights → Type 0
  Said w = judged t names rules (record { outcome = outcome.Infeasible; weights = w }) ≡ Yes

  -- the entries that the witness names are the shares of w, in number and apart
  record Listed (w : Weights) : Type 0 where
    entries : List Weighted
    all_named : named k ≡ entries
    all-shares : shares w ≡ map to_share entries
    few : ranges (pos 1) w.count (pos 3) ≡ true
    different : distinct (map to_share entries) ≡ true

  listed-yes : (w : Weights) → Listed w → Said w
  listed-yes w at =
      λ i. answered (at.few i && each i && separate i) (a-zero i && b-zero i && c-below i)
    where
      l : List Weighted
      l = at.entries

      e : named k ≡ l
      e = at.all_named

      es : shares w ≡ map to_share l
      es = at.all-shares

      each : every (share_in_range t names rules) (shares w) ≡ true
      each =
          ap (every (share_in_range t names rules)) es
          ∙ every-share l (subst (λ m. (x : Weighted) → Memᴰ x m → Codes names p.place x.entry) e adds.entries)
          (subst (λ m. (x : Weighted) → Memᴰ x m → (pos 1 ≤ᶻ x.weight) × (x.weight ≤ᶻ greatest_weight)) e adds.weights)

      separate : distinct (shares w) ≡ true
      separate = ap distinct es ∙ at.different

      a-zero : is_zero (sums t names rules (shares w)).a ≡ true
      a-zero =
          ap is_zero (ap (λ m. (sums t names rules m).a) es ∙ sums-a l ∙ ap (sum_of look (λ r. r.a)) (sym e) ∙ adds.cancels_a)

      b-zero : is_zero (sums t names rules (shares w)).b ≡ true
      b-zero =
          ap is_zero (ap (λ m. (sums t names rules m).b) es ∙ sums-b l ∙ ap (sum_of look (λ r. r.b)) (sym e) ∙ adds.cancels_b)

      c-below : lt_z (sums t names rules (shares w)).c (pos 0) ≡ true
      c-below =
          ap (λ z. lt_z z (pos 0)) (ap (λ m. (sums t names rules m).c) es ∙ sums-c l ∙ ap (sum_of look (λ r. r.c)) (sym e))
          ∙ is_true (lt_z (sum_of look (λ r. r.c) (named k)) (pos 0)) adds.falls.lt

  -- a slip's entries are the witness's, so nothing is spare in it either
  back : (l : List Weighted) → l ≡ map weighted_of (map to_share l)
  back [] = refl
  back (x ∷ l) = ap (λ m. x ∷ m) (back l)

  listed-lean : (w : Weights) → Listed w → Lean t names rules w
  listed-lean w at =
      subst (NothingSpare look) (at.all_named ∙ back at.entries ∙ ap (map weighted_of) (sym at.all-shares))
      (list.witness-lean t names rules p planned n look looked f)

  -- ---- by how many are in use

  first-used : weighted k.first k.first_weight ≡ entry k.first k.first_weight ∷ []
  first-used = weighted-used k.first k.first_weight (used-not (is_zero k.first_weight) apart.first-used)

  abbrev with_count : ℤ → Weights
  with_count c =
      weights_with (pos 0) c (pos k.first) k.first_weight (pos k.second) k.second_weight (pos k.third) k.third_weight

  conflict-listed : Listed (conflict_weights k)
  conflict-listed = go (is_zero k.second_weight) refl (is_zero k.third_weight) refl
    where
      go : (b : Bool) →
          is_zero k.second_weight ≡ b →
          (c : Bool) →
          is_zero k.third_weight ≡ c →
          Listed (with_count (elim b [ true ↦ pos 1 | false ↦ elim c [ true ↦ pos 2 | false ↦ pos 3 ] ]))
      go true eb true ec =
          record {
            entries = entry k.first k.first_weight ∷ [];
            all_named = λ i. first-used i ++ (weighted-unused k.second k.second_weight eb i ++ weighted-unused k.third
                k.third_weight ec i);
            all-shares = refl;
            few = refl;
            different = refl;
          }
      go true eb false ec =
          absurd
          (subst T (sym eb ∙ used-not (is_zero k.second_weight) (apart.third-above (not-used (is_zero k.third_weight) ec)).0) tt)
      go false eb true ec =
          record {
            entries = entry k.first k.first_weight ∷ entry k.second k.second_weight ∷ [];
            all_named = λ i. first-used i ++ (weighted-used k.second k.second_weight eb i ++ weighted-unused k.third
                k.third_weight ec i);
            all-shares = refl;
            few = refl;
            different = λ i. elim (not (rising-differ k.first k.second rises i)) [ true ↦ true | false ↦ false ] && true;
          }
        where
          rises : k.first < k.second
          rises = apart.second_above (not-used (is_zero k.second_weight) eb)
      go false eb false ec =
          record {
            entries =
                entry k.first k.first_weight ∷ entry k.second k.second_weight ∷ entry k.third k.third_weight ∷ [];
            all_named = λ i. first-used i ++ (weighted-used k.second k.second_weight eb i
                ++ weighted-used k.third k.third_weight ec i);
            all-shares = refl;
            few = refl;
            different = λ i. elim (not (rising-differ k.first k.second rises i)) [
              | true ↦ elim (not (rising-differ k.first k.third (omega (arith, rises, last)) i)) [ true ↦ true | false ↦ false ]
              | false ↦ false
            ]
                && (elim (not (rising-differ k.second k.third last i)) [ true ↦ true | false ↦ false ] && true);
          }
        where
          rises : k.first < k.second
          rises = apart.second_above (not-used (is_zero k.second_weight) eb)

          last : k.second < k.third
          last = (apart.third-above (not-used (is_zero k.third_weight) ec)).1

  pub conflict-yes : Said (conflict_weights k)
  conflict-yes = listed-yes (conflict_weights k) conflict-listed

  pub conflict-lean : Lean t names rules (conflict_weights k)
  conflict-lean = listed-lean (conflict_weights k) conflict-listed

-- ---- codes of a witness are small, and 0 where they are not used

pub record Unused (k : Certificate) : Type 0 where
  pub first : is_zero k.first_weight ≡ true → k.first ≡ 0
  pub second : is_zero k.second_weight ≡ true → k.second ≡ 0
  pub third : is_zero k.third_weight ≡ true → k.third ≡ 0

unused-code : (names : List ℕ) (e : ℕ) (w : ℤ) → is_zero w ≡ true → code_of names e w ≡ 0
unused-code names e w u = ap (λ b. elim b [ true ↦ 0 | false ↦ code_at names e ]) u

pub unused_codes : (names : List ℕ) (k : Certificate) → Unused (rising (coded names k))
unused_codes names k =
    rising-keeps Unused (λ k h. record { first = h.second; second = h.first; third = h.third })
    (λ k h. record { first = h.first; second = h.third; third = h.second }) (coded names k)
    (record {
      first = unused-code names k.first k.first_weight;
      second = unused-code names k.second k.second_weight;
      third = unused-code names k.third k.third_weight;
    })

module _ (names : List ℕ) (small : (i : ℕ) → get_or names i 0 < 65536) where
  code-at-small : (e : ℕ) → code_at names e < 2 ^ 63
  code-at-small zero = omega arith
  code-at-small (suc zero) = omega arith
  code-at-small (suc (suc i)) = omega (arith, small i)

  code-small : (e : ℕ) (w : ℤ) → code_of names e w < 2 ^ 63
  code-small e w = go (is_zero w)
    where
      go : (b : Bool) → elim b [ true ↦ 0 | false ↦ code_at names e ] < 2 ^ 63
      go true = omega arith
      go false = code-at-small e

  pub codes_small : (k : Certificate) → SmallCodes (rising (coded names k))
  codes_small k =
      rising-keeps SmallCodes (λ k h. record { first = h.second; second = h.first; third = h.third })
      (λ k h. record { first = h.first; second = h.third; third = h.second }) (coded names k)
      (record {
        first = code-small k.first k.first_weight;
        second = code-small k.second k.second_weight;
        third = code-small k.third k.third_weight;
      })

-- what a witness does not use is 0 in its slip
pub conflict_tidy : (k : Certificate) → Unused k → NoneTwice k → Tidy (conflict_weights k)
conflict_tidy k u apart = go (is_zero k.second_weight) refl (is_zero k.third_weight) refl
  where
    second_none : is_zero k.second_weight ≡ true → (pos k.second ≡ pos 0) × (k.second_weight ≡ pos 0)
    second_none e = (ap pos (u.second e), is-zero k.second_weight (subst T (sym e) tt))

    third-none : is_zero k.third_weight ≡ true → (pos k.third ≡ pos 0) × (k.third_weight ≡ pos 0)
    third-none e = (ap pos (u.third e), is-zero k.third_weight (subst T (sym e) tt))

    go : (b : Bool) →
        is_zero k.second_weight ≡ b →
        (c : Bool) →
        is_zero k.third_weight ≡ c →
        Tidy (weights_with (pos 0) (elim b [ true ↦ pos 1 | false ↦ elim c [ true ↦ pos 2 | false ↦ pos 3 ] ]) (pos k.first)
        k.first_weight
        (pos k.second) k.second_weight (pos k.third) k.third_weight)
    go true eb true ec =
        record {
          first-unused = λ z. absurd (subst T z tt);
          second-unused = λ z. second_none eb;
          third-unused = λ z. third-none ec;
        }
    go true eb false ec =
        absurd
        (subst T (sym eb ∙ used-not (is_zero k.second_weight) (apart.third-above (not-used (is_zero k.third_weight) ec)).0) tt)
    go false eb true ec =
        record {
          first-unused = λ z. absurd (subst T z tt);
          second-unused = λ z. absurd (subst T z tt);
          third-unused = λ z. third-none ec;
        }
    go false eb false ec =
        record {
          first-unused = λ z. absurd (subst T z tt);
          second-unused = λ z. absurd (subst T z tt);
          third-unused = λ z. absurd (subst T z tt);
        }
