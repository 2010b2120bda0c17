-- The planner's slips get a yes: for each outcome, the fields are in range and document 02's facts hold.
use mathlib.Core.Path.{◌≡◌, refl, sym, ◌∙◌, ap, ap₂, subst}
use mathlib.Core.List.{List, [], ◌∷◌, Memᴰ}
use mathlib.Core.Bool.{Bool, true, false, not, ◌&&◌}
use mathlib.Core.Logic.{◌⊎◌, inl, inr}
use Prim.Native.Nat.{ℕ, zero, suc, ◌+◌, ◌≤◌, ◌<◌}
use native.Mathlib.Omega.{arith}
use borrow.Author.Tests.{eq-eqb, ne_eqb}
use lib.Dec.{T, le→leb}
use lib.ListN.{length, get_or}
use lib.IntN.{ℤ, pos, negsuc, neg_ℤ, ◌+ℤ◌, ◌*ℤ◌}
use lib.Signed.{le_z, lt_z, le_z_yes, clash_ℤ}
use Rattle.ints.specs.Order.{◌≤ᶻ◌, ◌<ᶻ◌}
use Rattle.ints.specs.Within.{Within}
use Rattle.ints.proofs.Ring.{◌⊕◌, ◌⊖◌, ◌⊗◌, ⊝◌, ◌≐◌, con}
use Rattle.ints.proofs.Order.{pos-elim, nn_add, neg_pos}
use Rattle.ints.proofs.Order.{antisymmetric, le_of_eq, lt_le, pos_neg}
use Rattle.ints.proofs.Order.{Sign, minus, nought, plus, sign}
use Rattle.ints.proofs.Machine.{within-add, within-sub, within-mul, weaken}
use Rattle.lp.specs.declared.Constraint.{Constraint}
use Rattle.lp.specs.declared.Terms.{Terms}
use Rattle.lp.specs.declared.Point.{Point}
use Rattle.lp.specs.declared.Ray.{Ray}
use Rattle.lp.specs.declared.Outcome.TheVariants as outcome
use Rattle.lp.specs.Program.{slack, Feasible, gain, along, rise, floor_x, floor_y, system}
use Rattle.lp.specs.Outcome.{det, every, keeps, allowed}
use Rattle.lp.specs.Certificate.{is_zero}
use Rattle.lp.specs.Document.{same}
use Rattle.lp.specs.Range.{SmallConstraint, SmallSystem, SmallTerms}
use Rattle.lp.specs.Textbook.{LawfulDirection}
use Rattle.model.specs.Bounds.{SmallPoint, SmallRay}
use Rattle.theory.proofs.Solver.{equal, pos-by, C, Z, detᵖ}
use Rattle.theory.proofs.Lists.{every_of, for-members, is_true}
use Rattle.slip.specs.declared.Weights.{Weights}
use Rattle.slip.specs.declared.Verdict.TheVariants.{Yes}
use Rattle.std.specs.Prelude.{Some}
use Rattle.slip.specs.Facts.{share, shares, distinct, none, ranges, pair_in_range, weight_in_range}
use Rattle.slip.specs.Facts.{entry_of, rule_in, is_entry, entry_rule, rule_at, share_in_range, sums, tight_all, answered, judged}
use Rattle.slip.specs.Runs.{SmallPair}
use Rattle.slip.proofs.Shares.{both}
use Rattle.plans.specs.Planning.{Named}
use Rattle.slips.specs.declared.pass.Side.{Side}
use Rattle.slips.specs.declared.pass.Held.{Held}
use Rattle.slips.specs.Pass.{normal_of, opposite_of, dot, side, floors_held, held_of}
use Rattle.slips.specs.Runs.{SmallHeld}
use Rattle.slip.specs.Weights.{no_weights}
use Rattle.slips.specs.Weights.{weights_with, one_weight, two_weights, best_weights}
use Rattle.slips.proofs.Sizes.{normal-small, floors-held-small}
use Rattle.slips.proofs.Lending.{pass_small}
use Rattle.slips.proofs.Enclosed.{Real, Holds, Paired, AndTight, nothing-holds, turned-holds, pass_holds, seen-less, no_objective}
use Rattle.slips.proofs.Enclosed.{lt_of, le_of-not, square, squares}

-- ---- tests from facts

test_le : {a b : ℤ} → a ≤ᶻ b → le_z a b ≡ true
test_le {a} {b} h = is_true (le_z a b) h.le

test-same : {a b : ℤ} → a ≡ b → same a b ≡ true
test-same {a} {b} e = λ i. test_le (le_of_eq e) i && test_le (le_of_eq (sym e)) i

zero_test : {z : ℤ} → z ≡ pos 0 → is_zero z ≡ true
zero_test e = ap is_zero e

pub range_test : {low z high : ℤ} → low ≤ᶻ z → z ≤ᶻ high → ranges low z high ≡ true
range_test a b = λ i. test_le a i && test_le b i

positive-one : {z : ℤ} → pos 0 <ᶻ z → pos 1 ≤ᶻ z
positive-one h = pos-elim (λ z. pos 1 ≤ᶻ z) (λ n. le_z_yes (le→leb 1 (suc n) (omega arith))) h

at_most : {n : ℕ} {z : ℤ} → Within n z → z ≤ᶻ pos n
at_most {n} {z = pos k} h = le_z_yes (le→leb k n h.small)
at_most {n} {z = negsuc k} h = le_z_yes tt

at_least : {n : ℕ} {z : ℤ} → Within (suc n) z → negsuc n ≤ᶻ z
at_least {n} {z = pos k} h = le_z_yes tt
at_least {n} {z = negsuc k} h = le_z_yes (le→leb k n (down h.small))
  where
    down : suc k ≤ suc n → k ≤ n
    down h = omega arith

pub weight-test : {w : ℤ} → pos 0 <ᶻ w → Within 2147352578 w → weight_in_range w ≡ true
weight-test p h = range_test (positive-one p) (at_most h)

pub pair-test : (v : Point) → SmallPoint v → pair_in_range v ≡ true
pair-test v h =
    λ i. range_test (at_least h.x-small) (at_most h.x-small) i && range_test (at_least h.y-small) (at_most h.y-small) i
    && range_test (positive-one h.d-proper) (at_most h.d_small) i

pub allowed-test : (S : List Constraint) (v : Point) → Feasible S v → allowed S v ≡ true
allowed-test S v h = is_true (allowed S v) (every_of (λ r. keeps r v) S (λ r i. (h.kept r i).le))

-- ---- a rule's code names it

found_at : (names : List ℕ) (rules : List Constraint) →
    length names ≡ length rules →
    ((i j : ℕ) → i < j → j < length names → get_or names i 0 ≡ get_or names j 0 → ⊥) →
    (k : ℕ) →
    k < length names →
    rule_in names rules (get_or names k 0) ≡ Some (get_or rules k none)
found_at [] rules e apart k h = absurd (empty h)
  where
    empty : k < 0 → ⊥
    empty h = omega arith
found_at (i ∷ is) [] e apart k h = absurd (wrong (length is) e)
  where
    wrong : (n : ℕ) → suc n ≡ 0 → ⊥
    wrong n e = omega (arith, e)
found_at (i ∷ is) (c ∷ cs) e apart zero h =
    ap (λ b. elim b [ true ↦ Some c | false ↦ rule_in is cs i ]) (eq-eqb i i refl)
found_at (i ∷ is) (c ∷ cs) e apart (suc k) h =
    ap (λ b. elim b [ true ↦ Some c | false ↦ rule_in is cs (get_or is k 0) ])
    (ne_eqb i (get_or is k 0) (λ q. apart 0 (suc k) (omega arith) (omega arith) q))
    ∙ found_at is cs (omega (arith, e)) (λ i j l m. apart (suc i) (suc j) (omega arith) (omega arith)) k (omega arith)

module _ (t : Terms) (names : List ℕ) (rules : List Constraint) (n : Named names rules) where
  abbrev S : List Constraint
  S = system t.floors rules

  -- a side is an entry of the system under its code
  abbrev pub Entry : Side → Type 0
  Entry s = entry_of t.floors names rules s.code ≡ Some s.rule

  code-names : (r : ℕ) → 1 ≤ r → entry_of t.floors names rules (pos (r + 1)) ≡ rule_in names rules r
  code-names zero h = absurd (none_below h)
    where
      none_below : 1 ≤ 0 → ⊥
      none_below h = omega arith
  code-names (suc q) h = ap (λ k. entry_of t.floors names rules (pos k)) (plus q)
    where
      plus : (q : ℕ) → suc q + 1 ≡ suc (suc q)
      plus q = omega arith

  pub rule-entry : (k : ℕ) → k < length names → entry_of t.floors names rules (pos (get_or names k 0 + 1)) ≡ Some (get_or rules k none)
  rule-entry k h = code-names (get_or names k 0) (n.from_one k h) ∙ found_at names rules n.count n.apart k h

  module _ (v : Point) where
    paired_of : (is : List ℕ) (cs : List Constraint) →
        length is ≡ length cs →
        ((k : ℕ) → k < length is → Entry (side (pos (get_or is k 0 + 1)) (get_or cs k none))) →
        Paired (normal_of t.objective) v Entry is cs
    paired_of [] [] e f = tt
    paired_of [] (c ∷ cs) e f = wrong (length cs) e
      where
        wrong : (n : ℕ) → 0 ≡ suc n → ⊥
        wrong n e = omega (arith, e)
    paired_of (i ∷ is) [] e f = wrong (length is) e
      where
        wrong : (n : ℕ) → suc n ≡ 0 → ⊥
        wrong n e = omega (arith, e)
    paired_of (i ∷ is) (c ∷ cs) e f = (
      f 0 (omega arith),
      paired_of is cs (omega (arith, e)) (λ k h. f (suc k) (omega arith)),
    )

    abbrev g : Constraint
    g = normal_of t.objective

    abbrev held : Held
    held = held_of t.objective v t.floors names rules

    -- ---- what the pass over the whole system holds

    abbrev Nothing : Constraint → Type 0
    Nothing m = ⊥

    held-holds : Holds g v Entry (λ m. Memᴰ m S × (slack m v ≡ pos 0)) held
    held-holds =
        seen-less g v Entry
        {Seen = λ m. AndTight g v Entry (AndTight g v Entry Nothing (floor_x t.floors)) (floor_y t.floors) m
        ⊎ (Memᴰ m rules × (slack m v ≡ pos 0))}
        (λ m i. among m i.0 i.1)
        (pass_holds g v Entry names rules (paired_of names rules n.count rule-entry)
        {Seen = AndTight g v Entry (AndTight g v Entry Nothing (floor_x t.floors)) (floor_y t.floors)}
        (turned-holds g v Entry {Seen = AndTight g v Entry Nothing (floor_x t.floors)}
        (turned-holds g v Entry {Seen = Nothing} (nothing-holds g v Entry Nothing (λ m i. i)) (side (pos 0) (floor_x t.floors)) refl)
        (side (pos 1) (floor_y t.floors)) refl))
      where
        among : (m : Constraint) →
            Memᴰ m S →
            slack m v ≡ pos 0 →
            AndTight g v Entry (AndTight g v Entry Nothing (floor_x t.floors)) (floor_y t.floors) m
            ⊎ (Memᴰ m rules × (slack m v ≡ pos 0))
        among =
            for-members
            (λ m. slack m v ≡ pos 0 →
            AndTight g v Entry (AndTight g v Entry Nothing (floor_x t.floors)) (floor_y t.floors) m
            ⊎ (Memᴰ m rules × (slack m v ≡ pos 0))) (floor_x t.floors) (floor_y t.floors ∷ rules)
            (λ z. inl (inl (inr (refl, z))))
            (for-members
            (λ m. slack m v ≡ pos 0 →
            AndTight g v Entry (AndTight g v Entry Nothing (floor_x t.floors)) (floor_y t.floors) m
            ⊎ (Memᴰ m rules × (slack m v ≡ pos 0))) (floor_y t.floors) rules (λ z. inl (inr (refl, z))) (λ m i z. inr (i, z)))

    -- ---- one share

    share-test : (s : Side) → Entry s → {w : ℤ} → pos 0 <ᶻ w → Within 2147352578 w → share_in_range t names rules (share s.code w) ≡ true
    share-test s e p h = λ i. weight-test p h i && is_entry (e i)

    tight-test : (s : Side) → Entry s → slack s.rule v ≡ pos 0 → is_zero (slack (rule_at t names rules s.code) v) ≡ true
    tight-test s e z = ap (λ x. is_zero (slack (entry_rule x) v)) e ∙ zero_test z

    -- ---- a best pair

    module _ (small : SmallTerms t) (rules-small : SmallSystem rules) (point-small : SmallPoint v) (feasible : Feasible S v)
        (no_more : (w : Point) → Feasible S w → gain t.objective w *ℤ v.d ≤ᶻ gain t.objective v *ℤ w.d) where
      pair : SmallPair v
      pair = record { x-small = point-small.x-small; y-small = point-small.y-small; d_small = point-small.d_small }

      g-small : SmallConstraint g
      g-small = normal-small small.objective-small

      held_small : SmallHeld held
      held_small =
          pass_small g v names rules rules-small (floors_held g v t.floors)
          (floors-held-small (record { objective = g-small; pair = pair; floors-small = small.floors-small }))

      product_small : {x y z w : ℤ} → Within 32767 x → Within 32767 y → Within 32767 z → Within 32767 w → Within 2147352578
          (x *ℤ y +ℤ z *ℤ w)
      product_small a b c d = weaken tt (within-add (within-mul a b) (within-mul c d))

      det-small : {r s : Constraint} → SmallConstraint r → SmallConstraint s → Within 2147352578 (det r s)
      det-small h k = weaken tt (within-sub (within-mul h.a_small k.b-small) (within-mul k.a_small h.b-small))

      dot-small : {r s : Constraint} → SmallConstraint r → SmallConstraint s → Within 2147352578 (dot r s)
      dot-small h k = product_small h.a_small k.a_small h.b-small k.b-small

      -- the facts that all cases share
      abbrev Said : Weights → Type 0
      Said w = judged t names rules (record { outcome = outcome.Optimal v; weights = w }) ≡ Yes

      best-yes : (w : Weights) →
          weight_in_range w.scale ≡ true →
          ranges (pos 0) w.count (pos 2) ≡ true →
          every (share_in_range t names rules) (shares w) ≡ true →
          distinct (shares w) ≡ true →
          tight_all t names rules v (shares w) ≡ true →
          (sums t names rules (shares w)).a ≡ w.scale *ℤ t.objective.p →
          (sums t names rules (shares w)).b ≡ w.scale *ℤ t.objective.q →
          Said w
      best-yes w scale count each apart tight a b =
          λ i. answered (pair-test v point-small i && scale i && (count i && each i && apart i))
          (allowed-test S v feasible i && tight i && test-same a i && test-same b i)

      -- ---- one entry

      level-yes : pos 0 <ᶻ dot g held.level.rule → Said (one_weight g held.level)
      level-yes p =
          best-yes (one_weight g s) (weight-test n-positive (dot-small n-small n-small)) refl
          (ap (λ b. elim b [ true ↦ true | false ↦ false ]) (share-test s entered p (dot-small g-small n-small))) refl
          (ap (λ b. elim b [ true ↦ true | false ↦ false ]) (tight-test s entered found.0.tight)) a_sum b-sum
        where
          s : Side
          s = held.level

          m : Constraint
          m = s.rule

          found : Real g v Entry s × (det g m ≡ pos 0)
          found = held-holds.level_in p

          entered : Entry s
          entered = found.0.entered

          n-small : SmallConstraint m
          n-small = held_small.level

          n-positive : pos 0 <ᶻ dot m m
          n-positive = go (sign (dot m m))
            where
              go : Sign (dot m m) → pos 0 <ᶻ dot m m
              go (plus q) = q
              go (nought e) =
                  clash_ℤ p (le_of_eq (ap₂ (λ x y. g.a *ℤ x +ℤ g.b *ℤ y) (squares m.a m.b e).0 (squares m.a m.b e).1
                  ∙ equal (C ∷ []) (λ g. g.a ⊗ con (pos 0) ⊕ g.b ⊗ con (pos 0) ≐ con (pos 0)) refl g))
              go (minus q) = clash_ℤ q (nn_add (square m.a) (square m.b))

          a_sum : dot g m *ℤ (rule_at t names rules s.code).a +ℤ pos 0 ≡ dot m m *ℤ g.a
          a_sum =
              ap (λ x. dot g m *ℤ (entry_rule x).a +ℤ pos 0) entered
              ∙ equal (C ∷ C ∷ [])
              (λ g m. (g.a ⊗ m.a ⊕ g.b ⊗ m.b) ⊗ m.a ⊕ con (pos 0) ≐ (m.a ⊗ m.a ⊕ m.b ⊗ m.b) ⊗ g.a ⊕ ⊝ m.b ⊗ detᵖ g m) refl g m
              ∙ ap (λ z. dot m m *ℤ g.a +ℤ neg_ℤ m.b *ℤ z) found.1
              ∙ equal (Z ∷ Z ∷ []) (λ x y. x ⊕ y ⊗ con (pos 0) ≐ x) refl (dot m m *ℤ g.a) (neg_ℤ m.b)

          b-sum : dot g m *ℤ (rule_at t names rules s.code).b +ℤ pos 0 ≡ dot m m *ℤ g.b
          b-sum =
              ap (λ x. dot g m *ℤ (entry_rule x).b +ℤ pos 0) entered
              ∙ equal (C ∷ C ∷ [])
              (λ g m. (g.a ⊗ m.a ⊕ g.b ⊗ m.b) ⊗ m.b ⊕ con (pos 0) ≐ (m.a ⊗ m.a ⊕ m.b ⊗ m.b) ⊗ g.b ⊕ m.a ⊗ detᵖ g m) refl g m
              ∙ ap (λ z. dot m m *ℤ g.b +ℤ m.a *ℤ z) found.1
              ∙ equal (Z ∷ Z ∷ []) (λ x y. x ⊕ y ⊗ con (pos 0) ≐ x) refl (dot m m *ℤ g.b) m.a

      -- ---- two entries

      module _ (p : pos 0 <ᶻ det held.right.rule held.left.rule) where
        abbrev r : Side
        r = held.right

        abbrev l : Side
        l = held.left

        -- both are entries: the opposite of g encloses nothing
        both_real : (Real g v Entry r × (det g r.rule <ᶻ pos 0)) × (Real g v Entry l × (pos 0 <ᶻ det g l.rule))
        both_real = go held-holds.right_in held-holds.left_in
          where
            go : (Real g v Entry r × (det g r.rule <ᶻ pos 0)) ⊎ (r.rule ≡ opposite_of g) →
                (Real g v Entry l × (pos 0 <ᶻ det g l.rule)) ⊎ (l.rule ≡ opposite_of g) →
                (Real g v Entry r × (det g r.rule <ᶻ pos 0)) × (Real g v Entry l × (pos 0 <ᶻ det g l.rule))
            go (inl x) (inl y) = (x, y)
            go (inl x) (inr e) =
                clash_ℤ (subst (λ m. pos 0 <ᶻ det r.rule m) e p)
                (lt_le (subst (λ z. z <ᶻ pos 0)
                (equal (C ∷ C ∷ []) (λ g r. detᵖ g r ≐ r.a ⊗ ⊝ g.b ⊖ ⊝ g.a ⊗ r.b) refl g r.rule) x.1))
            go (inr e) (inl y) =
                clash_ℤ (subst (λ m. pos 0 <ᶻ det m l.rule) e p)
                (lt_le (pos_neg (subst (λ z. pos 0 <ᶻ z)
                (equal (C ∷ C ∷ []) (λ g l. detᵖ g l ≐ ⊝ (⊝ g.a ⊗ l.b ⊖ l.a ⊗ ⊝ g.b)) refl g l.rule) y.1)))
            go (inr e) (inr d) =
                clash_ℤ (subst (λ m. pos 0 <ᶻ m) (λ i. det (e i) (d i)) p)
                (le_of_eq (equal (C ∷ []) (λ g. ⊝ g.a ⊗ ⊝ g.b ⊖ ⊝ g.a ⊗ ⊝ g.b ≐ con (pos 0)) refl g))

        r-entered : Entry r
        r-entered = both_real.0.0.entered

        l-entered : Entry l
        l-entered = both_real.1.0.entered

        r-weight : pos 0 <ᶻ det g l.rule
        r-weight = both_real.1.1

        l-weight : pos 0 <ᶻ det r.rule g
        l-weight = pos-by (C ∷ C ∷ []) (λ g r. detᵖ r g ≐ ⊝ detᵖ g r) refl g r.rule (neg_pos both_real.0.1)

        -- equal codes would name equal rules
        codes_apart : r.code ≡ l.code → ⊥
        codes_apart e =
            clash_ℤ p (le_of_eq (ap (λ m. det m l.rule) same-rule
            ∙ equal (C ∷ []) (λ l. detᵖ l l ≐ con (pos 0)) refl l.rule))
          where
            same-rule : r.rule ≡ l.rule
            same-rule = ap entry_rule (sym r-entered ∙ ap (entry_of t.floors names rules) e ∙ l-entered)

        not_same : (c d : ℤ) → (c ≡ d → ⊥) → same c d ≡ false
        not_same c d f = go (same c d) refl
          where
            go : (b : Bool) → same c d ≡ b → same c d ≡ false
            go true e =
                let x = both (le_z c d) (le_z d c) e in
                absurd (f (antisymmetric (le_z_yes (subst T (sym x.0) tt)) (le_z_yes (subst T (sym x.1) tt))))
            go false e = e

        two-yes : (a b : Side) (u w : ℤ) →
            Entry a →
            Entry b →
            (a.code ≡ b.code → ⊥) →
            slack a.rule v ≡ pos 0 →
            slack b.rule v ≡ pos 0 →
            pos 0 <ᶻ u →
            Within 2147352578 u →
            pos 0 <ᶻ w →
            Within 2147352578 w →
            u *ℤ a.rule.a +ℤ (w *ℤ b.rule.a +ℤ pos 0) ≡ det r.rule l.rule *ℤ g.a →
            u *ℤ a.rule.b +ℤ (w *ℤ b.rule.b +ℤ pos 0) ≡ det r.rule l.rule *ℤ g.b →
            Said (weights_with (det r.rule l.rule) (pos 2) a.code u b.code w (pos 0) (pos 0))
        two-yes a b u w ea eb apart za zb pu hu pw hw sa sb =
            best-yes (weights_with (det r.rule l.rule) (pos 2) a.code u b.code w (pos 0) (pos 0))
            (weight-test p (det-small held_small.right held_small.left)) refl
            (λ i. elim (share-test a ea pu hu i) [
              | true ↦ elim (share-test b eb pw hw i) [ true ↦ true | false ↦ false ]
              | false ↦ false
            ])
            (λ i. elim (not (not_same a.code b.code apart i)) [ true ↦ true | false ↦ false ] && true)
            (λ i. elim (tight-test a ea za i) [ true ↦ elim (tight-test b eb zb i) [ true ↦ true | false ↦ false ] | false ↦ false ])
            ((λ i. u *ℤ (entry_rule (ea i)).a +ℤ (w *ℤ (entry_rule (eb i)).a +ℤ pos 0)) ∙ sa)
            ((λ i. u *ℤ (entry_rule (ea i)).b +ℤ (w *ℤ (entry_rule (eb i)).b +ℤ pos 0)) ∙ sb)

        enclosed_yes : Said (two_weights g r l)
        enclosed_yes = go (lt_z r.code l.code)
          where
            go : (b : Bool) →
                Said (elim b [
                  | true ↦ weights_with (det r.rule l.rule) (pos 2) r.code (det g l.rule) l.code (det r.rule g) (pos 0)
                      (pos 0)
                  | false ↦ weights_with (det r.rule l.rule) (pos 2) l.code (det r.rule g) r.code (det g l.rule)
                      (pos 0) (pos 0)
                ])
            go true =
                two-yes r l (det g l.rule) (det r.rule g) r-entered l-entered codes_apart both_real.0.0.tight
                both_real.1.0.tight
                r-weight (det-small g-small held_small.left) l-weight (det-small held_small.right g-small)
                (equal (C ∷ C ∷ C ∷ []) (λ g r l. detᵖ g l ⊗ r.a ⊕ (detᵖ r g ⊗ l.a ⊕ con (pos 0)) ≐ detᵖ r l ⊗ g.a) refl g r.rule
                l.rule)
                (equal (C ∷ C ∷ C ∷ []) (λ g r l. detᵖ g l ⊗ r.b ⊕ (detᵖ r g ⊗ l.b ⊕ con (pos 0)) ≐ detᵖ r l ⊗ g.b) refl g r.rule
                l.rule)
            go false =
                two-yes l r (det r.rule g) (det g l.rule) l-entered r-entered (λ e. codes_apart (sym e)) both_real.1.0.tight
                both_real.0.0.tight l-weight (det-small held_small.right g-small) r-weight (det-small g-small held_small.left)
                (equal (C ∷ C ∷ C ∷ []) (λ g r l. detᵖ r g ⊗ l.a ⊕ (detᵖ g l ⊗ r.a ⊕ con (pos 0)) ≐ detᵖ r l ⊗ g.a) refl g r.rule
                l.rule)
                (equal (C ∷ C ∷ C ∷ []) (λ g r l. detᵖ r g ⊗ l.b ⊕ (detᵖ g l ⊗ r.b ⊕ con (pos 0)) ≐ detᵖ r l ⊗ g.b) refl g r.rule
                l.rule)

      -- ---- none

      none-yes : dot g held.level.rule ≤ᶻ pos 0 → det held.right.rule held.left.rule ≤ᶻ pos 0 → Said (no_weights (pos 1))
      none-yes no_level apart =
          best-yes (no_weights (pos 1)) refl refl refl refl refl (sym (ap (λ z. pos 1 *ℤ z) zero-objective.0))
          (sym (ap (λ z. pos 1 *ℤ z) zero-objective.1))
        where
          zero-objective : (t.objective.p ≡ pos 0) × (t.objective.q ≡ pos 0)
          zero-objective = no_objective S t.objective v feasible no_more Entry {h = held} held-holds no_level apart

      -- the slip of a best pair gets a yes
      pub optimum-yes : Said (best_weights t v names rules)
      optimum-yes =
          go (lt_z (pos 0) (dot g held.level.rule)) refl (lt_z (pos 0) (det held.right.rule held.left.rule)) refl
        where
          go : (a : Bool) →
              lt_z (pos 0) (dot g held.level.rule) ≡ a →
              (b : Bool) →
              lt_z (pos 0) (det held.right.rule held.left.rule) ≡ b →
              Said (elim a [
                | true ↦ one_weight g held.level
                | false ↦ elim b [ true ↦ two_weights g held.right held.left | false ↦ no_weights (pos 1) ]
              ])
          go true ea b eb = level-yes (lt_of (pos 0) (dot g held.level.rule) ea)
          go false ea true eb = enclosed_yes (lt_of (pos 0) (det held.right.rule held.left.rule) eb)
          go false ea false eb =
              none-yes (le_of-not (pos 0) (dot g held.level.rule) ea) (le_of-not (pos 0) (det held.right.rule
              held.left.rule) eb)

    -- ---- unlimited

    pub unlimited-yes : (d : Ray) (w : Weights) →
        SmallPoint v →
        SmallRay d →
        Feasible S v →
        LawfulDirection rules t.objective d →
        judged t names rules (record { outcome = outcome.Unbounded v d; weights = w }) ≡ Yes
    unlimited-yes d w hv hd feasible lawful =
        λ i. answered (pair-test v hv i && (range_test lawful.dx-not-negative (at_most hd.dx-small) i
        && range_test lawful.dy-not-negative (at_most hd.dy-small) i))
        (allowed-test S v feasible i && (stays i && gains i))
      where
        stays : every (λ r. le_z (rise r d) (pos 0)) rules ≡ true
        stays = is_true (every (λ r. le_z (rise r d) (pos 0)) rules) (every_of (λ r. le_z (rise r d) (pos 0)) rules
            (λ r i. (lawful.never_leaves r i).le))

        gains : lt_z (pos 0) (along t.objective d) ≡ true
        gains = is_true (lt_z (pos 0) (along t.objective d)) lawful.gains.lt
