-- What a yes means for a chain of rules, in the textbook's words, over pairs of fractions of any size, whoever wrote the slip: impossible
-- means that no pair is allowed; unlimited, that allowed pairs exist and gains have no top; best, that the pair is allowed and no allowed
-- pair gains more.
use mathlib.Core.Path.{◌≡◌, refl, sym, ◌∙◌, ap, subst}
use mathlib.Core.List.{List, [], ◌∷◌, Memᴰ}
use mathlib.Core.Bool.{Bool, true, false, not, ◌&&◌}
use mathlib.Core.Logic.{◌↔◌}
use Prim.Native.Nat.{ℕ, zero, suc}
use native.Mathlib.Omega.{arith}
use lib.Dec.{T, eqb}
use lib.IntN.{ℤ, pos, negsuc, neg_ℤ, ◌+ℤ◌, ◌-ℤ◌, ◌*ℤ◌, zero-*ℤ}
use lib.Signed.{le_z, lt_z, le_z_yes, lt_z_yes, <ℤ-≤ℤ_trans}
use Rattle.ints.specs.Order.{◌≤ᶻ◌, ◌<ᶻ◌}
use Rattle.ints.proofs.Ring.{◌⊕◌, ◌⊖◌, ◌⊗◌, ⊝◌, ◌≐◌, con}
use Rattle.ints.proofs.Order.{nn_add, nn_mul, nn_zero, pos_nn, pos-mul}
use Rattle.ints.proofs.Order.{pos_nat, nn_add_pos, neg_pos, nn_cancel, nn_neg, nn_sub, antisymmetric}
use Rattle.lp.specs.declared.Constraint.{Constraint}
use Rattle.lp.specs.declared.Functional.{Functional}
use Rattle.lp.specs.declared.Terms.{Terms}
use Rattle.lp.specs.declared.Point.{Point}
use Rattle.lp.specs.declared.Ray.{Ray}
use Rattle.lp.specs.declared.Outcome.{Outcome}
use Rattle.lp.specs.declared.Outcome.TheVariants as outcome
use Rattle.lp.specs.Program.{slack, Feasible, gain, along, rise, floor_x, floor_y, system}
use Rattle.lp.specs.Outcome.{every, keeps, allowed}
use Rattle.lp.specs.Certificate.{is_zero, greatest_weight}
use Rattle.lp.specs.Document.{same}
use Rattle.lp.specs.Textbook.{Infeasible, Unbounded, Bounded}
use Rattle.theory.proofs.Solver.{equal, nn_by, clash-by, C, F, P, R, Z, slackᵖ, gainᵖ}
use Rattle.theory.proofs.Lists.{every-at, for-members}
use Rattle.theory.proofs.Tops.{ray_no_top, peak-top, top_or_not}
use Rattle.answers.specs.Refusal.{refusal}
use Rattle.slip.specs.declared.Weights.{Weights}
use Rattle.slip.specs.declared.Slip.{Slip}
use Rattle.slip.specs.declared.Verdict.TheVariants.{Refused, Yes, No}
use Rattle.std.specs.Prelude.{Some}
use Rattle.slip.specs.Facts.{Share, shares, distinct, ranges, pair_in_range, ray_in_range, weight_in_range}
use Rattle.slip.specs.Facts.{entry_of, rule_in, is_entry, entry_rule, rule_at, share_in_range, entries_in_range, in_range, holds, answered, judged}
use Rattle.slip.specs.Facts.{sums, tight_all, is_allowed, is_lawful}
use Rattle.slip.specs.Numbers.{outcome_number}
use Rattle.slip.proofs.Shares.{both}

-- ---- yes: every field is in range, and the facts hold

different : Yes ≡ No → ⊥
different e =
    let z : ◌≡◌ {A = ℕ} 0 1 = cc in
    let b : ⊥ = omega arith in
    b

pub not-refused : (n r : ℕ) → Refused (refusal n r) ≡ Yes → ⊥
not-refused n r e =
    let z : ◌≡◌ {A = ℕ} 0 1 = cc in
    let b : ⊥ = omega arith in
    b

answered-yes : (ranged facts : Bool) → answered ranged facts ≡ Yes → (ranged ≡ true) × (facts ≡ true)
answered-yes true true e = (refl, refl)
answered-yes true false e = absurd (different (sym e))
answered-yes false facts e = absurd (not-refused 17 0 e)

pub yes-exactly_if :
    (t : Terms) (records : List ℕ) (rules : List Constraint) (s : Slip) →
    (judged t records rules s ≡ Yes)
    ↔ ((in_range t records rules s.outcome s.weights ≡ true) × (holds t records rules s.outcome s.weights ≡ true))
yes-exactly_if t records rules s = (
  (λ e. answered-yes (in_range t records rules s.outcome s.weights) (holds t records rules s.outcome s.weights) e),
  (λ x. (λ i. answered (x.0 i) (x.1 i))),
)

-- ---- tests as facts

pub le_of : (a b : ℤ) → le_z a b ≡ true → a ≤ᶻ b
le_of a b e = le_z_yes (subst T (sym e) tt)

pub lt_of : (a b : ℤ) → lt_z a b ≡ true → a <ᶻ b
lt_of a b e = lt_z_yes (subst T (sym e) tt)

pub same_of : (a b : ℤ) → same a b ≡ true → a ≡ b
same_of a b e =
    let h = both (le_z a b) (le_z b a) e in
    antisymmetric (le_of a b h.0) (le_of b a h.1)

positive : (z high : ℤ) → ranges (pos 1) z high ≡ true → pos 0 <ᶻ z
positive z high e = <ℤ-≤ℤ_trans (pos_nat 0) (le_of (pos 1) z (both (le_z (pos 1) z) (le_z z high) e).0)

module _ (t : Terms) (records : List ℕ) (rules : List Constraint) where
  abbrev S : List Constraint
  S = system t.floors rules

  -- ---- what a slip names is in the system

  rule-member : (is : List ℕ) (cs : List Constraint) (q : ℕ) → is_entry (rule_in is cs q) ≡ true → Memᴰ (entry_rule (rule_in is cs q)) cs
  rule-member [] cs q e = absurd (subst T (sym e) tt)
  rule-member (i ∷ is) [] q e = absurd (subst T (sym e) tt)
  rule-member (i ∷ is) (c ∷ cs) q e = go (eqb i q) e (rule-member is cs q)
    where
      go : (b : Bool) →
          is_entry (elim b [ true ↦ Some c | false ↦ rule_in is cs q ]) ≡ true →
          (is_entry (rule_in is cs q) ≡ true → Memᴰ (entry_rule (rule_in is cs q)) cs) →
          Memᴰ (entry_rule (elim b [ true ↦ Some c | false ↦ rule_in is cs q ])) (c ∷ cs)
      go true e k = Memᴰ.head refl
      go false e k = Memᴰ.tail (k e)

  entry-member : (code : ℤ) → is_entry (entry_of t.floors records rules code) ≡ true → Memᴰ (rule_at t records rules code) S
  entry-member (pos zero) e = Memᴰ.head refl
  entry-member (pos (suc zero)) e = Memᴰ.tail (Memᴰ.head refl)
  entry-member (pos (suc (suc q))) e = Memᴰ.tail (Memᴰ.tail (rule-member records rules (suc q) e))
  entry-member (negsuc n) e = absurd (subst T (sym e) tt)

  -- a share in range has a positive weight and an entry of the system
  pub record Sound (s : Share) : Type 0 where
    pub positive-weight : pos 0 <ᶻ s.weight
    pub entered : Memᴰ (rule_at t records rules s.code) S

  sound-share : (s : Share) → T (share_in_range t records rules s) → Sound s
  sound-share s h =
      let b = both (weight_in_range s.weight) (is_entry (entry_of t.floors records rules s.code)) (is_true _ h) in
      record { positive-weight = positive s.weight greatest_weight b.0; entered = entry-member s.code b.1 }
    where
      is_true : (b : Bool) → T b → b ≡ true
      is_true true h = refl
      is_true false h = absurd h

  all_sound : (l : List Share) → every (share_in_range t records rules) l ≡ true → (s : Share) → Memᴰ s l → Sound s
  all_sound l e s i = sound-share s (every-at (share_in_range t records rules) l (subst T (sym e) tt) s i)

  -- ---- the weighted sum of slacks

  abbrev sum_slack : List Share → Point → ℤ
  sum_slack l v =
      (sums t records rules l).c *ℤ v.d -ℤ ((sums t records rules l).a *ℤ v.x +ℤ (sums t records rules l).b *ℤ v.y)

  sum_step : (s : Share) (l : List Share) (v : Point) →
      sum_slack (s ∷ l) v ≡ s.weight *ℤ slack (rule_at t records rules s.code) v +ℤ sum_slack l v
  sum_step s l v =
      equal (C ∷ P ∷ Z ∷ C ∷ [])
      (λ r v u s. (u ⊗ r.c ⊕ s.c) ⊗ v.d ⊖ ((u ⊗ r.a ⊕ s.a) ⊗ v.x ⊕ (u ⊗ r.b ⊕ s.b) ⊗ v.y)
      ≐ u ⊗ slackᵖ r v ⊕ (s.c ⊗ v.d ⊖ (s.a ⊗ v.x ⊕ s.b ⊗ v.y))) refl
      (rule_at t records rules s.code) v s.weight (sums t records rules l)

  sum-nothing : (v : Point) → sum_slack [] v ≡ pos 0
  sum-nothing v = equal (P ∷ []) (λ v. con (pos 0) ⊗ v.d ⊖ (con (pos 0) ⊗ v.x ⊕ con (pos 0) ⊗ v.y) ≐ con (pos 0)) refl v

  -- it is not negative at an allowed pair
  weighted-slack : (v : Point) → Feasible S v → (l : List Share) → ((s : Share) → Memᴰ s l → Sound s) → pos 0 ≤ᶻ sum_slack l v
  weighted-slack v h [] sound = nn_zero (sum-nothing v)
  weighted-slack v h (s ∷ l) sound =
      subst (λ z. pos 0 ≤ᶻ z) (sym (sum_step s l v))
      (nn_add
      (nn_mul (pos_nn (sound s (Memᴰ.head refl)).positive-weight)
      (h.kept (rule_at t records rules s.code) (sound s (Memᴰ.head refl)).entered))
      (weighted-slack v h l (λ u i. sound u (Memᴰ.tail i))))

  -- and 0 where every entry holds with equality
  tight-slack : (v : Point) (l : List Share) →
      ((s : Share) → Memᴰ s l → slack (rule_at t records rules s.code) v ≡ pos 0) →
      sum_slack l v ≡ pos 0
  tight-slack v [] f = sum-nothing v
  tight-slack v (s ∷ l) f =
      sum_step s l v
      ∙ (λ i. s.weight *ℤ f s (Memᴰ.head refl) i +ℤ tight-slack v l (λ u j. f u (Memᴰ.tail j)) i)
      ∙ equal (Z ∷ []) (λ w. w ⊗ con (pos 0) ⊕ con (pos 0) ≐ con (pos 0)) refl s.weight

  -- ---- impossible

  pub impossible-means : (w : Weights) →
      in_range t records rules outcome.Infeasible w ≡ true →
      holds t records rules outcome.Infeasible w ≡ true →
      Infeasible S
  impossible-means w ranged facts v h =
      clash-by (P ∷ C ∷ [])
      (λ v s. s.c ⊗ v.d ⊖ (s.a ⊗ v.x ⊕ s.b ⊗ v.y) ⊕ s.a ⊗ v.x ⊕ s.b ⊗ v.y ⊕ ⊝ s.c ⊗ v.d) refl v total
      (nn_add_pos
      (nn_add
      (nn_add (weighted-slack v h (shares w) (all_sound (shares w) named))
      (nn_zero (ap (λ z. z *ℤ v.x) a-zero ∙ zero-*ℤ v.x)))
      (nn_zero (ap (λ z. z *ℤ v.y) b-zero ∙ zero-*ℤ v.y)))
      (pos-mul (neg_pos c-below) h.proper))
    where
      total : Constraint
      total = sums t records rules (shares w)

      named : every (share_in_range t records rules) (shares w) ≡ true
      named =
          (both (ranges (pos 1) w.count (pos 3)) (every (share_in_range t records rules) (shares w))
          (both (ranges (pos 1) w.count (pos 3) && every (share_in_range t records rules) (shares w)) (distinct (shares w)) ranged).0).1

      a-zero : total.a ≡ pos 0
      a-zero =
          same_of total.a (pos 0)
          (both (is_zero total.a) (is_zero total.b) (both (is_zero total.a && is_zero total.b) (lt_z total.c
          (pos 0)) facts).0).0

      b-zero : total.b ≡ pos 0
      b-zero =
          same_of total.b (pos 0)
          (both (is_zero total.a) (is_zero total.b) (both (is_zero total.a && is_zero total.b) (lt_z total.c
          (pos 0)) facts).0).1

      c-below : total.c <ᶻ pos 0
      c-below = lt_of total.c (pos 0) (both (is_zero total.a && is_zero total.b) (lt_z total.c (pos 0)) facts).1

  -- ---- an allowed pair

  allowed-feasible : (v : Point) → pair_in_range v ≡ true → is_allowed t records rules v ≡ true → Feasible S v
  allowed-feasible v ranged facts =
      record {
        proper =
            positive v.d (pos 2147352578)
            (both
            (ranges (negsuc 65533999999999) v.x (pos 65534000000000) && ranges (negsuc 65533999999999) v.y (pos 65534000000000))
            (ranges (pos 1) v.d (pos 2147352578)) ranged).1;
        kept = λ r i. le_z_yes (every-at (λ r. keeps r v) S (subst T (sym facts) tt) r i);
      }

  -- ---- unlimited

  pub unlimited-means : (v : Point) (d : Ray) (w : Weights) →
      in_range t records rules (outcome.Unbounded v d) w ≡ true →
      holds t records rules (outcome.Unbounded v d) w ≡ true →
      Unbounded S t.objective
  unlimited-means v d w ranged facts =
      record {
        possible = (v, feasible);
        no_top = ray_no_top S t.objective v d feasible recedes (lt_of (pos 0) (along t.objective d) lawful.1);
      }
    where
      fields : (pair_in_range v ≡ true) × (ray_in_range d ≡ true)
      fields = both (pair_in_range v) (ray_in_range d) ranged

      said : (is_allowed t records rules v ≡ true) × (is_lawful t records rules d ≡ true)
      said = both (is_allowed t records rules v) (is_lawful t records rules d) facts

      feasible : Feasible S v
      feasible = allowed-feasible v fields.0 said.0

      lawful : (every (λ r. le_z (rise r d) (pos 0)) rules ≡ true) × (lt_z (pos 0) (along t.objective d) ≡ true)
      lawful = both (every (λ r. le_z (rise r d) (pos 0)) rules) (lt_z (pos 0) (along t.objective d)) said.1

      rays : (ranges (pos 0) d.dx (pos 32767) ≡ true) × (ranges (pos 0) d.dy (pos 32767) ≡ true)
      rays = both (ranges (pos 0) d.dx (pos 32767)) (ranges (pos 0) d.dy (pos 32767)) fields.1

      dx_nn : pos 0 ≤ᶻ d.dx
      dx_nn = le_of (pos 0) d.dx (both (le_z (pos 0) d.dx) (le_z d.dx (pos 32767)) rays.0).0

      dy_nn : pos 0 ≤ᶻ d.dy
      dy_nn = le_of (pos 0) d.dy (both (le_z (pos 0) d.dy) (le_z d.dy (pos 32767)) rays.1).0

      x-stays : rise (floor_x t.floors) d ≤ᶻ pos 0
      x-stays =
          nn_neg (nn_by (R ∷ []) (λ d. ⊝ (con (negsuc 0) ⊗ d.dx ⊕ con (pos 0) ⊗ d.dy) ≐ d.dx) refl d dx_nn)

      y-stays : rise (floor_y t.floors) d ≤ᶻ pos 0
      y-stays =
          nn_neg (nn_by (R ∷ []) (λ d. ⊝ (con (pos 0) ⊗ d.dx ⊕ con (negsuc 0) ⊗ d.dy) ≐ d.dy) refl d dy_nn)

      recedes : (r : Constraint) → Memᴰ r S → rise r d ≤ᶻ pos 0
      recedes =
          for-members (λ r. rise r d ≤ᶻ pos 0) (floor_x t.floors) (floor_y t.floors ∷ rules) x-stays
          (for-members (λ r. rise r d ≤ᶻ pos 0) (floor_y t.floors) rules y-stays
          (λ r i. le_z_yes (every-at (λ r. le_z (rise r d) (pos 0)) rules (subst T (sym lawful.0) tt) r i)))

  -- ---- best

  -- the pair is allowed, and no allowed pair gains more
  pub record Best (v : Point) : Type 0 where
    pub feasible : Feasible S v
    pub no_more : (w : Point) → Feasible S w → gain t.objective w *ℤ v.d ≤ᶻ gain t.objective v *ℤ w.d

  pub best-means : (v : Point) (w : Weights) →
      in_range t records rules (outcome.Optimal v) w ≡ true →
      holds t records rules (outcome.Optimal v) w ≡ true →
      Best v
  best-means v w ranged facts = record { feasible = feasible; no_more = no_more }
    where
      total : Constraint
      total = sums t records rules (shares w)

      f : Functional
      f = t.objective

      named : entries_in_range t records rules (pos 0) (pos 2) w ≡ true
      named = (both (pair_in_range v && weight_in_range w.scale) (entries_in_range t records rules (pos 0) (pos 2) w) ranged).1

      fields : (pair_in_range v ≡ true) × (weight_in_range w.scale ≡ true)
      fields =
          both (pair_in_range v) (weight_in_range w.scale)
          (both (pair_in_range v && weight_in_range w.scale) (entries_in_range t records rules (pos 0) (pos 2) w) ranged).0

      each : every (share_in_range t records rules) (shares w) ≡ true
      each =
          (both (ranges (pos 0) w.count (pos 2)) (every (share_in_range t records rules) (shares w))
          (both (ranges (pos 0) w.count (pos 2) && every (share_in_range t records rules) (shares w)) (distinct (shares w)) named).0).1

      first_three : (is_allowed t records rules v && tight_all t records rules v (shares w) && same total.a (w.scale *ℤ f.p)) ≡ true
      first_three =
          (both (is_allowed t records rules v && tight_all t records rules v (shares w) && same total.a (w.scale *ℤ f.p))
          (same total.b (w.scale *ℤ f.q)) facts).0

      b-is : total.b ≡ w.scale *ℤ f.q
      b-is =
          same_of total.b (w.scale *ℤ f.q)
          (both (is_allowed t records rules v && tight_all t records rules v (shares w) && same total.a (w.scale *ℤ f.p))
          (same total.b (w.scale *ℤ f.q)) facts).1

      a-is : total.a ≡ w.scale *ℤ f.p
      a-is =
          same_of total.a (w.scale *ℤ f.p)
          (both (is_allowed t records rules v && tight_all t records rules v (shares w)) (same total.a (w.scale *ℤ f.p)) first_three).1

      pair : (is_allowed t records rules v ≡ true) × (tight_all t records rules v (shares w) ≡ true)
      pair =
          both (is_allowed t records rules v) (tight_all t records rules v (shares w))
          (both (is_allowed t records rules v && tight_all t records rules v (shares w)) (same total.a (w.scale *ℤ f.p)) first_three).0

      feasible : Feasible S v
      feasible = allowed-feasible v fields.0 pair.0

      tight : sum_slack (shares w) v ≡ pos 0
      tight =
          tight-slack v (shares w)
          (λ s i. same_of (slack (rule_at t records rules s.code) v) (pos 0)
          (is_true _ (every-at (λ s. is_zero (slack (rule_at t records rules s.code) v)) (shares w) (subst T (sym pair.1) tt) s i)))
        where
          is_true : (b : Bool) → T b → b ≡ true
          is_true true h = refl
          is_true false h = absurd h

      no_more : (u : Point) → Feasible S u → gain f u *ℤ v.d ≤ᶻ gain f v *ℤ u.d
      no_more u h =
          nn_sub (nn_cancel (positive w.scale greatest_weight fields.1)
          (nn_by (F ∷ P ∷ P ∷ Z ∷ C ∷ [])
          (λ f v u k s. k ⊗ (gainᵖ f v ⊗ u.d ⊖ gainᵖ f u ⊗ v.d)
          ≐ v.d ⊗ slackᵖ s u ⊕ (⊝ u.d ⊗ slackᵖ s v ⊕ ((u.x ⊗ v.d ⊖ v.x ⊗ u.d) ⊗ (s.a ⊖ k ⊗ f.p)
          ⊕ (u.y ⊗ v.d ⊖ v.y ⊗ u.d) ⊗ (s.b ⊖ k ⊗ f.q)))) refl f v u w.scale total
          (nn_add (nn_mul (pos_nn feasible.proper) (weighted-slack u h (shares w) (all_sound (shares w) each)))
          (nn_zero
          ((λ i. neg_ℤ u.d *ℤ tight i +ℤ ((u.x *ℤ v.d -ℤ v.x *ℤ u.d) *ℤ (a-is i -ℤ w.scale *ℤ f.p)
          +ℤ (u.y *ℤ v.d -ℤ v.y *ℤ u.d) *ℤ (b-is i -ℤ w.scale *ℤ f.q)))
          ∙ equal (F ∷ P ∷ P ∷ Z ∷ [])
          (λ f v u k. ⊝ u.d ⊗ con (pos 0) ⊕ ((u.x ⊗ v.d ⊖ v.x ⊗ u.d) ⊗ (k ⊗ f.p ⊖ k ⊗ f.p)
          ⊕ (u.y ⊗ v.d ⊖ v.y ⊗ u.d) ⊗ (k ⊗ f.q ⊖ k ⊗ f.q)) ≐ con (pos 0)) refl f v u w.scale)))))

  pub best-bounded : (v : Point) → Best v → Bounded S t.objective
  best-bounded v b =
      record { possible = (v, b.feasible); top = peak-top S t.objective v b.feasible b.no_more }

  -- ---- what a yes means, whichever outcome the slip has

  abbrev pub Means : Outcome → Type 0
  Means outcome.Infeasible = Infeasible S
  Means (outcome.Unbounded v d) = Unbounded S t.objective
  Means (outcome.Optimal v) = Best v

  pub yes-means : (s : Slip) → judged t records rules s ≡ Yes → Means s.outcome
  yes-means s e = go s.outcome ((yes-exactly_if t records rules s).0 e)
    where
      go : (o : Outcome) →
          (in_range t records rules o s.weights ≡ true) × (holds t records rules o s.weights ≡ true) →
          Means o
      go outcome.Infeasible x = impossible-means s.weights x.0 x.1
      go (outcome.Unbounded v d) x = unlimited-means v d s.weights x.0 x.1
      go (outcome.Optimal v) x = best-means v s.weights x.0 x.1

  -- two that both get a yes say the same outcome
  pub one-outcome : (o o' : Outcome) → Means o → Means o' → outcome_number o ≡ outcome_number o'
  one-outcome outcome.Infeasible outcome.Infeasible m n = refl
  one-outcome outcome.Infeasible (outcome.Unbounded v d) m n = absurd (m n.possible.0 n.possible.1)
  one-outcome outcome.Infeasible (outcome.Optimal v) m n = absurd (m v n.feasible)
  one-outcome (outcome.Unbounded v d) outcome.Infeasible m n = absurd (n m.possible.0 m.possible.1)
  one-outcome (outcome.Unbounded v d) (outcome.Unbounded v' d') m n = refl
  one-outcome (outcome.Unbounded v d) (outcome.Optimal v') m n =
      absurd (top_or_not S t.objective m.no_top (best-bounded v' n).top)
  one-outcome (outcome.Optimal v) outcome.Infeasible m n = absurd (n v m.feasible)
  one-outcome (outcome.Optimal v) (outcome.Unbounded v' d') m n =
      absurd (top_or_not S t.objective n.no_top (best-bounded v m).top)
  one-outcome (outcome.Optimal v) (outcome.Optimal v') m n = refl
