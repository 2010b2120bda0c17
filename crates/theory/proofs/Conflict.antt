-- The certificates that the model makes are valid: their weights cancel, name distinct entries, and are within document 01's bound for
-- lawful coefficients.
use mathlib.Core.Path.{◌≡◌, refl, sym, ◌∙◌, ap, subst}
use mathlib.Core.List.Memᴰ
use mathlib.Core.List.{List, [], ◌∷◌, ◌++◌, Memᴰ, append-nil}
use mathlib.Core.Bool.{Bool, true, false, not, ◌&&◌}
use mathlib.Core.Logic.{⊎_elim}
use Prim.Native.Nat.{ℕ, zero, suc, ◌<◌}
use native.Mathlib.Omega.{arith}
use lib.Dec.{T, eqb, leb, ltb, eqb→eq, lt→ltb, not_T}
use lib.ListN.{length, get_or}
use lib.IntN.{ℤ, pos, negsuc, ◌+ℤ◌, ◌*ℤ◌, +ℤ_idl, +ℤ_idr, zero-*ℤ}
use lib.Signed.{le_z, lt_z, clash_ℤ}
use Rattle.ints.specs.Order.{◌≤ᶻ◌, ◌<ᶻ◌}
use Rattle.ints.specs.Within.{Within}
use Rattle.ints.proofs.Laws.{one-mul}
use Rattle.ints.proofs.Order.{nn-elim, pos-elim, nn_zero, pos_nn, pos_nat, nn_nat}
use Rattle.ints.proofs.Machine.{within-mul, within-sub, within_neg, within_le, one_le}
use Rattle.lp.specs.declared.Constraint.{Constraint}
use Rattle.lp.specs.declared.Certificate.{Certificate}
use Rattle.lp.specs.declared.Point.{Point}
use Rattle.lp.specs.Program.{constraint, slack, Keeps}
use Rattle.lp.specs.Outcome.{det, meet, every}
use Rattle.lp.specs.Certificate.{Weighted, weighted, named, entry_in, total, distinct, greatest_weight, is_zero, certifies, NothingSpare}
use Rattle.lp.specs.Range.{SmallConstraint}
use Rattle.model.specs.Scan.{facing}
use Rattle.model.specs.Step.{alone, line_weight, conflict}
use Rattle.theory.proofs.Lists.{and_both, every_of, for-members, At, at-member, at-get_or, at-below, at_append, at_new, at-unique}
use Rattle.theory.proofs.Line.{meet-on-first}
use Rattle.theory.proofs.Lean.{conflict-lean, alone-lean}
use Rattle.theory.proofs.Farkas.{Sound, Refutes, line-weight-positive, weights-cancel-a, weights-cancel-b, weights-sum-c}

-- valid whatever the coefficients, and within the bound where they are within their ranges; with nothing spare
pub record Certified (S : List Constraint) (c : Certificate) : Type 0 where
  pub refutes : Refutes S (named c)
  pub valid : ((r : Constraint) → Memᴰ r S → SmallConstraint r) → T (certifies S (named c))
  pub lean : NothingSpare (entry_in S) (named c)

abbrev none : Constraint
none = constraint (pos 0) (pos 0) (pos 0)

-- ---- sums over the entries that are named

total-weighted :
    (part : Constraint → ℤ) (S : List Constraint) (e : ℕ) (w : ℤ) (l : List Weighted) →
    total part S (weighted e w ++ l) ≡ w *ℤ part (get_or S e none) +ℤ total part S l
total-weighted part S e (pos zero) l =
    sym (ap (λ z. z +ℤ total part S l) (zero-*ℤ (part (get_or S e none))) ∙ +ℤ_idl (total part S l))
total-weighted part S e (pos (suc n)) l = refl
total-weighted part S e (negsuc n) l = refl

total-last :
    (part : Constraint → ℤ) (S : List Constraint) (e : ℕ) (w : ℤ) →
    total part S (weighted e w) ≡ w *ℤ part (get_or S e none) +ℤ pos 0
total-last part S e w = ap (total part S) (sym (append-nil (weighted e w))) ∙ total-weighted part S e w []

weighted-sound :
    (S : List Constraint) (e : ℕ) →
    e < length S →
    {w : ℤ} →
    pos 0 ≤ᶻ w →
    (u : Weighted) →
    Memᴰ u (weighted e w) →
    Sound S u
weighted-sound S e h k = nn-elim (λ w. (u : Weighted) → Memᴰ u (weighted e w) → Sound S u) go k
  where
    go : (n : ℕ) (u : Weighted) → Memᴰ u (weighted e (pos n)) → Sound S u
    go zero u i = absurd (Memᴰ.not-nil i)
    go (suc n) u i = subst (Sound S) (sym (Memᴰ.eq_of_singleton i)) (record { positive = pos_nat n; entered = h })

-- ---- a certificate of up to three entries, by its numbers

and_eight : (a b c d e f g h : Bool) → T a → T b → T c → T d → T e → T f → T g → T h → T (a && b && c && d && e && f && g && h)
and_eight true true true true true true true h ta tb tc td te tf tg th = th
and_eight true true true true true true false h ta tb tc td te tf tg th = absurd tg
and_eight true true true true true false g h ta tb tc td te tf tg th = absurd tf
and_eight true true true true false f g h ta tb tc td te tf tg th = absurd te
and_eight true true true false e f g h ta tb tc td te tf tg th = absurd td
and_eight true true false d e f g h ta tb tc td te tf tg th = absurd tc
and_eight true false c d e f g h ta tb tc td te tf tg th = absurd tb
and_eight false b c d e f g h ta tb tc td te tf tg th = absurd ta

module _ (S : List Constraint) (l : List Weighted) where
  abbrev InRange : Weighted → Bool
  InRange w = le_z (pos 1) w.weight && le_z w.weight greatest_weight

  -- the test of `lp`, from its parts
  certifies_of :
      Refutes S l →
      T (ltb 0 (length l)) →
      T (leb (length l) 3) →
      T (distinct l) →
      ((w : Weighted) → Memᴰ w l → T (InRange w)) →
      T (certifies S l)
  certifies_of r some few apart sizes =
      and_eight (ltb 0 (length l)) (leb (length l) 3) (distinct l) (every (λ w. ltb w.entry (length S)) l) (every InRange l)
      (is_zero (total (λ r. r.a) S l)) (is_zero (total (λ r. r.b) S l)) (lt_z (total (λ r. r.c) S l) (pos 0))
      some few apart (every_of (λ w. ltb w.entry (length S)) l (λ w i. lt→ltb w.entry (length S) (r.sound w i).entered))
      (every_of InRange l sizes) (zero_test r.cancels_a) (zero_test r.cancels_b) r.falls.lt
    where
      zero_test : {z : ℤ} → z ≡ pos 0 → T (is_zero z)
      zero_test e = subst (λ z. T (is_zero z)) (sym e) tt

-- two entries differ
apart : (i j : ℕ) → (i ≡ j → ⊥) → T (not (eqb i j))
apart i j f = not_T (eqb i j) (λ t. f (eqb→eq i j t))

module _ (S : List Constraint) (i j k : ℕ) (u v w : ℤ) (hu : pos 0 <ᶻ u) (hv : pos 0 ≤ᶻ v) (hw : pos 0 <ᶻ w) where
  abbrev l : List Weighted
  l = weighted i u ++ (weighted j v ++ weighted k w)

  -- any fact about the list, at the three shapes that it has
  shapes :
      (Q : List Weighted → Type 0) →
      ((a b c : ℕ) → Q (weighted i (pos (suc a)) ++ (weighted j (pos b) ++ weighted k (pos (suc c))))) →
      Q l
  shapes Q f =
      pos-elim (λ u. Q (weighted i u ++ (weighted j v ++ weighted k w)))
      (λ a. nn-elim (λ v. Q (weighted i (pos (suc a)) ++ (weighted j v ++ weighted k w)))
      (λ b. pos-elim (λ w. Q (weighted i (pos (suc a)) ++ (weighted j (pos b) ++ weighted k w))) (f a b) hw) hv) hu

  some-entries : T (ltb 0 (length l))
  some-entries = shapes (λ l. T (ltb 0 (length l))) go
    where
      go : (a b c : ℕ) → T (ltb 0 (length (weighted i (pos (suc a)) ++ (weighted j (pos b) ++ weighted k (pos (suc c))))))
      go a zero c = tt
      go a (suc b) c = tt

  few-entries : T (leb (length l) 3)
  few-entries = shapes (λ l. T (leb (length l) 3)) go
    where
      go : (a b c : ℕ) → T (leb (length (weighted i (pos (suc a)) ++ (weighted j (pos b) ++ weighted k (pos (suc c))))) 3)
      go a zero c = tt
      go a (suc b) c = tt

  entries-differ : (i ≡ j → ⊥) → (i ≡ k → ⊥) → (j ≡ k → ⊥) → T (distinct l)
  entries-differ ij ik jk = shapes (λ l. T (distinct l)) go
    where
      go : (a b c : ℕ) → T (distinct (weighted i (pos (suc a)) ++ (weighted j (pos b) ++ weighted k (pos (suc c)))))
      go a zero c =
          and_both (every (λ x. not (eqb i x.entry)) (weighted k (pos (suc c)))) (distinct (weighted k (pos (suc c))))
          (every_of (λ x. not (eqb i x.entry)) (weighted k (pos (suc c)))
          (for-members (λ x. T (not (eqb i x.entry))) (record { entry = k; weight = pos (suc c) }) [] (apart i k ik)
          (λ x m. absurd (Memᴰ.not-nil m)))) tt
      go a (suc b) c =
          and_both (every (λ x. not (eqb i x.entry)) (weighted j (pos (suc b)) ++ weighted k (pos (suc c))))
          (distinct (weighted j (pos (suc b)) ++ weighted k (pos (suc c))))
          (every_of (λ x. not (eqb i x.entry)) (weighted j (pos (suc b)) ++ weighted k (pos (suc c)))
          (for-members (λ x. T (not (eqb i x.entry))) (record { entry = j; weight = pos (suc b) }) (weighted k (pos (suc c)))
          (apart i j ij) (for-members (λ x. T (not (eqb i x.entry))) (record { entry = k; weight = pos (suc c) }) [] (apart i k ik)
          (λ x m. absurd (Memᴰ.not-nil m)))))
          (and_both (every (λ x. not (eqb j x.entry)) (weighted k (pos (suc c)))) (distinct (weighted k (pos (suc c))))
          (every_of (λ x. not (eqb j x.entry)) (weighted k (pos (suc c)))
          (for-members (λ x. T (not (eqb j x.entry))) (record { entry = k; weight = pos (suc c) }) [] (apart j k jk)
          (λ x m. absurd (Memᴰ.not-nil m)))) tt)

  entries-sound : i < length S → j < length S → k < length S → (x : Weighted) → Memᴰ x l → Sound S x
  entries-sound hi hj hk x m =
      ⊎_elim (weighted-sound S i hi (pos_nn hu) x)
      (λ n. ⊎_elim (weighted-sound S j hj hv x) (weighted-sound S k hk (pos_nn hw) x) (Memᴰ.append_cases (weighted j v) n))
      (Memᴰ.append_cases (weighted i u) m)

  entries-total :
      (part : Constraint → ℤ) →
      total part S l ≡ u *ℤ part (get_or S i none) +ℤ (v *ℤ part (get_or S j none) +ℤ (w *ℤ part (get_or S k none) +ℤ pos 0))
  entries-total part =
      total-weighted part S i u (weighted j v ++ weighted k w)
      ∙ ap (λ z. u *ℤ part (get_or S i none) +ℤ z) (total-weighted part S j v (weighted k w)
      ∙ ap (λ z. v *ℤ part (get_or S j none) +ℤ z) (total-last part S k w))

  entries-sizes :
      u ≤ᶻ greatest_weight →
      v ≤ᶻ greatest_weight →
      w ≤ᶻ greatest_weight →
      (x : Weighted) →
      Memᴰ x l →
      T (le_z (pos 1) x.weight && le_z x.weight greatest_weight)
  entries-sizes bu bv bw x m =
      ⊎_elim (size i (pos_nn hu) bu) (λ n. ⊎_elim (size j hv bv) (size k (pos_nn hw) bw) (Memᴰ.append_cases (weighted j v) n))
      (Memᴰ.append_cases (weighted i u) m)
    where
      size :
          (e : ℕ) {y : ℤ} →
          pos 0 ≤ᶻ y →
          y ≤ᶻ greatest_weight →
          Memᴰ x (weighted e y) →
          T (le_z (pos 1) x.weight && le_z x.weight greatest_weight)
      size e h =
          nn-elim (λ y. y ≤ᶻ greatest_weight → Memᴰ x (weighted e y) → T (le_z (pos 1) x.weight && le_z x.weight greatest_weight))
          go h
        where
          go :
              (n : ℕ) →
              pos n ≤ᶻ greatest_weight →
              Memᴰ x (weighted e (pos n)) →
              T (le_z (pos 1) x.weight && le_z x.weight greatest_weight)
          go zero b n = absurd (Memᴰ.not-nil n)
          go (suc a) b n =
              subst (λ y. T (le_z (pos 1) y.weight && le_z y.weight greatest_weight)) (sym (Memᴰ.eq_of_singleton n))
              (and_both (le_z (pos 1) (pos (suc a))) (le_z (pos (suc a)) greatest_weight) (one_le a).le b.le)

-- ---- bounds of weights

record SmallNormal (r : Constraint) : Type 0 where
  small-a : Within 32767 r.a
  small_b : Within 32767 r.b

normal : (r : Constraint) → SmallConstraint r → SmallNormal r
normal r h = record { small-a = h.a_small; small_b = h.b-small }

facing-normal : (side : Bool) (r : Constraint) → SmallNormal r → SmallNormal (facing side r)
facing-normal true r h = h
facing-normal false r h = record { small-a = within_neg h.small-a; small_b = within_neg h.small_b }

det-bound : (r s : Constraint) → SmallNormal r → SmallNormal s → det r s ≤ᶻ greatest_weight
det-bound r s p q =
    within_le {n = 2147352578} {z = det r s}
    (within-sub {m = 1073676289} {n = 1073676289} {a = r.a *ℤ s.b} {b = s.a *ℤ r.b} (within-mul p.small-a q.small_b)
    (within-mul q.small-a p.small_b))

line-bound : (side : Bool) (k m : Constraint) → SmallNormal k → SmallNormal m → line_weight side k m ≤ᶻ greatest_weight
line-bound true k m p q = det-bound m k q p
line-bound false k m p q = det-bound k m p q

-- ---- the model's two certificates

module _ (S : List Constraint) (h : Constraint) where
  abbrev S' : List Constraint
  S' = S ++ (h ∷ [])

  new-entry : At S' (length S) h
  new-entry = at_new S h

  module _ (side : Bool) (j : ℕ) (k : Constraint) (i : ℕ) (m : Constraint) (at-k : At S j k) (at-m : At S i m) (v : Point)
      (proper : pos 0 <ᶻ v.d) (breaks : slack h v <ᶻ pos 0) (keeps-k : Keeps k v) (keeps-m : Keeps m v)
      (crosses : pos 0 <ᶻ det k (facing side h)) (away : pos 0 ≤ᶻ det (facing side h) m)
      (broken : slack m (meet k (facing side h)) <ᶻ pos 0) where
    abbrev weight : ℤ
    weight = line_weight side k m

    weight-positive : pos 0 <ᶻ weight
    weight-positive = line-weight-positive h k m v proper breaks keeps-k keeps-m side crosses away broken

    entry_of : (e : ℕ) (r : Constraint) → At S e r → get_or S' e none ≡ r
    entry_of e r a = at-get_or S' e r none (at_append S (h ∷ []) e r a)

    sum_of :
        (part : Constraint → ℤ) →
        total part S' (named (conflict side (length S) h j k i m))
        ≡ weight *ℤ part h +ℤ (det (facing side h) m *ℤ part k +ℤ (det k (facing side h) *ℤ part m +ℤ pos 0))
    sum_of part =
        entries-total S' (length S) j i weight (det (facing side h) m) (det k (facing side h)) weight-positive away crosses part
        ∙ (λ t. weight *ℤ part (at-get_or S' (length S) h none new-entry t)
        +ℤ (det (facing side h) m *ℤ part (entry_of j k at-k t) +ℤ (det k (facing side h) *ℤ part (entry_of i m at-m t) +ℤ pos 0)))

    below_new : (e : ℕ) (r : Constraint) → At S e r → length S ≡ e → ⊥
    below_new e r a q = omega (arith, at-below S e r a)

    different : j ≡ i → ⊥
    different q =
        clash_ℤ broken (nn_zero (subst (λ r. slack r (meet k (facing side h)) ≡ pos 0)
        (at-unique S i k m (subst (λ e. At S e k) q at-k) at-m) (meet-on-first k (facing side h))))

    refuted : Refutes S' (named (conflict side (length S) h j k i m))
    refuted =
        record {
          sound =
              entries-sound S' (length S) j i weight (det (facing side h) m) (det k (facing side h)) weight-positive away crosses
              (at-below S' (length S) h new-entry) (at-below S' j k (at_append S (h ∷ []) j k at-k))
              (at-below S' i m (at_append S (h ∷ []) i m at-m));
          cancels_a = sum_of (λ r. r.a) ∙ weights-cancel-a side h k m;
          cancels_b = sum_of (λ r. r.b) ∙ weights-cancel-b side h k m;
          falls = subst (λ z. z <ᶻ pos 0) (sym (sum_of (λ r. r.c) ∙ weights-sum-c side h k m)) broken;
        }

    pub conflict-certified : Certified S' (conflict side (length S) h j k i m)
    conflict-certified =
        record {
          refutes = refuted;
          valid = valid;
          lean =
              conflict-lean (entry_in S') side (length S) h j k i m (at-get_or S' (length S) h none new-entry) (entry_of j k at-k)
              (entry_of i m at-m) crosses away weight-positive;
        }
      where
        valid : ((r : Constraint) → Memᴰ r S' → SmallConstraint r) → T (certifies S' (named (conflict side (length S) h j k i m)))
        valid lawful =
            certifies_of S' (named (conflict side (length S) h j k i m)) refuted
            (some-entries S' (length S) j i weight (det l m) (det k l) weight-positive away crosses)
            (few-entries S' (length S) j i weight (det l m) (det k l) weight-positive away crosses)
            (entries-differ S' (length S) j i weight (det l m) (det k l) weight-positive away crosses (below_new j k at-k)
            (below_new i m at-m) different)
            (entries-sizes S' (length S) j i weight (det l m) (det k l) weight-positive away crosses (line-bound side k m nk nm)
            (det-bound l m nl nm) (det-bound k l nk nl))
          where
            l : Constraint
            l = facing side h

            normal-at : (e : ℕ) (r : Constraint) → At S' e r → SmallNormal r
            normal-at e r a = normal r (lawful r (at-member S' e r a))

            nk : SmallNormal k
            nk = normal-at j k (at_append S (h ∷ []) j k at-k)

            nm : SmallNormal m
            nm = normal-at i m (at_append S (h ∷ []) i m at-m)

            nl : SmallNormal l
            nl = facing-normal side h (normal-at (length S) h new-entry)

  -- 0 ≤ c, with c below 0
  module _ (no-a : h.a ≡ pos 0) (no-b : h.b ≡ pos 0) (negative : h.c <ᶻ pos 0) where
    alone-sum : (part : Constraint → ℤ) → total part S' (named (alone (length S))) ≡ part h
    alone-sum part =
        +ℤ_idr (pos 1 *ℤ part (get_or S' (length S) none)) ∙ one-mul (part (get_or S' (length S) none))
        ∙ ap part (at-get_or S' (length S) h none new-entry)

    alone-refuted : Refutes S' (named (alone (length S)))
    alone-refuted =
        record {
          sound = weighted-sound S' (length S) (at-below S' (length S) h new-entry) (nn_nat 1);
          cancels_a = alone-sum (λ r. r.a) ∙ no-a;
          cancels_b = alone-sum (λ r. r.b) ∙ no-b;
          falls = subst (λ z. z <ᶻ pos 0) (sym (alone-sum (λ r. r.c))) negative;
        }

    pub alone-certified : Certified S' (alone (length S))
    alone-certified =
        record {
          refutes = alone-refuted;
          valid =
              λ lawful. certifies_of S' (named (alone (length S))) alone-refuted tt tt tt
              (for-members (λ w. T (le_z (pos 1) w.weight && le_z w.weight greatest_weight))
              (record { entry = length S; weight = pos 1 }) [] tt (λ w i. absurd (Memᴰ.not-nil i)));
          lean = alone-lean (entry_in S') (length S);
        }
