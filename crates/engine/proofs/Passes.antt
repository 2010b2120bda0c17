-- The passes over the entries, from index i to n: what is left of a pass at i gives, with what was found so far, the answer of the whole.
-- One record says so for each loop, with its start, its step and its end.
use Rattle.std.specs.Prelude.{Option, None, Some}
use mathlib.Core.Path.{◌≡◌, refl, sym, ◌∙◌, ap, subst}
use mathlib.Core.List.{List, [], ◌∷◌}
use mathlib.Core.Bool.{Bool, true, false}
use Prim.Native.Nat.{ℕ, zero, suc, ◌+◌, ◌-◌, ◌≤◌, ◌<◌}
use native.Mathlib.Omega.{arith}
use native.Mathlib.Nat.{sub-zero}
use native.Mathlib.Numerals.{add-one}
use lib.Dec.{T, ltb→lt}
use lib.IntN.{ℤ, pos, negsuc, neg_ℤ, ◌+ℤ◌, ◌-ℤ◌, ◌*ℤ◌}
use lib.Signed.{le_z, lt_z, lt_z_yes}
use Rattle.ints.specs.Order.{◌<ᶻ◌}
use Rattle.ints.proofs.Ring.{ring, ◌⊕◌, ◌⊖◌, ◌⊗◌, ⊝◌, ◌≐◌, con}
use Rattle.ints.proofs.Order.{pos-elim}
use Rattle.ints.proofs.Machine.{within_neg, within-numeral, weaken}
use Rattle.lp.specs.declared.Constraint.{Constraint}
use Rattle.lp.specs.declared.Point.{Point}
use Rattle.lp.specs.Outcome.{det, meet, keeps}
use Rattle.model.specs.declared.Met.{Met}
use Rattle.model.specs.Scan.{met, tighter, tightest, first_broken}
use Rattle.model.specs.Bounds.{SmallFound, SmallBroken, SmallPoint}
use Rattle.lp.specs.Range.{SmallConstraint, SmallSystem}
use Rattle.model.proofs.Bounds.{tighter-small, tightest-small, first_broken-small}
use Rattle.engine.specs.Entries.{entry, entries}
use Rattle.engine.specs.Held.{far, farthest, tightened, found_of}
use Rattle.amounts.proofs.Sizes.{kept-distance}
use Rattle.amounts.proofs.Tests.{is_true}
use Rattle.amounts.specs.Sizes.{Distance}
use Rattle.engine.specs.Sizes.{Entries, Room, SmallTriple, Along, Checking, Tightening}

pub found-parts :
    {f : Option Met} →
    SmallFound f →
    {found : Met} →
    f ≡ Some found →
    SmallConstraint found.entry × SmallPoint found.point
found-parts s e = subst SmallFound e s

-- ---- what a list of n entries gives at index k

pub entry-room : {l : List ℤ} {n : ℕ} → Entries l n → {k : ℕ} → k < n → Room l k
entry-room h {k} b = record { room = omega (arith, h.room) }

pub entries-part : {l : List ℤ} {n : ℕ} → Entries l n → (i k : ℕ) → i + k ≤ n → SmallSystem (entries l i k)
entries-part h i zero b = tt
entries-part h i (suc k) b = (h.small i (omega arith), entries-part h (suc i) k (omega arith))

pub entries-small : {l : List ℤ} {n : ℕ} → Entries l n → SmallSystem (entries l 0 n)
entries-small {l} {n} h = entries-part h 0 n (omega arith)

left_over : (n i : ℕ) → i < n → n - i ≡ suc (n - suc i)
left_over n i h = omega arith

pub entries-more :
    (l : List ℤ) (n i : ℕ) →
    i < n →
    entries l i (n - i) ≡ entry l i ∷ entries l (suc i) (n - suc i)
entries-more l n i h = ap (entries l i) (left_over n i h)

pub entries_none : (l : List ℤ) (n i : ℕ) → n ≤ i → entries l i (n - i) ≡ []
entries_none l n i h = ap (entries l i) (none n i h)
  where
    none : (n i : ℕ) → n ≤ i → n - i ≡ 0
    none n i h = omega arith

-- ---- the tightest point

-- whatever meets the line breaks the point at infinity
far-breaks : (m l : Constraint) → lt_z (pos 0) (det m l) ≡ true → keeps m (far l) ≡ false
far-breaks m l e =
    below (subst (λ z. z <ᶻ pos 0) (sym (at-far m.a m.b m.c l.a l.b))
    (pos_neg_lt {z = det m l} (lt_z_yes (subst T (sym e) tt))))
  where
    at-far : (a b c a' b' : ℤ) → c *ℤ pos 0 -ℤ (a *ℤ b' +ℤ b *ℤ neg_ℤ a') ≡ neg_ℤ (a *ℤ b' -ℤ a' *ℤ b)
    at-far = ring 5 (λ a b c a' b'. c ⊗ con (pos 0) ⊖ (a ⊗ b' ⊕ b ⊗ (⊝ a')) ≐ ⊝ (a ⊗ b' ⊖ a' ⊗ b)) refl

    pos_neg_lt : {z : ℤ} → pos 0 <ᶻ z → neg_ℤ z <ᶻ pos 0
    pos_neg_lt h = pos-elim (λ z. neg_ℤ z <ᶻ pos 0) (λ n. lt_z_yes tt) h

    below : {z : ℤ} → z <ᶻ pos 0 → le_z (pos 0) z ≡ false
    below {z = pos n} h = absurd (not-below (ltb→lt n 0 h.lt))
      where
        not-below : n < 0 → ⊥
        not-below k = omega arith
    below {z = negsuc n} h = refl

-- an entry that is not met along the line leaves what is held, whether the point keeps it or not
pub not-met : (l : Constraint) (i : ℕ) (m : Constraint) (t : Met) → lt_z (pos 0) (det m l) ≡ false → tightened l i m t ≡ t
not-met l i m t e = go (keeps m t.point)
  where
    go : (b : Bool) →
        elim b [ true ↦ t | false ↦ elim (lt_z (pos 0) (det m l)) [ true ↦ met i m (meet m l) | false ↦ t ] ] ≡ t
    go true = refl
    go false = rw e

-- what is held is what the model found, or the point at infinity where it found nothing
abbrev pub Holds : Constraint → Met → Option Met → Type 0
Holds l t None = t.point ≡ far l
Holds l t (Some found) = t ≡ found

holds-step :
    (l : Constraint) (i : ℕ) (m : Constraint) (t : Met) (f : Option Met) →
    Holds l t f →
    Holds l (tightened l i m t) (tighter l i m f)
holds-step l i m t None e = go (lt_z (pos 0) (det m l)) refl (keeps m t.point) refl
  where
    go :
        (s : Bool) →
        lt_z (pos 0) (det m l) ≡ s →
        (u : Bool) →
        keeps m t.point ≡ u →
        Holds l (elim u [ true ↦ t | false ↦ elim s [ true ↦ met i m (meet m l) | false ↦ t ] ])
        (elim s [ true ↦ Some (met i m (meet m l)) | false ↦ None ])
    go true k true d = absurd (subst T (sym d ∙ ap (keeps m) e ∙ far-breaks m l k) tt)
    go true k false d = refl
    go false k true d = e
    go false k false d = e
holds-step l i m t (Some found) e = go (lt_z (pos 0) (det m l)) (keeps m t.point) (keeps m found.point) (ap (λ u. keeps m u.point) e)
  where
    go :
        (s u v : Bool) →
        u ≡ v →
        Holds l (elim u [ true ↦ t | false ↦ elim s [ true ↦ met i m (meet m l) | false ↦ t ] ])
        (elim s [ true ↦ elim v [ true ↦ Some found | false ↦ Some (met i m (meet m l)) ] | false ↦ Some found ])
    go true true true d = e
    go true true false d = absurd (subst T d tt)
    go true false true d = absurd (subst T (sym d) tt)
    go true false false d = refl
    go false true v d = e
    go false false v d = e

holds-found : (l : Constraint) (t : Met) (f : Option Met) → Holds l t f → SmallFound f → found_of t ≡ f
holds-found l t None e s =
    ap (λ (p : Point). elim (lt_z (pos 0) p.d) [ true ↦ Some t | false ↦ None ]) e
holds-found l t (Some found) e s =
    ap found_of e ∙ ap (λ b. elim b [ true ↦ Some found | false ↦ None ]) (is_true (lt_z (pos 0) found.point.d) s.1.d-proper.lt)

holds-small : (l : Constraint) → SmallConstraint l → (t : Met) (f : Option Met) → Holds l t f → SmallFound f → SmallTriple t.point
holds-small l h t None e s =
    subst SmallTriple (sym e)
    (record { x-small = weaken tt h.b-small; y-small = weaken tt (within_neg h.a_small); d_small = within-numeral tt })
holds-small l h t (Some found) e s =
    subst SmallTriple (sym (ap (λ (t : Met). t.point) e))
    (record { x-small = s.1.x-small; y-small = s.1.y-small; d_small = s.1.d_small })

pub record Tightest (l : List ℤ) (n : ℕ) (line : Constraint) (t : Met) (i : ℕ) : Type 0 where
  pub inside : i ≤ n
  pub so_far : Option Met
  pub holds : Holds line t so_far
  pub small : SmallFound so_far
  pub rest : tightest line i (entries l i (n - i)) so_far ≡ tightest line 0 (entries l 0 n) None

module _ {l : List ℤ} {n : ℕ} {line : Constraint} (h : Along l n line) where
  pub tightest-start : {t : Met} → t ≡ farthest line → Tightest l n line t 0
  tightest-start e =
      record { inside = omega arith; so_far = None; holds = ap (λ (t : Met). t.point) e; small = tt; rest = rw sub-zero refl }

  module _ {t : Met} {i : ℕ} (s : Tightest l n line t i) where
    pub tightening : {m : Constraint} → i < n → m ≡ entry l i → Tightening line m t
    tightening {m} b e =
        record {
          line_small = h.line_small;
          m-small = subst SmallConstraint (sym e) (h.entries.small i b);
          point-small = holds-small
              line h.line_small t s.so_far s.holds s.small;
        }

    pub tightest-step :
        {m : Constraint} →
        i < n →
        m ≡ entry l i →
        {u : Met} →
        u ≡ tightened line i m t →
        Tightest l n line u (i + 1)
    tightest-step b e {u} eu =
        record {
          inside = omega arith;
          so_far = tighter line i (entry l i) s.so_far;
          holds =
              subst (λ (v : Met). Holds line v (tighter line i (entry l i) s.so_far)) (sym (eu ∙ ap (λ m. tightened line i m t) e))
              (holds-step line i (entry l i) t s.so_far s.holds);
          small = tighter-small h.line_small i (h.entries.small i b) s.so_far s.small;
          rest = rw add-one (sym (ap (λ S. tightest line i S s.so_far) (entries-more l n i b)) ∙ s.rest);
        }

    pub tightest-end : n ≤ i → {r : Option Met} → r ≡ found_of t → r ≡ tightest line 0 (entries l 0 n) None
    tightest-end b er =
        er
        ∙ holds-found line t s.so_far s.holds s.small
        ∙ sym (ap (λ S. tightest line i S s.so_far) (entries_none l n i b))
        ∙ s.rest

-- ---- the first entry that is broken

pub record Unbroken (l : List ℤ) (n : ℕ) (v : Point) (i : ℕ) : Type 0 where
  pub inside : i ≤ n
  pub rest : first_broken v i (entries l i (n - i)) ≡ first_broken v 0 (entries l 0 n)

pub unbroken_start : (l : List ℤ) (n : ℕ) (v : Point) → Unbroken l n v 0
unbroken_start l n v = record { inside = omega arith; rest = rw sub-zero refl }

module _ {l : List ℤ} {n : ℕ} {v : Point} (h : Checking l n v) {i : ℕ} (t : Unbroken l n v i) where
  pub checking : {m : Constraint} → i < n → m ≡ entry l i → Distance m.a v.x m.b v.y m.c v.d
  checking b e = kept-distance (subst SmallConstraint (sym e) (h.entries.small i b)) h.point

  at_entry :
      i < n →
      {s : Bool} →
      keeps (entry l i) v ≡ s →
      elim s [ true ↦ first_broken v (suc i) (entries l (suc i) (n - suc i)) | false ↦ Some (i, entry l i) ]
      ≡ first_broken v 0 (entries l 0 n)
  at_entry b {s} e =
      ap (λ s. elim s [ true ↦ first_broken v (suc i) (entries l (suc i) (n - suc i)) | false ↦ Some (i, entry l i) ]) (sym e)
      ∙ sym (ap (first_broken v i) (entries-more l n i b))
      ∙ t.rest

  pub unbroken_step : {m : Constraint} → i < n → m ≡ entry l i → keeps m v ≡ true → Unbroken l n v (i + 1)
  unbroken_step b e k = record { inside = omega arith; rest = rw add-one (at_entry b (ap (λ m. keeps m v) (sym e) ∙ k)) }

  pub unbroken_stop :
      {m : Constraint} →
      i < n →
      m ≡ entry l i →
      keeps m v ≡ false →
      Some (i, m) ≡ first_broken v 0 (entries l 0 n)
  unbroken_stop b e k = ap (λ m. Some (i, m)) e ∙ at_entry b (ap (λ m. keeps m v) (sym e) ∙ k)

  pub unbroken_end : n ≤ i → None ≡ first_broken v 0 (entries l 0 n)
  unbroken_end b = sym (ap (first_broken v i) (entries_none l n i b)) ∙ t.rest

-- ---- what the passes find is within the bounds

pub along-small :
    {l : List ℤ} {n : ℕ} {line : Constraint} →
    Along l n line →
    {f : Option Met} →
    f ≡ tightest line 0 (entries l 0 n) None →
    SmallFound f
along-small {l} {n} h e =
    subst SmallFound (sym e) (tightest-small h.line_small 0 (entries l 0 n) (entries-small h.entries) None tt)

pub broken-small :
    {l : List ℤ} {n : ℕ} →
    Entries l n →
    (v : Point) →
    {b : Option (ℕ × Constraint)} →
    b ≡ first_broken v 0 (entries l 0 n) →
    {i : ℕ} {m : Constraint} →
    b ≡ Some (i, m) →
    SmallConstraint m
broken-small {l} {n} h v e a = subst SmallBroken (sym e ∙ a) (first_broken-small v 0 (entries l 0 n) (entries-small h))
