-- The computed tests decide document 01's causes: a test is true exactly where its cause applies.
use Prim.Native.Nat.{ℕ, suc, ◌-◌, ◌*◌, ◌/◌, ◌%◌, ◌<◌}
use mathlib.Core.Path.{◌≡◌, refl, sym, ap, subst⁻¹}
use mathlib.Core.Bool.{Bool, true, false, not, ◌||◌, ◌&&◌}
use mathlib.Core.List.{List}
use mathlib.Core.Logic.{◌⊎◌, inl, inr, ⊎_elim}
use native.Mathlib.Decide.{ℕ_discrete}
use native.Mathlib.Omega.{arith}
use borrow.Author.Tests.{lt-ltb, ltb-true, ltb-false, eq-eqb, eqb-true}
use lib.ListN.{length}
use lib.Dec.{eqb, ltb, T}
use lib.IntN.{ℤ, pos, negsuc}
use lib.Signed.{lt_z, ◌<ℤ◌}
use mir.Syntax.{w16}
use mir.Val.{to_z, sel}
use Rattle.records.specs.Layout.{Layout, width}
use Rattle.records.specs.Record.{record_at, kind_of, pad_of, a_of, b_of, c_of, rule_of, is_least, bad_kind, bad_slope, bad_bound}
use Rattle.records.specs.Header.{objective_of, count_of, bad_length, bad_version, bad_count, bad_objective, bad_tail}
use Rattle.book.specs.Causes.{WrongLength, WrongVersion, WrongCount, WrongObjective, WrongTail, WrongKind, WrongSlope, WrongBound, short, long, uneven, other, differs, p-least, q-least, set, neither, a-least, b-least, low, high}

pub record Decides (b : Bool) (P : Type 0) : Type 0 where
  pub holds : b ≡ true → P
  pub tests : P → b ≡ true

true-false : {b : Bool} {X : Type 0} → b ≡ true → b ≡ false → X
true-false p q = absurd (let n : ◌≡◌ {A = ℕ} 0 1 = cc in let z : ⊥ = omega arith in z)

pub refutes : {b : Bool} {P : Type 0} → Decides b P → b ≡ false → P → ⊥
refutes d e p = true-false (d.tests p) e

pub refuted : {b : Bool} {P : Type 0} → Decides b P → (P → ⊥) → b ≡ false
refuted {b} d h = go b refl
  where
    go : (c : Bool) → b ≡ c → b ≡ false
    go true e = absurd (h (d.holds e))
    go false e = e

-- ---- tests

or_of : (a b : Bool) {P Q : Type 0} → Decides a P → Decides b Q → Decides (a || b) (P ⊎ Q)
or_of true b da db = record { holds = λ e. inl (da.holds e); tests = λ h. refl }
or_of false b da db =
    record { holds = λ e. inr (db.holds e); tests = λ h. ⊎_elim (λ p. true-false (da.tests p) refl) db.tests h }

and_of : (a b : Bool) {P Q : Type 0} → Decides a P → Decides b Q → Decides (a && b) (P × Q)
and_of true b da db = record { holds = λ e. (da.holds refl, db.holds e); tests = λ h. db.tests h.1 }
and_of false b da db = record { holds = λ e. true-false e refl; tests = λ h. da.tests h.0 }

not_of : (b : Bool) {P : Type 0} → Decides b P → Decides (not b) (P → ⊥)
not_of true d = record { holds = λ e. true-false e refl; tests = λ h. absurd (h (d.holds refl)) }
not_of false d = record { holds = λ e. refutes d refl; tests = λ h. refl }

means : {b : Bool} {P Q : Type 0} → Decides b P → (P → Q) → (Q → P) → Decides b Q
means d f g = record { holds = λ e. f (d.holds e); tests = λ q. d.tests (g q) }

same : (m n : ℕ) → Decides (eqb m n) (m ≡ n)
same m n = record { holds = eqb-true m n; tests = eq-eqb m n }

below : (m n : ℕ) → Decides (ltb m n) (m < n)
below m n = record { holds = ltb-true m n; tests = lt-ltb m n }

differ : (m n : ℕ) → Decides (not (eqb m n)) (m ≡ n → ⊥)
differ m n = not_of (eqb m n) (same m n)

unset : (b : Bool) → Decides (not b) (b ≡ false)
unset true = record { holds = λ e. sym e; tests = λ h. sym h }
unset false = record { holds = λ e. refl; tests = λ h. refl }

less : (x y : ℤ) → Decides (lt_z x y) (x <ℤ y)
less x y = record { holds = λ e. record { lt = subst⁻¹ T e tt }; tests = λ l. true_of (lt_z x y) l.lt }
  where
    true_of : (b : Bool) → T b → b ≡ true
    true_of true t = refl
    true_of false t = absurd t

-- sixteen bits are below −32,767 at −32,768 alone
least-is : (n : ℕ) → Decides (is_least (to_z w16 n)) (to_z w16 n ≡ negsuc 32767)
least-is n = record { holds = λ e. go (ltb n 32768) refl e; tests = λ e. ap is_least e }
  where
    go : (b : Bool) → ltb n 32768 ≡ b → is_least (sel b (pos n) (negsuc (65536 - suc n))) ≡ true → to_z w16 n ≡ negsuc 32767
    go true h e = true-false e refl
    go false h e = rw h (ap negsuc (omega (arith, ltb-true 32766 (65536 - suc n) e, ltb-false n 32768 h)))

-- ---- each cause

module _ (L : Layout) (s : List ℕ) where
  pub length-test : Decides (bad_length L s) (WrongLength L s)
  length-test =
      means
      (or_of (ltb (length s) (width L) || ltb (width L * L.records) (length s)) (not (eqb (length s % width L) 0))
      (or_of (ltb (length s) (width L)) (ltb (width L * L.records) (length s))
      (below (length s) (width L))
      (below (width L * L.records) (length s)))
      (differ (length s % width L) 0))
      (⊎_elim (⊎_elim short long) uneven)
      from
    where
      from : WrongLength L s → ((length s < width L) ⊎ (width L * L.records < length s)) ⊎ (length s % width L ≡ 0 → ⊥)
      from (short h) = inl (inl h)
      from (long h) = inl (inr h)
      from (uneven h) = inr h

  pub version-test : Decides (bad_version L s) (WrongVersion L s)
  version-test =
      means
      (or_of (not (eqb (kind_of L (record_at L s 0)) L.version)) (not (eqb (pad_of L (record_at L s 0)) 0))
      (differ (kind_of L (record_at L s 0)) L.version)
      (differ (pad_of L (record_at L s 0)) 0))
      (⊎_elim other WrongVersion.padding)
      from
    where
      from : WrongVersion L s → (kind_of L (record_at L s 0) ≡ L.version → ⊥) ⊎ (pad_of L (record_at L s 0) ≡ 0 → ⊥)
      from (other h) = inl h
      from (WrongVersion.padding h) = inr h

  pub count-test : Decides (bad_count L s) (WrongCount L s)
  count-test = means (differ (count_of L s) (length s / width L - 1)) differs from
    where
      from : WrongCount L s → count_of L s ≡ length s / width L - 1 → ⊥
      from (differs h) = h

  pub objective-test : Decides (bad_objective L s) (WrongObjective L s)
  objective-test =
      means
      (or_of (is_least (objective_of L s).p) (is_least (objective_of L s).q)
      (least-is (a_of L (record_at L s 0)))
      (least-is (b_of L (record_at L s 0))))
      (⊎_elim p-least q-least)
      from
    where
      from : WrongObjective L s → ((objective_of L s).p ≡ negsuc 32767) ⊎ ((objective_of L s).q ≡ negsuc 32767)
      from (p-least h) = inl h
      from (q-least h) = inr h

  pub tail-test : Decides (bad_tail L s) (WrongTail L s)
  tail-test =
      means
      (and_of (not L.floors) (not (eqb (c_of L (record_at L s 0)) 0))
      (unset L.floors)
      (differ (c_of L (record_at L s 0)) 0))
      (λ h. set h.0 h.1)
      from
    where
      from : WrongTail L s → (L.floors ≡ false) × (c_of L (record_at L s 0) ≡ 0 → ⊥)
      from (set f h) = (f, h)

module _ (L : Layout) (r : List ℕ) where
  pub kind-test : Decides (bad_kind (eqb (pad_of L r) 0) (rule_of L r)) (WrongKind L r)
  kind-test =
      means
      (not_of ((eqb (kind_of L r) 1 || eqb (kind_of L r) 2) && eqb (pad_of L r) 0)
      (and_of (eqb (kind_of L r) 1 || eqb (kind_of L r) 2) (eqb (pad_of L r) 0)
      (or_of (eqb (kind_of L r) 1) (eqb (kind_of L r) 2) (same (kind_of L r) 1) (same (kind_of L r) 2))
      (same (pad_of L r) 0)))
      (to (ℕ_discrete (pad_of L r) 0))
      from
    where
      to : Dec (pad_of L r ≡ 0) → (((kind_of L r ≡ 1) ⊎ (kind_of L r ≡ 2)) × (pad_of L r ≡ 0) → ⊥) → WrongKind L r
      to (yes p) h = neither (λ e. h (inl e, p)) (λ e. h (inr e, p))
      to (no n) h = WrongKind.padding n

      from : WrongKind L r → ((kind_of L r ≡ 1) ⊎ (kind_of L r ≡ 2)) × (pad_of L r ≡ 0) → ⊥
      from (neither a b) h = ⊎_elim a b h.0
      from (WrongKind.padding n) h = n h.1

  pub slope-test : Decides (bad_slope (rule_of L r)) (WrongSlope L r)
  slope-test =
      means
      (or_of (is_least (rule_of L r).a) (is_least (rule_of L r).b) (least-is (a_of L r)) (least-is (b_of L r)))
      (⊎_elim a-least b-least)
      from
    where
      from : WrongSlope L r → ((rule_of L r).a ≡ negsuc 32767) ⊎ ((rule_of L r).b ≡ negsuc 32767)
      from (a-least h) = inl h
      from (b-least h) = inr h

  pub bound-test : Decides (bad_bound (rule_of L r)) (WrongBound L r)
  bound-test =
      means
      (or_of (lt_z (rule_of L r).c (negsuc 999999999)) (lt_z (pos 1000000000) (rule_of L r).c)
      (less (rule_of L r).c (negsuc 999999999))
      (less (pos 1000000000) (rule_of L r).c))
      (⊎_elim low high)
      from
    where
      from : WrongBound L r → ((rule_of L r).c <ℤ negsuc 999999999) ⊎ (pos 1000000000 <ℤ (rule_of L r).c)
      from (low h) = inl h
      from (high h) = inr h
