-- A witness's entries: what each prints, and how many there are.
use mathlib.Core.Path.{◌≡◌, refl, ap, sym, ◌∙◌}
use mathlib.Core.Bool.{Bool, cond}
use mathlib.Core.List.{List, [], ◌∷◌, ◌++◌, append-nil, append_assoc}
use Prim.Native.Nat.{ℕ, zero, suc, ◌+◌, ◌-◌, ◌≤◌, ◌<◌}
use native.Mathlib.Omega.{arith}
use borrow.Author.Tests.{lt-ltb, le-ltb}
use lib.ListN.{length, length-append}
use lib.IntN.{ℤ, pos, negsuc}
use mir.Syntax.{w64}
use mir.Val.{SFits, to_z, of_z}
use mir.Facts.{to_z-of_z}
use Rattle.lp.specs.declared.Certificate.{Certificate}
use Rattle.lp.specs.Certificate.{Weighted, weighted, named}
use Rattle.text.specs.Text.{text}
use Rattle.text.specs.Number.{decimal, number, integer}
use Rattle.text.specs.declared.Line.{Line}
use Rattle.text.specs.Line.{Added}
use Rattle.text.proofs.Adding.{spelt}
use Rattle.report.specs.declared.Naming.{Naming}
use Rattle.report.specs.Line.{rule_of_two, rule, entry, entries, witness}
use Rattle.ints.proofs.Bits.{read}

-- ---- the test of a weight

is-zero : (z : ℤ) → SFits w64 z → of_z w64 z ≡ 0 → z ≡ pos 0
is-zero z f e = sym (to_z-of_z {w = w64} f) ∙ ap (to_z w64) e

pub none_named : (e : ℕ) (z : ℤ) → SFits w64 z → of_z w64 z ≡ 0 → weighted e z ≡ []
none_named e z f t = ap (weighted e) (is-zero z f t)

pub one-named : (e : ℕ) (z : ℤ) → (of_z w64 z ≡ 0 → ⊥) → weighted e z ≡ record { entry = e; weight = z } ∷ []
one-named e (pos zero) t = absurd (t refl)
one-named e (pos (suc n)) t = refl
one-named e (negsuc n) t = refl

-- ---- what a rule prints

pub site-rule : (name : ℕ) → name < 4096 → text " S" ++ decimal name ≡ rule_of_two name
unfolding rule_of_two
site-rule name h =
    sym (ap (λ (b : Bool). cond b (text " S" ++ decimal name) (text " T" ++ decimal (name - 4096))) (lt-ltb name 4096 h))

pub tenant-rule : (name : ℕ) → 4096 ≤ name → text " T" ++ decimal (name - 4096) ≡ rule_of_two name
unfolding rule_of_two
tenant-rule name h =
    sym (ap (λ (b : Bool). cond b (text " S" ++ decimal name) (text " T" ++ decimal (name - 4096))) (le-ltb name 4096 h))

-- ---- what an entry prints

-- the bytes of a floor, so that an error shows them
pub floor-x : (m : Naming) (e : ℕ) → e ≡ 0 → text " X" ≡ entry m e
unfolding entry
floor-x m e p = sym (ap (entry m) p)

pub floor-y : (m : Naming) (e : ℕ) → e ≡ 1 → text " Y" ≡ entry m e
unfolding entry
floor-y m e p = sym (ap (entry m) p)

pub entry-rule : (m : Naming) (e : ℕ) → (e ≡ 0 → ⊥) → (e ≡ 1 → ⊥) → rule m (e - 1) ≡ entry m e
unfolding entry
entry-rule m zero a b = absurd (a refl)
entry-rule m (suc zero) a b = absurd (b refl)
entry-rule m (suc (suc r)) a b = ap (rule m) (omega arith)

pub left_out : (m : Naming) (e : ℕ) (z : ℤ) → SFits w64 z → of_z w64 z ≡ 0 → [] ≡ entries m (weighted e z)
unfolding entries
left_out m e z f t = sym (ap (entries m) (none_named e z f t))

pub printed : (m : Naming) (e : ℕ) (z : ℤ) → (of_z w64 z ≡ 0 → ⊥) → entry m e ++ integer z ≡ entries m (weighted e z)
unfolding entries
printed m e z t = sym (ap (entries m) (one-named e z t) ∙ append-nil (entry m e ++ integer z))

entries_append : (m : Naming) (k l : List Weighted) → entries m (k ++ l) ≡ entries m k ++ entries m l
unfolding entries
entries_append m [] l = refl
entries_append m (w ∷ k) l =
    let printed : List ℕ = entry m w.entry ++ integer w.weight in
    ap (λ (r : List ℕ). printed ++ r) (entries_append m k l) ∙ sym (append_assoc printed (entries m k) (entries m l))

-- how many are named does not depend on their indexes
count_any : (e : ℕ) (z : ℤ) → length (weighted e z) ≡ length (weighted 0 z)
count_any e (pos zero) = refl
count_any e (pos (suc n)) = refl
count_any e (negsuc n) = refl

pub at_most_one : (z : ℤ) → length (weighted 0 z) ≤ 1
at_most_one (pos zero) = omega arith
at_most_one (pos (suc n)) = omega arith
at_most_one (negsuc n) = omega arith

counted-named : (k : Certificate) →
    length (named k)
    ≡ length (weighted 0 k.first_weight) + length (weighted 0 k.second_weight) + length (weighted 0 k.third_weight)
counted-named k =
    let a : List Weighted = weighted k.first k.first_weight in
    let b : List Weighted = weighted k.second k.second_weight in
    let d : List Weighted = weighted k.third k.third_weight in
    omega (
      arith,
      length-append a (b ++ d),
      length-append b d,
      count_any k.first k.first_weight,
      count_any k.second k.second_weight,
      count_any k.third k.third_weight,
    )

-- what a count of used weights says of a weight that was read back
used-is : (n : ℕ) (z : ℤ) →
    SFits w64 z →
    n ≡ length (weighted 0 (read z)) →
    n ≡ length (weighted 0 z)
used-is n z f e = e ∙ ap (λ (y : ℤ). length (weighted 0 y)) (to_z-of_z {w = w64} f)

pub counted : (k : Certificate) (m n o : ℕ) →
    SFits w64 k.first_weight →
    SFits w64 k.second_weight →
    SFits w64 k.third_weight →
    m ≡ length (weighted 0 (read k.first_weight)) →
    n ≡ length (weighted 0 (read k.second_weight)) →
    o ≡ length (weighted 0 (read k.third_weight)) →
    m + n + o ≡ length (named k)
counted k m n o f g h p q r =
    omega (
      arith,
      counted-named k,
      used-is m k.first_weight f p,
      used-is n k.second_weight g q,
      used-is o k.third_weight h r,
    )

pub whole-entry : {l n : Line} {i : ℕ} (m : Naming) (e : ℕ) (z : ℤ) →
    SFits w64 z →
    Added l (entries m (weighted e (read z))) i n →
    Added l (entries m (weighted e z)) i n
whole-entry m e z f = spelt (ap (λ (y : ℤ). entries m (weighted e y)) (to_z-of_z {w = w64} f))

pub witness-parts : (m : Naming) (k : Certificate) (n : ℕ) →
    n ≡ length (named k) →
    number n
    ++ (entries m (weighted k.first k.first_weight)
    ++ (entries m (weighted k.second k.second_weight) ++ entries m (weighted k.third k.third_weight)))
    ≡ witness m k
unfolding witness
witness-parts m k n e =
    let a : List Weighted = weighted k.first k.first_weight in
    let b : List Weighted = weighted k.second k.second_weight in
    let d : List Weighted = weighted k.third k.third_weight in
    ap (λ (n : ℕ). number n ++ (entries m a ++ (entries m b ++ entries m d))) e
    ∙ ap (λ (r : List ℕ). number (length (named k)) ++ (entries m a ++ r)) (sym (entries_append m b d))
    ∙ ap (λ (r : List ℕ). number (length (named k)) ++ r) (sym (entries_append m a (b ++ d)))
