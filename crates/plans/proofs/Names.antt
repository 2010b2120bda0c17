-- The codes of a valid certificate's entries: each rule has a name of its own, from 1 up, so entries apart by index are apart by code.
use mathlib.Core.Path.{◌≡◌, refl, sym, ◌∙◌, ap, subst}
use mathlib.Core.List.{List, ◌++◌, Memᴰ}
use mathlib.Core.Bool.{Bool, true, false, not, ◌&&◌}
use Prim.Native.Nat.{ℕ, zero, suc, ◌+◌, ◌≤◌, ◌<◌}
use native.Mathlib.Omega.{arith}
use native.Mathlib.Decide.{dec_lt}
use borrow.Author.Tests.{eq-eqb}
use lib.Dec.{T, eqb, leb, ltb, ltb→lt}
use lib.ListN.{length, take, get_or, length-append, length-take}
use lib.IntN.{ℤ, pos, negsuc}
use lib.Signed.{le_z, lt_z}
use Rattle.lp.specs.declared.Constraint.{Constraint}
use Rattle.lp.specs.declared.Certificate.{Certificate}
use Rattle.lp.specs.Program.{system}
use Rattle.lp.specs.Outcome.{every}
use Rattle.lp.specs.Certificate.{Weighted, weighted, named, total, distinct, greatest_weight, is_zero, certifies}
use Rattle.theory.proofs.Lists.{and_left, and_right, every-at}
use Rattle.theory.proofs.Farkas.{is-zero, certificate-refutes}
use Rattle.witness.specs.Witness.{code_at, code_of, coded}
use Rattle.lp.specs.declared.Floors.{Floors}
use Rattle.plans.specs.Planning.{Named}
use Rattle.plans.proofs.Ordered.{Used, Apart}

-- ---- the entries that a certificate names

abbrev pub entry : ℕ → ℤ → Weighted
entry e w = record { entry = e; weight = w }

named_here : (e : ℕ) (w : ℤ) (l : List Weighted) → Used w → Memᴰ (entry e w) (weighted e w ++ l)
named_here e (pos zero) l u = absurd u
named_here e (pos (suc n)) l u = Memᴰ.head refl
named_here e (negsuc n) l u = Memᴰ.head refl

named-last : (e : ℕ) (w : ℤ) → Used w → Memᴰ (entry e w) (weighted e w)
named-last e (pos zero) u = absurd u
named-last e (pos (suc n)) u = Memᴰ.head refl
named-last e (negsuc n) u = Memᴰ.head refl

named-later : (x : Weighted) (e : ℕ) (w : ℤ) (l : List Weighted) → Memᴰ x l → Memᴰ x (weighted e w ++ l)
named-later x e (pos zero) l i = i
named-later x e (pos (suc n)) l i = Memᴰ.tail i
named-later x e (negsuc n) l i = Memᴰ.tail i

-- something of each place of a certificate that is in use
pub record Slots (P : ℕ → ℤ → Type 0) (k : Certificate) : Type 0 where
  pub first : Used k.first_weight → P k.first k.first_weight
  pub second : Used k.second_weight → P k.second k.second_weight
  pub third : Used k.third_weight → P k.third k.third_weight

-- all but the first of what a certificate names
abbrev later : Certificate → List Weighted
later k = weighted k.second k.second_weight ++ weighted k.third k.third_weight

second_in : (k : Certificate) → Used k.second_weight → Memᴰ (entry k.second k.second_weight) (later k)
second_in k u = named_here k.second k.second_weight (weighted k.third k.third_weight) u

third_in : (k : Certificate) → Used k.third_weight → Memᴰ (entry k.third k.third_weight) (later k)
third_in k u =
    named-later (entry k.third k.third_weight) k.second k.second_weight (weighted k.third k.third_weight)
    (named-last k.third k.third_weight u)

-- each place in use is named
pub slots-named : (k : Certificate) → Slots (λ e w. Memᴰ (entry e w) (named k)) k
slots-named k =
    record {
      first = λ u. named_here k.first k.first_weight (later k) u;
      second = λ u. named-later (entry k.second k.second_weight) k.first k.first_weight (later k) (second_in k u);
      third = λ u. named-later (entry k.third k.third_weight) k.first k.first_weight (later k) (third_in k u);
    }

-- one in use is apart from all that are named after it, and those from each other
others : (e : ℕ) (w : ℤ) (l : List Weighted) → Used w → T (distinct (weighted e w ++ l)) → T (every (λ u. not (eqb e u.entry)) l)
others e (pos zero) l u t = absurd u
others e (pos (suc n)) l u t = and_left (every (λ u. not (eqb e u.entry)) l) (distinct l) t
others e (negsuc n) l u t = and_left (every (λ u. not (eqb e u.entry)) l) (distinct l) t

rest : (e : ℕ) (w : ℤ) (l : List Weighted) → T (distinct (weighted e w ++ l)) → T (distinct l)
rest e (pos zero) l t = t
rest e (pos (suc n)) l t = and_right (every (λ u. not (eqb e u.entry)) l) (distinct l) t
rest e (negsuc n) l t = and_right (every (λ u. not (eqb e u.entry)) l) (distinct l) t

unequal : (i j : ℕ) → T (not (eqb i j)) → i ≡ j → ⊥
unequal i j t q = subst (λ b. T (not b)) (eq-eqb i j q) t

not_named : (e : ℕ) (w : ℤ) → T (is_zero w) → length (weighted e w) ≡ 0
not_named e w t = ap (λ z. length (weighted e z)) (is-zero w t)

-- how many are named: at least one where the first is in use, and never above three
at_most_one : (e : ℕ) (w : ℤ) → length (weighted e w) ≤ 1
at_most_one e (pos zero) = omega arith
at_most_one e (pos (suc n)) = omega arith
at_most_one e (negsuc n) = omega arith

just_one : (e : ℕ) (w : ℤ) → Used w → length (weighted e w) ≡ 1
just_one e (pos zero) u = absurd u
just_one e (pos (suc n)) u = refl
just_one e (negsuc n) u = refl

pub one-to-three : (k : Certificate) → Used k.first_weight → (1 ≤ length (named k)) × (length (named k) ≤ 3)
one-to-three k u =
    let a : List Weighted = weighted k.first k.first_weight in
    let b : List Weighted = weighted k.second k.second_weight in
    let c : List Weighted = weighted k.third k.third_weight in
    let one : length a ≡ 1 = just_one k.first k.first_weight u in (
      omega (arith, one, length-append a (b ++ c)),
      omega (
        arith,
        one,
        length-append a (b ++ c),
        length-append b c,
        at_most_one k.second k.second_weight,
        at_most_one k.third k.third_weight,
      ),
    )

-- ---- the parts of the test

first_three : (a b c d e f g h : Bool) → T (a && b && c && d && e && f && g && h) → T (a && b && c)
first_three a b c d e f g h t =
    and_left (a && b && c) d
    (and_left (a && b && c && d) e
    (and_left (a && b && c && d && e) f
    (and_left (a && b && c && d && e && f) g (and_left (a && b && c && d && e && f && g) h t))))

module _ (S : List Constraint) (l : List Weighted) (t : T (certifies S l)) where
  abbrev shaped : T (ltb 0 (length l) && leb (length l) 3 && distinct l)
  shaped =
      first_three (ltb 0 (length l)) (leb (length l) 3) (distinct l) (every (λ w. ltb w.entry (length S)) l)
      (every (λ w. le_z (pos 1) w.weight && le_z w.weight greatest_weight) l) (is_zero (total (λ r. r.a) S l))
      (is_zero (total (λ r. r.b) S l)) (lt_z (total (λ r. r.c) S l) (pos 0)) t

  some-named : 0 < length l
  some-named =
      ltb→lt 0 (length l)
      (and_left (ltb 0 (length l)) (leb (length l) 3) (and_left (ltb 0 (length l) && leb (length l) 3) (distinct l) shaped))

  all_apart : T (distinct l)
  all_apart = and_right (ltb 0 (length l) && leb (length l) 3) (distinct l) shaped

-- ---- codes

pub code-used : (records : List ℕ) (e : ℕ) (w : ℤ) → Used w → code_of records e w ≡ code_at records e
code-used records e w u = go (is_zero w) u
  where
    go : (b : Bool) → T (not b) → elim b [ true ↦ 0 | false ↦ code_at records e ] ≡ code_at records e
    go true u = absurd u
    go false u = refl

module _ (names : List ℕ) (rules : List Constraint) (n : Named names rules) where
  name-one : (i j : ℕ) → i < length names → j < length names → get_or names i 0 ≡ get_or names j 0 → i ≡ j
  name-one i j l m q = go (dec_lt i j) (dec_lt j i)
    where
      go : Dec (i < j) → Dec (j < i) → i ≡ j
      go (yes h) d = absurd (n.apart i j h m q)
      go (no h) (yes g) = absurd (n.apart j i g l (sym q))
      go (no h) (no g) = omega arith

  -- no two entries of the system have the same code
  pub code_one : (i j : ℕ) → i < length names + 2 → j < length names + 2 → code_at names i ≡ code_at names j → i ≡ j
  code_one zero zero l m q = refl
  code_one zero (suc zero) l m q = omega (arith, q)
  code_one zero (suc (suc j)) l m q = omega (arith, q)
  code_one (suc zero) zero l m q = omega (arith, q)
  code_one (suc zero) (suc zero) l m q = refl
  code_one (suc zero) (suc (suc j)) l m q = omega (arith, q, n.from_one j (omega (arith, m)))
  code_one (suc (suc i)) zero l m q = omega (arith, q)
  code_one (suc (suc i)) (suc zero) l m q = omega (arith, q, n.from_one i (omega (arith, l)))
  code_one (suc (suc i)) (suc (suc j)) l m q =
      ap (λ k. suc (suc k)) (name-one i j (omega (arith, l)) (omega (arith, m)) (omega (arith, q)))

  module _ (floors : Floors) (k : ℕ) (c : Certificate) (valid : T (certifies (system floors (take k rules)) (named c))) where
    abbrev S : List Constraint
    S = system floors (take k rules)

    -- a named entry is one of the system
    inside : (i : ℕ) (w : ℤ) → Memᴰ (entry i w) (named c) → i < length names + 2
    inside i w m =
        omega (arith, ((certificate-refutes S (named c) valid).sound (entry i w) m).entered, length-take k rules, n.count)

    two_codes : (i j : ℕ) (v w : ℤ) →
        Memᴰ (entry i v) (named c) →
        Memᴰ (entry j w) (named c) →
        Used v →
        Used w →
        (i ≡ j → ⊥) →
        code_of names i v ≡ code_of names j w →
        ⊥
    two_codes i j v w m l u u' d q =
        d (code_one i j (inside i v m) (inside j w l) (sym (code-used names i v u) ∙ q ∙ code-used names j w u'))

    -- the first is apart from the others
    first-from : Used c.first_weight → (i : ℕ) (w : ℤ) → Memᴰ (entry i w) (later c) → c.first ≡ i → ⊥
    first-from u i w m =
        unequal c.first i
        (every-at (λ x. not (eqb c.first x.entry)) (later c) (others c.first c.first_weight (later c) u (all_apart S (named c) valid))
        (entry i w) m)

    second_from : Used c.second_weight → Used c.third_weight → c.second ≡ c.third → ⊥
    second_from u v =
        unequal c.second c.third
        (every-at (λ x. not (eqb c.second x.entry)) (weighted c.third c.third_weight)
        (others c.second c.second_weight (weighted c.third c.third_weight) u
        (rest c.first c.first_weight (later c) (all_apart S (named c) valid)))
        (entry c.third c.third_weight) (named-last c.third c.third_weight v))

    -- a valid certificate names some entry, and no two by the same code
    pub coded-apart : Apart (coded names c)
    coded-apart =
        record {
          some =
              λ x y z. omega (
                arith,
                some-named S (named c) valid,
                length-append (weighted c.first c.first_weight) (later c),
                length-append (weighted c.second c.second_weight) (weighted c.third c.third_weight),
                not_named c.first c.first_weight x,
                not_named c.second c.second_weight y,
                not_named c.third c.third_weight z,
              );
          first-second =
              λ u v. two_codes c.first c.second c.first_weight c.second_weight ((slots-named c).first u)
              ((slots-named c).second v) u v (first-from u c.second c.second_weight (second_in c v));
          first-third =
              λ u v. two_codes c.first c.third c.first_weight c.third_weight ((slots-named c).first u)
              ((slots-named c).third v) u v (first-from u c.third c.third_weight (third_in c v));
          second-third =
              λ u v. two_codes c.second c.third c.second_weight c.third_weight ((slots-named c).second u)
              ((slots-named c).third v) u v (second_from u v);
        }
