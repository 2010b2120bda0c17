-- A witness's entries are in the printed order: no entry goes before the one ahead of it, so used entries come first and their codes
-- rise. Where no two used entries have one code, they rise strictly: none is named twice.
use mathlib.Core.Path.{◌≡◌, refl, sym, subst}
use mathlib.Core.Bool.{Bool, true, false, not, ◌&&◌, ◌||◌}
use Prim.Native.Nat.{ℕ, ◌≤◌, ◌<◌}
use native.Mathlib.Omega.{arith}
use lib.Dec.{T, ltb, ltb→lt, nltb→le, not_T}
use lib.IntN.{ℤ}
use Rattle.lp.specs.declared.Certificate.{Certificate}
use Rattle.lp.specs.Certificate.{certificate, is_zero}
use Rattle.witness.specs.Witness.{goes_before, order_first, order_last, rising}

-- the second entry does not go before the first, nor the third before the second
pub record InOrder (k : Certificate) : Type 0 where
  pub first_two : T (not (goes_before k.second k.second_weight k.first k.first_weight))
  pub last-two : T (not (goes_before k.third k.third_weight k.second k.second_weight))

-- ---- going before is an order: of one entry at most the other, by whether they are unused and by code

abbrev before : Bool → ℕ → Bool → ℕ → Bool
before z e z' e' = not z && (z' || ltb e e')

not-both : (z : Bool) (e : ℕ) (z' : Bool) (e' : ℕ) → T (before z e z' e') → T (not (before z' e' z e))
not-both true e z' e' t = absurd t
not-both false e true e' t = tt
not-both false e false e' t = not_T (ltb e' e) (λ u. omega (arith, ltb→lt e e' t, ltb→lt e' e u))

through : (za : Bool) (ea : ℕ) (zb : Bool) (eb : ℕ) (zc : Bool) (ec : ℕ) →
    T (not (before zb eb za ea)) →
    T (not (before zc ec zb eb)) →
    T (not (before zc ec za ea))
through za ea zb eb true ec p q = tt
through za ea true eb false ec p q = absurd q
through true ea false eb false ec p q = absurd p
through false ea false eb false ec p q = not_T (ltb ec ea) (λ u. omega (arith, nltb→le eb ea p, nltb→le ec eb q, ltb→lt ec ea u))

-- ---- the three exchanges

abbrev one-two : Certificate → Type 0
one-two k = T (not (goes_before k.second k.second_weight k.first k.first_weight))

abbrev two-three : Certificate → Type 0
two-three k = T (not (goes_before k.third k.third_weight k.second k.second_weight))

abbrev one-three : Certificate → Type 0
one-three k = T (not (goes_before k.third k.third_weight k.first k.first_weight))

first_in_order : (k : Certificate) → one-two (order_first k)
first_in_order k = go (goes_before k.second k.second_weight k.first k.first_weight) refl
  where
    go : (b : Bool) →
        goes_before k.second k.second_weight k.first k.first_weight ≡ b →
        one-two
        (elim b [
          | true ↦ record {
            first = k.second;
            first_weight = k.second_weight;
            second = k.first;
            second_weight = k.first_weight;
            third = k.third;
            third_weight = k.third_weight;
          }
          | false ↦ k
        ])
    go true e =
        not-both (is_zero k.second_weight) k.second (is_zero k.first_weight) k.first (subst T (sym e) tt)
    go false e = subst (λ b. T (not b)) (sym e) tt

-- the greatest of the three comes last
greatest-last : (k : Certificate) → one-two k → two-three (order_last k) × one-three (order_last k)
greatest-last k h = go (goes_before k.third k.third_weight k.second k.second_weight) refl
  where
    go : (b : Bool) →
        goes_before k.third k.third_weight k.second k.second_weight ≡ b →
        two-three
        (elim b [
          | true ↦ record {
            first = k.first;
            first_weight = k.first_weight;
            second = k.third;
            second_weight = k.third_weight;
            third = k.second;
            third_weight = k.second_weight;
          }
          | false ↦ k
        ])
        × one-three
        (elim b [
          | true ↦ record {
            first = k.first;
            first_weight = k.first_weight;
            second = k.third;
            second_weight = k.third_weight;
            third = k.second;
            third_weight = k.second_weight;
          }
          | false ↦ k
        ])
    go true e =
        (not-both (is_zero k.third_weight) k.third (is_zero k.second_weight) k.second (subst T (sym e) tt), h)
    go false e = (
      subst (λ b. T (not b)) (sym e) tt,
      through (is_zero k.first_weight) k.first (is_zero k.second_weight) k.second (is_zero k.third_weight) k.third h
          (subst (λ b. T (not b)) (sym e) tt),
    )

-- and stays last when the first two are put in order
last-stays : (k : Certificate) → two-three k → one-three k → two-three (order_first k)
last-stays k p q = go (goes_before k.second k.second_weight k.first k.first_weight)
  where
    go : (b : Bool) →
        two-three
        (elim b [
          | true ↦ record {
            first = k.second;
            first_weight = k.second_weight;
            second = k.first;
            second_weight = k.first_weight;
            third = k.third;
            third_weight = k.third_weight;
          }
          | false ↦ k
        ])
    go true = q
    go false = p

pub rising_in_order : (k : Certificate) → InOrder (rising k)
rising_in_order k =
    record {
      first_two = first_in_order (order_last (order_first k));
      last-two =
          last-stays (order_last (order_first k)) (greatest-last (order_first k) (first_in_order k)).0
          (greatest-last (order_first k) (first_in_order k)).1;
    }

-- ---- what neither exchange changes, putting in order does not

abbrev pub first_exchanged : Certificate → Certificate
first_exchanged k = certificate k.second k.second_weight k.first k.first_weight k.third k.third_weight

abbrev pub last_exchanged : Certificate → Certificate
last_exchanged k = certificate k.first k.first_weight k.third k.third_weight k.second k.second_weight

module _ (Q : Certificate → Type 0) (first : (k : Certificate) → Q k → Q (first_exchanged k))
    (last : (k : Certificate) → Q k → Q (last_exchanged k)) where
  first-keeps : (k : Certificate) → Q k → Q (order_first k)
  first-keeps k h = go (goes_before k.second k.second_weight k.first k.first_weight)
    where
      go : (b : Bool) → Q (elim b [ true ↦ first_exchanged k | false ↦ k ])
      go true = first k h
      go false = h

  last-keeps : (k : Certificate) → Q k → Q (order_last k)
  last-keeps k h = go (goes_before k.third k.third_weight k.second k.second_weight)
    where
      go : (b : Bool) → Q (elim b [ true ↦ last_exchanged k | false ↦ k ])
      go true = last k h
      go false = h

  pub rising-keeps : (k : Certificate) → Q k → Q (rising k)
  rising-keeps k h = first-keeps (order_last (order_first k)) (last-keeps (order_first k) (first-keeps k h))

-- ---- no entry twice

-- an entry is named where its weight is not zero
abbrev pub Used : ℤ → Type 0
Used w = T (not (is_zero w))

-- one to three entries are named, those in use first, and their codes rise strictly: so none is named twice
pub record NoneTwice (k : Certificate) : Type 0 where
  pub first-used : Used k.first_weight
  pub second_above : Used k.second_weight → k.first < k.second
  pub third-above : Used k.third_weight → Used k.second_weight × (k.second < k.third)

-- some entry is in use, and no two in use have the same code, in whatever order they stand
pub record Apart (k : Certificate) : Type 0 where
  pub some : T (is_zero k.first_weight) → T (is_zero k.second_weight) → T (is_zero k.third_weight) → ⊥
  pub first-second : Used k.first_weight → Used k.second_weight → k.first ≡ k.second → ⊥
  pub first-third : Used k.first_weight → Used k.third_weight → k.first ≡ k.third → ⊥
  pub second-third : Used k.second_weight → Used k.third_weight → k.second ≡ k.third → ⊥

first-apart : (k : Certificate) → Apart k → Apart (first_exchanged k)
first-apart k h =
    record {
      some = λ a b c. h.some b a c;
      first-second = λ u v q. h.first-second v u (sym q);
      first-third = h.second-third;
      second-third = h.first-third;
    }

last_apart : (k : Certificate) → Apart k → Apart (last_exchanged k)
last_apart k h =
    record {
      some = λ a b c. h.some a c b;
      first-second = h.first-third;
      first-third = h.first-second;
      second-third = λ u v q. h.second-third v u (sym q);
    }

-- an entry in use has one in use ahead of it, whose code is no greater
ahead : (z : Bool) (e : ℕ) (z' : Bool) (e' : ℕ) → T (not (before z' e' z e)) → T (not z') → T (not z) × (e ≤ e')
ahead z e true e' t u = absurd u
ahead true e false e' t u = absurd t
ahead false e false e' t u = (tt, nltb→le e' e t)

-- and where some are in use the first is
in_use : (za : Bool) (ea : ℕ) (zb : Bool) (eb : ℕ) (zc : Bool) (ec : ℕ) →
    T (not (before zb eb za ea)) →
    T (not (before zc ec zb eb)) →
    (T za → T zb → T zc → ⊥) →
    T (not za)
in_use false ea zb eb zc ec p q h = tt
in_use true ea true eb true ec p q h = absurd (h tt tt tt)
in_use true ea true eb false ec p q h = absurd q
in_use true ea false eb zc ec p q h = absurd p

below : (m n : ℕ) → m ≤ n → (m ≡ n → ⊥) → m < n
below m n h d = omega arith

none-twice : (k : Certificate) → InOrder k → Apart k → NoneTwice k
none-twice k r h =
    record {
      first-used =
          in_use (is_zero k.first_weight) k.first (is_zero k.second_weight) k.second (is_zero k.third_weight) k.third
          r.first_two r.last-two h.some;
      second_above = λ u. below k.first k.second (one u).1 (h.first-second (one u).0 u);
      third-above = λ u. ((two u).0, below k.second k.third (two u).1 (h.second-third (two u).0 u));
    }
  where
    one : Used k.second_weight → Used k.first_weight × (k.first ≤ k.second)
    one u = ahead (is_zero k.first_weight) k.first (is_zero k.second_weight) k.second r.first_two u

    two : Used k.third_weight → Used k.second_weight × (k.second ≤ k.third)
    two u = ahead (is_zero k.second_weight) k.second (is_zero k.third_weight) k.third r.last-two u

pub rising-none-twice : (k : Certificate) → Apart k → NoneTwice (rising k)
rising-none-twice k h =
    none-twice (rising k) (rising_in_order k) (rising-keeps Apart first-apart last_apart k h)
