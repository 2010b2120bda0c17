-- The tests of ranges and of room: each loop, and all of them together.
use mathlib.Core.Path.{◌≡◌, refl, sym, ◌∙◌, ap, subst}
use mathlib.Core.List.{List}
use mathlib.Core.Bool.{Bool, true, false, ◌&&◌}
use Prim.Native.Nat.{ℕ, suc, ◌+◌, ◌*◌, ◌-◌, ◌/◌, ◌≤◌, ◌<◌}
use native.Mathlib.Omega.{arith}
use native.Mathlib.Numerals.{add-one}
use borrow.Author.Tests.{le-leb, lt-leb, leb-true, leb-false}
use lib.Dec.{T, leb, ltb}
use lib.ListN.{length, get_or, drop, drop_of_length-le}
use lib.Seq.{drop-cons}
use lib.IntN.{ℤ}
use Rattle.lp.specs.declared.Constraint.{Constraint}
use Rattle.lp.specs.declared.Floors.{Floors}
use Rattle.lp.specs.Outcome.{every}
use Rattle.engine.specs.Entries.{entry, entries}
use Rattle.engine.specs.Sizes.{Room}
use Rattle.amounts.specs.Tests.{rule_in_range, floors_in_range}
use Rattle.region.specs.Listing.{is_rule, roomy, taken}
use Rattle.region.specs.Asked.{Testing}

-- ---- the rules

pub record Ranged (e : List ℤ) (n i : ℕ) : Type 0 where
  pub begun : 2 ≤ i
  pub inside : i ≤ n + 2
  pub rest : every rule_in_range (entries e i (n + 2 - i)) ≡ every rule_in_range (entries e 2 n)

pub ranged-start : (e : List ℤ) (n : ℕ) → Ranged e n 2
ranged-start e n = record { begun = omega arith; inside = omega arith; rest = ap (λ (m : ℕ). every rule_in_range (entries e 2 m)) all }
  where
    all : n + 2 - 2 ≡ n
    all = omega arith

module _ {e : List ℤ} {n : ℕ} {i : ℕ} (t : Ranged e n i) where
  pub ranged-room : Testing e n → i < n + 2 → Room e i
  ranged-room s b = record { room = omega (arith, s.room) }

  ranged-look :
      i < n + 2 →
      {r : Constraint} →
      r ≡ entry e i →
      {b : Bool} →
      b ≡ rule_in_range r →
      elim b [ true ↦ every rule_in_range (entries e (suc i) (n + 2 - suc i)) | false ↦ false ] ≡ every rule_in_range (entries e 2 n)
  ranged-look less er eb =
      ap (λ b. elim b [ true ↦ every rule_in_range (entries e (suc i) (n + 2 - suc i)) | false ↦ false ]) (eb ∙ ap rule_in_range er)
      ∙ sym (ap (λ (m : ℕ). every rule_in_range (entries e i m)) more)
      ∙ t.rest
    where
      more : n + 2 - i ≡ suc (n + 2 - suc i)
      more = omega arith

  pub ranged-step : i < n + 2 → {r : Constraint} → r ≡ entry e i → {b : Bool} → b ≡ rule_in_range r → b ≡ true → Ranged e n (i + 1)
  ranged-step less er eb k =
      record {
        begun = omega (arith, t.begun);
        inside = omega arith;
        rest =
            (λ j. every rule_in_range (entries e (add-one i j) (n + 2 - add-one i j)))
            ∙ ap (λ b. elim b [ true ↦ every rule_in_range (entries e (suc i) (n + 2 - suc i)) | false ↦ false ]) (sym k)
            ∙ ranged-look less er eb;
      }

  pub ranged-stop :
      i < n + 2 →
      {r : Constraint} →
      r ≡ entry e i →
      {b : Bool} →
      b ≡ rule_in_range r →
      b ≡ false →
      false ≡ every rule_in_range (entries e 2 n)
  ranged-stop less er eb k =
      ap (λ b. elim b [ true ↦ every rule_in_range (entries e (suc i) (n + 2 - suc i)) | false ↦ false ]) (sym k) ∙ ranged-look less er eb

  pub ranged-end : n + 2 ≤ i → true ≡ every rule_in_range (entries e 2 n)
  ranged-end over = sym (ap (λ (m : ℕ). every rule_in_range (entries e i m)) none) ∙ t.rest
    where
      none : n + 2 - i ≡ 0
      none = omega arith

-- ---- the order

pub rule-below : (n k : ℕ) → k < 2 → false ≡ is_rule n k
rule-below n k b = sym (ap (λ t. t && ltb (k - 2) n) (lt-leb 2 k b))

pub rule-above : (n k : ℕ) → 2 ≤ k → ltb (k - 2) n ≡ is_rule n k
rule-above n k b = sym (ap (λ t. t && ltb (k - 2) n) (le-leb 2 k b))

pub record Names (n : ℕ) (order : List ℕ) (i : ℕ) : Type 0 where
  pub inside : i ≤ length order
  pub rest : every (is_rule n) (drop i order) ≡ every (is_rule n) order

pub names-start : (n : ℕ) (order : List ℕ) → Names n order 0
names-start n order = record { inside = omega arith; rest = refl }

module _ {n : ℕ} {order : List ℕ} {i : ℕ} (t : Names n order i) where
  names-look :
      i < length order →
      {b : Bool} →
      b ≡ is_rule n (get_or order i 0) →
      elim b [ true ↦ every (is_rule n) (drop (suc i) order) | false ↦ false ] ≡ every (is_rule n) order
  names-look less eb =
      ap (λ b. elim b [ true ↦ every (is_rule n) (drop (suc i) order) | false ↦ false ]) eb
      ∙ sym (ap (every (is_rule n)) (drop-cons order i 0 less))
      ∙ t.rest

  pub names-step : i < length order → {b : Bool} → b ≡ is_rule n (get_or order i 0) → b ≡ true → Names n order (i + 1)
  names-step less eb k =
      record {
        inside = omega arith;
        rest =
            (λ j. every (is_rule n) (drop (add-one i j) order))
            ∙ ap (λ b. elim b [ true ↦ every (is_rule n) (drop (suc i) order) | false ↦ false ]) (sym k)
            ∙ names-look less eb;
      }

  pub names-stop : i < length order → {b : Bool} → b ≡ is_rule n (get_or order i 0) → b ≡ false → false ≡ every (is_rule n) order
  names-stop less eb k =
      ap (λ b. elim b [ true ↦ every (is_rule n) (drop (suc i) order) | false ↦ false ]) (sym k) ∙ names-look less eb

  pub names-end : length order ≤ i → true ≡ every (is_rule n) order
  names-end over = sym (ap (every (is_rule n)) (drop_of_length-le order over)) ∙ t.rest

-- ---- room

pub out-room : (order out : ℕ) → leb (order + 3) (out / 3) ≡ leb (3 * (order + 3)) out
out-room order out = go (leb (order + 3) (out / 3)) refl
  where
    go : (t : Bool) → leb (order + 3) (out / 3) ≡ t → leb (order + 3) (out / 3) ≡ leb (3 * (order + 3)) out
    go true e = e ∙ sym (le-leb (3 * (order + 3)) out (omega (arith, leb-true (order + 3) (out / 3) e)))
    go false e = e ∙ sym (lt-leb (3 * (order + 3)) out (omega (arith, leb-false (order + 3) (out / 3) e)))

module _ (run n order ring out : ℕ) where
  pub room-few : 65533 < n → false ≡ roomy run n order ring out
  room-few a = rw (lt-leb n 65533 a)

  module _ (a : n ≤ 65533) where
    pub room-run : run < 3 * (n + 3) → false ≡ roomy run n order ring out
    room-run b = rw (le-leb n 65533 a, lt-leb (3 * (n + 3)) run b)

    module _ (b : 3 * (n + 3) ≤ run) where
      pub room-ring : ring < order + 4 → false ≡ roomy run n order ring out
      room-ring c = rw (le-leb n 65533 a, le-leb (3 * (n + 3)) run b, lt-leb (order + 4) ring c)

      pub room_out : order + 4 ≤ ring → {t : Bool} → t ≡ leb (3 * (order + 3)) out → t ≡ roomy run n order ring out
      room_out c e = rw (le-leb n 65533 a, le-leb (3 * (n + 3)) run b, le-leb (order + 4) ring c) e

-- ---- all of them

false-true : false ≡ true → ⊥
false-true e = subst T (sym e) tt

module _ (f : Floors) (e : List ℤ) (n : ℕ) (order : List ℕ) (ring out : ℕ) where
  pub taken_no_room : {a : Bool} → a ≡ roomy (length e) n (length order) ring out → a ≡ false → false ≡ taken f e n order ring out
  taken_no_room ea ka =
      ap (λ a. a && floors_in_range f && every rule_in_range (entries e 2 n) && every (is_rule n) order) (sym ka ∙ ea)

  module _ {a : Bool} (ea : a ≡ roomy (length e) n (length order) ring out) (ka : a ≡ true) where
    pub taken_testing : Testing e n
    taken_testing =
        go (leb n 65533) (leb (3 * (n + 3)) (length e)) (leb (length order + 4) ring) (leb (3 * (length order + 3)) out) refl refl
        (sym ea ∙ ka)
      where
        go :
            (x y z w : Bool) →
            leb n 65533 ≡ x →
            leb (3 * (n + 3)) (length e) ≡ y →
            (x && y && z && w) ≡ true →
            Testing e n
        go true true z w p q k =
            record { room = omega (arith, leb-true (3 * (n + 3)) (length e) q); few = omega (arith, leb-true n 65533 p) }
        go true false z w p q k = absurd (false-true k)
        go false y z w p q k = absurd (false-true k)

    pub taken_no_floors : {b : Bool} → b ≡ floors_in_range f → b ≡ false → false ≡ taken f e n order ring out
    taken_no_floors eb kb =
        λ i. (sym ka ∙ ea) i && (sym kb ∙ eb) i && every rule_in_range (entries e 2 n) && every (is_rule n) order

    module _ {b : Bool} (eb : b ≡ floors_in_range f) (kb : b ≡ true) where
      pub taken_no_rules : {c : Bool} → c ≡ every rule_in_range (entries e 2 n) → c ≡ false → false ≡ taken f e n order ring out
      taken_no_rules ec kc = λ i. (sym ka ∙ ea) i && (sym kb ∙ eb) i && (sym kc ∙ ec) i && every (is_rule n) order

      pub taken-by :
          {c d : Bool} →
          c ≡ every rule_in_range (entries e 2 n) →
          c ≡ true →
          d ≡ every (is_rule n) order →
          d ≡ taken f e n order ring out
      taken-by ec kc ed = λ i. (sym ka ∙ ea) i && (sym kb ∙ eb) i && (sym kc ∙ ec) i && ed i
