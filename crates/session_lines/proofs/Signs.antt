-- Numbers in their fields: with a minus or without, and what it means that one fits.
use mathlib.Core.Path.{◌≡◌, refl, ap, sym, ◌∙◌, subst}
use mathlib.Core.Bool.{Bool, true, false, cond}
use mathlib.Core.List.{List}
use Prim.Native.Nat.{ℕ, zero, suc, ◌^◌, ◌≤◌, ◌<◌}
use native.Mathlib.Omega.{arith}
use lib.Dec.{eqb}
use lib.IntN.{ℤ, pos, neg_ℤ, nat_abs, ◌-ℤ◌, +ℤ_idl}
use mir.Syntax.{Width, w16, w32, w64}
use mir.Val.{SFits, hbits, to_z, of_z}
use mir.Facts.{to_z-of_z}
use borrow.Author.Tests.{eq-eqb, ne_eqb, leb-true, le-leb, lt-leb}
use Rattle.scanning.specs.Bytes.{first, tail, digit, run, past}
use Rattle.text.specs.Number.{value_from}
use Rattle.scanning.specs.Runs.{Runs}
use Rattle.scanning.proofs.Numbers.{capped-alike}
use Rattle.session_lines.specs.declared.numbers.Number.{Number}
use Rattle.std.specs.Prelude.{Option, Some, None, Result, Ok, Err, OkIff, unsigned_abs}
use Rattle.std.specs.Result.{result_ok}
use Rattle.std.specs.Int.{FitsUnsignedBits}
use Rattle.session_lines.specs.Fields.{greatest, numeral_of, minus, number_with, number_in, past_field, fits, value_of, size_of, signed_in, unsigned_in}
use Rattle.session_lines.specs.Asked.{FindsFrom, Finds}

pub numeral-small : (negative : Bool) (size : ℕ) →
    size ≤ greatest →
    Some (record { negative = negative; size = size }) ≡ numeral_of negative size
unfolding numeral_of
numeral-small negative size h = rw (le-leb size greatest h)

pub numeral-beyond : (negative : Bool) (size : ℕ) → greatest < size → None ≡ numeral_of negative size
unfolding numeral_of
numeral-beyond negative size h = rw (lt-leb size greatest h)

-- beyond the greatest one number is as good as another
beyond : (negative : Bool) (n : ℕ) → greatest < n → numeral_of negative n ≡ None
unfolding numeral_of
beyond negative n h = rw (lt-leb n greatest h)

-- ---- a number, its space and its digits

module _ (negative : Bool) (text from : List ℕ) {n : ℕ} {l : List ℕ} (runs : Runs greatest from n l) {b : ℕ} (space : b ≡ first text) where
  same : numeral_of negative n ≡ numeral_of negative (value_from 0 (run from))
  same = ap (numeral_of negative) runs.number ∙ capped-alike (numeral_of negative) greatest None (beyond negative) 0 (run from)

  pub number-there : {d : ℕ} →
      b ≡ 32 →
      d ≡ first from →
      {t : Bool} →
      t ≡ digit d →
      t ≡ true →
      {m : Option Number} →
      m ≡ numeral_of negative n →
      FindsFrom negative text from m l
  unfolding number_with
  number-there e f g h k =
      let z : eqb (first text) 32 ≡ true = eq-eqb (first text) 32 (sym space ∙ e) in
      let y : digit (first from) ≡ true = sym (ap digit f) ∙ sym g ∙ h in
      record { number = k ∙ same ∙ rw z (rw y refl); rest = runs.rest }

  pub number_undigited : {d : ℕ} →
      b ≡ 32 →
      d ≡ first from →
      {t : Bool} →
      t ≡ digit d →
      t ≡ false →
      FindsFrom negative text from None l
  unfolding number_with
  number_undigited e f g h =
      let z : eqb (first text) 32 ≡ true = eq-eqb (first text) 32 (sym space ∙ e) in
      let y : digit (first from) ≡ false = sym (ap digit f) ∙ sym g ∙ h in
      record { number = rw z (rw y refl); rest = runs.rest }

  pub number_unspaced : (b ≡ 32 → ⊥) → FindsFrom negative text from None l
  unfolding number_with
  number_unspaced e =
      let z : eqb (first text) 32 ≡ false = ne_eqb (first text) 32 (λ q. e (space ∙ q)) in
      record { number = rw z refl; rest = runs.rest }

-- ---- a number with a minus or without

module _ (text : List ℕ) {sign : List ℕ} {b : ℕ} (after : sign ≡ tail text) (byte : b ≡ first sign) where
  told : b ≡ first (tail text)
  told = byte ∙ ap first after

  pub field-minus : b ≡ 45 →
      {from : List ℕ} {n : Option Number} {l : List ℕ} →
      from ≡ tail sign →
      FindsFrom true text from n l →
      Finds text n l
  unfolding number_in past_field
  field-minus e next found =
      let z : minus text ≡ true = eq-eqb (first (tail text)) 45 (sym told ∙ e) in
      let w = next ∙ ap tail after in
      record {
        number =
            found.number ∙ ap (number_with true text) w
            ∙ sym (ap (λ t. number_with t text (cond t (tail (tail text)) (tail text))) z);
        rest = found.rest ∙ ap past w ∙ sym (ap (λ t. past (cond t (tail (tail text)) (tail text))) z);
      }

  pub field_plain : (b ≡ 45 → ⊥) → {n : Option Number} {l : List ℕ} → FindsFrom false text sign n l → Finds text n l
  unfolding number_in past_field
  field_plain e found =
      let z : minus text ≡ false = ne_eqb (first (tail text)) 45 (λ q. e (told ∙ q)) in
      record {
        number =
            found.number ∙ ap (number_with false text) after
            ∙ sym (ap (λ t. number_with t text (cond t (tail (tail text)) (tail text))) z);
        rest = found.rest ∙ ap past after ∙ sym (ap (λ t. past (cond t (tail (tail text)) (tail text))) z);
      }

-- ---- a number in its field

module _ {n : Option Number} {m : Number} (below above : ℕ) (e : n ≡ Some m) {t : Bool} (f : t ≡ fits below above (Some m)) where
  fitting : {u : Bool} → t ≡ u → fits below above n ≡ u
  fitting h = ap (fits below above) e ∙ sym f ∙ h

  pub has_room : t ≡ true → {z : ℤ} → z ≡ value_of (Some m) → Some z ≡ signed_in below above n
  has_room h g = sym (ap (λ u. cond u (Some (value_of n)) None) (fitting h) ∙ ap (λ o. Some (value_of o)) e ∙ ap Some (sym g))

  pub no_room : t ≡ false → None ≡ signed_in below above n
  no_room h = sym (ap (λ u. cond u (Some (value_of n)) None) (fitting h))

module _ {n : Option Number} {m : Number} (above : ℕ) (e : n ≡ Some m) {t : Bool} (f : t ≡ fits 0 above (Some m)) where
  pub has_room_unsigned : t ≡ true → Some m.size ≡ unsigned_in above n
  has_room_unsigned h = sym (ap (λ u. cond u (Some (size_of n)) None) (fitting 0 above e f h) ∙ ap (λ o. Some (size_of o)) e)

  pub no_room_unsigned : t ≡ false → None ≡ unsigned_in above n
  no_room_unsigned h = sym (ap (λ u. cond u (Some (size_of n)) None) (fitting 0 above e f h))

pub no_signed : {n : Option Number} (below above : ℕ) → n ≡ None → None ≡ signed_in below above n
unfolding fits
no_signed below above e = sym (ap (signed_in below above) e)

pub no_unsigned : {n : Option Number} (above : ℕ) → n ≡ None → None ≡ unsigned_in above n
unfolding fits
no_unsigned above e = sym (ap (unsigned_in above) e)

-- what a field gives says whether the number has room there, and which it is
pub given : {A : Type 0} (t : Bool) (v : A) {x : A} {o : Option A} → o ≡ cond t (Some v) None → o ≡ Some x → (t ≡ true) × (x ≡ v)
given true v e f = (refl, cc)
given false v e f = cc

pub missing : {A : Type 0} (t : Bool) (v : A) {o : Option A} → o ≡ cond t (Some v) None → o ≡ None → t ≡ false
missing true v e f = cc
missing false v e f = refl

-- a number that fits is no greater than its side of 0 allows
pub bounded : (n : Number) (below above : ℕ) → fits below above (Some n) ≡ true → n.size ≤ cond n.negative below above
unfolding fits
bounded n below above e = leb-true n.size (cond n.negative below above) e

-- ---- a sign and a size, in a type that has less room

abbrev whole : ℕ
whole = 9223372036854775807

unfit : (t : Bool) → (t ≡ true → ⊥) → t ≡ false
unfit true h = absurd (h refl)
unfit false h = refl

-- what a conversion gave says what was asked of it
taken : {T E P : Type 0} {v x : T} (r : Result T E) → OkIff r P v → result_ok r ≡ Some x → P × (x ≡ v)
taken (Ok y) (p, q) e = (p, cc)
taken (Err y) h e = cc

refused : {T E P : Type 0} (v : T) (r : Result T E) → OkIff r P v → result_ok r ≡ None → P → ⊥
refused v (Ok y) (p, q) e k = cc
refused v (Err y) h e k = h k

-- the number has room in 64 bits if its size has
module _ (n : Number) {E : Type 0} (r : Result ℤ E) (h : OkIff r (SFits w64 (pos n.size)) (pos n.size)) where
  pub signed_beyond : result_ok r ≡ None → None ≡ signed_in whole whole (Some n)
  signed_beyond e =
      no_room {n = Some n} {m = n} whole whole refl refl
      (unfit (fits whole whole (Some n)) (λ t. refused (pos n.size) r h e (go n.negative (bounded n whole whole t))))
    where
      go : (t : Bool) → n.size ≤ cond t whole whole → SFits w64 (pos n.size)
      go true k = record { sfits = omega arith }
      go false k = record { sfits = omega arith }

  module _ {x : ℤ} (e : result_ok r ≡ Some x) where
    size_fits : SFits w64 (pos n.size)
    size_fits = (taken r h e).0

    size_read : to_z w64 (of_z w64 x) ≡ pos n.size
    size_read = ap (λ z. to_z w64 (of_z w64 z)) (taken r h e).1 ∙ to_z-of_z {w = w64} size_fits

    fitted : fits whole whole (Some n) ≡ true
    unfolding fits
    fitted = le-leb n.size (cond n.negative whole whole) (go n.negative)
      where
        go : (t : Bool) → n.size ≤ cond t whole whole
        go true = omega (arith, size_fits.sfits)
        go false = omega (arith, size_fits.sfits)

    turned : (k : ℕ) → SFits w64 (pos k) → SFits w64 (neg_ℤ (pos k))
    turned zero f = f
    turned (suc k) f = record { sfits = omega (arith, f.sfits) }

    pub signed-minus : n.negative ≡ true →
        Some (to_z w64 (of_z w64 (pos 0 -ℤ to_z w64 (of_z w64 x)))) ≡ signed_in whole whole (Some n)
    signed-minus g =
        has_room {n = Some n} {m = n} whole whole refl refl fitted
        (ap (λ z. to_z w64 (of_z w64 (pos 0 -ℤ z))) size_read
        ∙ ap (λ z. to_z w64 (of_z w64 z)) (+ℤ_idl (neg_ℤ (pos n.size)))
        ∙ to_z-of_z {w = w64} (turned n.size size_fits)
        ∙ sym (ap (λ t. cond t (neg_ℤ (pos n.size)) (pos n.size)) g))

    pub signed-plain : n.negative ≡ false → Some (to_z w64 (of_z w64 x)) ≡ signed_in whole whole (Some n)
    signed-plain g =
        has_room {n = Some n} {m = n} whole whole refl refl fitted
        (size_read ∙ sym (ap (λ t. cond t (neg_ℤ (pos n.size)) (pos n.size)) g))

-- a number that has room in 64 bits is kept whole by its bits
pub kept_whole : (n : Number) {o : Option ℤ} {z : ℤ} →
    o ≡ signed_in whole whole (Some n) →
    o ≡ Some z →
    to_z w64 (of_z w64 z) ≡ value_of (Some n)
kept_whole n f e =
    let g = given (fits whole whole (Some n)) (value_of (Some n)) f e in
    ap (λ y. to_z w64 (of_z w64 y)) g.1 ∙ to_z-of_z {w = w64} (go n.negative n.size (bounded n whole whole g.0))
  where
    go : (t : Bool) (k : ℕ) → k ≤ cond t whole whole → SFits w64 (cond t (neg_ℤ (pos k)) (pos k))
    go true zero h = record { sfits = omega arith }
    go true (suc k) h = record { sfits = omega arith }
    go false k h = record { sfits = omega arith }

-- a number with no room in 64 bits has none in fewer
module _ {n : Option Number} {m : Number} (below above : ℕ) (b : below ≤ whole) (a : above ≤ whole) (e : n ≡ Some m)
    {o : Option ℤ} (f : o ≡ signed_in whole whole (Some m)) (g : o ≡ None) where
  narrower : fits below above (Some m) ≡ true → fits whole whole (Some m) ≡ true
  unfolding fits
  narrower t = le-leb m.size (cond m.negative whole whole) (go m.negative (bounded m below above t))
    where
      go : (t : Bool) → m.size ≤ cond t below above → m.size ≤ cond t whole whole
      go true h = omega arith
      go false h = omega arith

  outside : fits below above (Some m) ≡ false
  outside =
      let w = missing (fits whole whole (Some m)) (value_of (Some m)) f g in
      unfit (fits below above (Some m)) (λ t. let y = narrower t in cc)

  pub no_room_whole : None ≡ signed_in below above n
  no_room_whole = no_room below above e refl outside

pub no_room_whole_unsigned : {n : Option Number} {m : Number} (above : ℕ) →
    above ≤ whole →
    n ≡ Some m →
    {o : Option ℤ} →
    o ≡ signed_in whole whole (Some m) →
    o ≡ None →
    None ≡ unsigned_in above n
no_room_whole_unsigned above a e f g = no_room_unsigned above e refl (outside 0 above (omega arith) a e f g)

-- what a type with a sign has room for is what fits
module _ (w : Width) (below above : ℕ) (b : below ≡ 2 ^ hbits w) (a : suc above ≡ 2 ^ hbits w) where
  room : (n : Number) → SFits w (value_of (Some n)) → fits below above (Some n) ≡ true
  unfolding fits
  room n h = le-leb n.size (cond n.negative below above) (go n.negative n.size h)
    where
      go : (t : Bool) (k : ℕ) → SFits w (cond t (neg_ℤ (pos k)) (pos k)) → k ≤ cond t below above
      go true zero h = omega arith
      go true (suc k) h = omega (arith, h.sfits, b)
      go false k h = omega (arith, h.sfits, a)

  value : (n : Number) → fits below above (Some n) ≡ true → SFits w (value_of (Some n))
  value n e = go n.negative n.size (bounded n below above e)
    where
      go : (t : Bool) (k : ℕ) → k ≤ cond t below above → SFits w (cond t (neg_ℤ (pos k)) (pos k))
      go true zero h = record { sfits = omega (arith, a) }
      go true (suc k) h = record { sfits = omega (arith, b) }
      go false k h = record { sfits = omega (arith, a) }

  -- the conversion of a number says what a field of that type does
  pub converted : {n : Option Number} {m : Number} {z : ℤ} {E : Type 0} (r : Result ℤ E) →
      n ≡ Some m →
      z ≡ value_of (Some m) →
      OkIff r (SFits w z) z →
      result_ok r ≡ signed_in below above n
  converted {m = m} (Ok x) e v (p, q) = has_room below above e refl (room m (subst (SFits w) v p)) (q ∙ v)
  converted {m = m} (Err x) e v h =
      no_room below above e refl (unfit (fits below above (Some m)) (λ t. h (subst (SFits w) (sym v) (value m t))))

  -- what a field with a sign gives is kept whole by its bits
  pub kept : (n : Option Number) {o : Option ℤ} {x : ℤ} → o ≡ signed_in below above n → o ≡ Some x → to_z w (of_z w x) ≡ value_of n
  unfolding fits
  kept (Some m) f e =
      let g = given (fits below above (Some m)) (value_of (Some m)) f e in
      ap (λ z. to_z w (of_z w z)) g.1 ∙ to_z-of_z {w = w} (value m g.0)
  kept None f e = cc

pub kept16 : (n : Option Number) {o : Option ℤ} {x : ℤ} →
    o ≡ signed_in 32768 32767 n →
    o ≡ Some x →
    to_z w16 (of_z w16 x) ≡ value_of n
kept16 n f e = kept w16 32768 32767 refl refl n f e

pub kept32 : (n : Option Number) {o : Option ℤ} {x : ℤ} →
    o ≡ signed_in 2147483648 2147483647 n →
    o ≡ Some x →
    to_z w32 (of_z w32 x) ≡ value_of n
kept32 n f e = kept w32 2147483648 2147483647 refl refl n f e

-- what a type without a sign has room for is what fits
module _ (bits above : ℕ) (a : suc above ≡ 2 ^ bits) where
  room_unsigned : (n : Number) → FitsUnsignedBits bits (value_of (Some n)) → fits 0 above (Some n) ≡ true
  unfolding fits
  room_unsigned n h = le-leb n.size (cond n.negative 0 above) (go n.negative n.size h)
    where
      go : (t : Bool) (k : ℕ) → FitsUnsignedBits bits (cond t (neg_ℤ (pos k)) (pos k)) → k ≤ cond t 0 above
      go true zero h = omega arith
      go true (suc k) h = absurd h
      go false k h = omega (arith, h, a)

  value_unsigned : (n : Number) → fits 0 above (Some n) ≡ true → FitsUnsignedBits bits (value_of (Some n))
  value_unsigned n e = go n.negative n.size (bounded n 0 above e)
    where
      go : (t : Bool) (k : ℕ) → k ≤ cond t 0 above → FitsUnsignedBits bits (cond t (neg_ℤ (pos k)) (pos k))
      go true zero h = omega (arith, a)
      go true (suc k) h = absurd (omega arith)
      go false k h = omega (arith, a)

  pub converted_unsigned : {n : Option Number} {m : Number} {z : ℤ} {E : Type 0} (r : Result ℕ E) →
      n ≡ Some m →
      z ≡ value_of (Some m) →
      OkIff r (FitsUnsignedBits bits z) (unsigned_abs z) →
      result_ok r ≡ unsigned_in above n
  converted_unsigned {m = m} (Ok x) e v (p, q) =
      ap Some (q ∙ ap unsigned_abs v ∙ sizes m.negative m.size)
      ∙ has_room_unsigned above e refl (room_unsigned m (subst (FitsUnsignedBits bits) v p))
    where
      sizes : (t : Bool) (k : ℕ) → unsigned_abs (cond t (neg_ℤ (pos k)) (pos k)) ≡ k
      sizes true zero = refl
      sizes true (suc k) = refl
      sizes false k = refl
  converted_unsigned {m = m} (Err x) e v h =
      no_room_unsigned above e refl
      (unfit (fits 0 above (Some m)) (λ t. h (subst (FitsUnsignedBits bits) (sym v) (value_unsigned m t))))
