-- The fields of a record of any layout, at their offsets in the book: what the code reads is what the definitions say. A record that is
-- not there in full is read from a copy with zeros after it.
use Prim.Native.Nat.{ℕ, zero, suc, ◌+◌, ◌*◌, ◌≤◌}
use mathlib.Core.Path.{◌≡◌, refl, sym, ap, ◌∙◌}
use mathlib.Core.List.{List}
use native.Mathlib.Omega.{arith}
use native.Mathlib.Nat.{add-zero}
use lib.ListN.{get_or, take, drop}
use Rattle.records.specs.declared.fields.Fields.{Fields}
use Rattle.records.specs.Layout.{Layout, width, at_kind, at_pad, at_a, at_b, at_label, at_c}
use Rattle.records.specs.Number.{number, Copied}
use Rattle.records.specs.Record.{fields_of}
use Rattle.records.proofs.Numbers.{number_step, number-take, field_at}

module _ (L : Layout) (s : List ℕ) (at : ℕ) where
  -- a field of n bytes at an offset
  field : (n off : ℕ) → off + n ≤ width L → number n (drop (at + off) s) ≡ number n (drop off (take (width L) (drop at s)))
  field n off h = sym (field_at n off (width L) at s h)

  -- the fields that are read
  pub fields_read : {l k p a b m c : ℕ} →
      l ≡ number L.link (drop at s) →
      k ≡ number 1 (drop (at + at_kind L) s) →
      p ≡ number L.pad (drop (at + at_pad L) s) →
      a ≡ number 2 (drop (at + at_a L) s) →
      b ≡ number 2 (drop (at + at_b L) s) →
      m ≡ number 2 (drop (at + at_label L) s) →
      c ≡ number 4 (drop (at + at_c L) s) →
      ◌≡◌ {A = Fields} (record { link = l; kind = k; pad = p; a = a; b = b; label = m; c = c })
      (fields_of L (take (width L) (drop at s)))
  fields_read l k p a b m c j =
      record {
        link = (l ∙ sym (number-take L.link (width L) (drop at s) (omega arith))) j;
        kind = (k ∙ field 1 (at_kind L) (omega arith)) j;
        pad = (p ∙ field L.pad (at_pad L) (omega arith)) j;
        a = (a ∙ field 2 (at_a L) (omega arith)) j;
        b = (b ∙ field 2 (at_b L) (omega arith)) j;
        label = (m ∙ field 2 (at_label L) (omega arith)) j;
        c = (c ∙ field 4 (at_c L) (omega arith)) j;
      }

-- a number of a copy
pub copied-number : {s w : List ℕ} {at m : ℕ} →
    Copied s at m w →
    (n off : ℕ) →
    off + n ≤ m →
    number n (drop off w) ≡ number n (drop (at + off) s)
unfolding number
copied-number k zero off h = refl
copied-number {s} {w} {at} k (suc n) off h =
    let next : at + suc off ≡ suc (at + off) = omega arith in
    number_step n off w
    ∙ (λ j. k.bytes off (omega arith) j + 256 * copied-number k n (suc off) (omega arith) j)
    ∙ ap (λ i. get_or s (at + off) 0 + 256 * number n (drop i s)) next
    ∙ sym (number_step n (at + off) s)

-- the fields of a copy are the record's
pub fields_copied : (L : Layout) {s w : List ℕ} {at m : ℕ} → Copied s at m w → width L ≤ m →
    fields_of L (take (width L) (drop 0 w)) ≡ fields_of L (take (width L) (drop at s))
fields_copied L {s} {w} {at} {m} k h =
    sym (fields_read L w 0 refl refl refl refl refl refl refl)
    ∙ fields_read L s at
    (copied-number k L.link 0 (omega arith) ∙ ap (λ i. number L.link (drop i s)) (add-zero at))
    (here 1 (at_kind L) (omega arith))
    (here L.pad (at_pad L) (omega arith))
    (here 2 (at_a L) (omega arith))
    (here 2 (at_b L) (omega arith))
    (here 2 (at_label L) (omega arith))
    (here 4 (at_c L) (omega arith))
  where
    here : (n off : ℕ) → off + n ≤ m → number n (drop (0 + off) w) ≡ number n (drop (at + off) s)
    here n off h =
        let e : 0 + off ≡ off = omega arith in
        ap (λ i. number n (drop i w)) e ∙ copied-number k n off h
