-- A record of the book, from its bytes to its fields, and the causes 8, 9 and 10 by which a rule record is refused.
-- Signed numbers are in two's complement: `to_z w16` and `to_z w32` are the machine's own readings of 16 and of 32 bits.
use Rattle.std.specs.Prelude.{ℕ, ◌+◌, ◌*◌, Bool, cond, not, ◌||◌, ◌&&◌, List, length, take, drop, eqb, leb, ℤ, pos, negsuc, Result, Ok, Err}
use Rattle.std.specs.Int.Signed.{lt_z}
use Rattle.std.specs.Int.{w16, w32}
use Rattle.std.proofs.Common.{to_z}
use Rattle.answers.specs.declared.Cause.{Cause}
use Rattle.answers.specs.declared.Cause.TheVariants.{Kind, Slope, Bound}
use Rattle.answers.specs.Cause.{number_of_cause}
use Rattle.records.specs.declared.fields.Fields.{Fields}
use Rattle.records.specs.declared.Rule.{Rule}
use Rattle.records.specs.declared.Sound.{Sound}
use Rattle.records.specs.Layout.{Layout, width, at_kind, at_pad, at_a, at_b, at_label, at_c}
use Rattle.records.specs.Number.{number}

-- a rule of these fields, as unsigned numbers
abbrev pub rule_with : (kind a b label c : ℕ) → Rule
rule_with kind a b label c = record { kind = kind; a = to_z w16 a; b = to_z w16 b; c = to_z w32 c; label = label }

module _ (L : Layout) where
  -- record i of a book: the bytes from i · width on, as many as a record has
  unfoldable pub record_at : List ℕ → ℕ → List ℕ
  record_at s i = take (width L) (drop (i * width L) s)

  -- the fields of a record, as unsigned numbers
  abbrev pub link_of : List ℕ → ℕ
  link_of r = number L.link r

  abbrev pub kind_of : List ℕ → ℕ
  kind_of r = number 1 (drop (at_kind L) r)

  abbrev pub pad_of : List ℕ → ℕ
  pad_of r = number L.pad (drop (at_pad L) r)

  abbrev pub a_of : List ℕ → ℕ
  a_of r = number 2 (drop (at_a L) r)

  abbrev pub b_of : List ℕ → ℕ
  b_of r = number 2 (drop (at_b L) r)

  abbrev pub label_of : List ℕ → ℕ
  label_of r = number 2 (drop (at_label L) r)

  abbrev pub c_of : List ℕ → ℕ
  c_of r = number 4 (drop (at_c L) r)

  abbrev pub fields_of : List ℕ → Fields
  fields_of r =
      record {
        link = link_of r;
        kind = kind_of r;
        pad = pad_of r;
        a = a_of r;
        b = b_of r;
        label = label_of r;
        c = c_of r;
      }

  -- whether the bytes of record i are all there
  abbrev pub holds_record : List ℕ → ℕ → Bool
  holds_record s i = leb (i * width L + width L) (length s)

  -- a rule record's rule, as written
  abbrev pub rule_of : List ℕ → Rule
  rule_of r = rule_with (kind_of r) (a_of r) (b_of r) (label_of r) (c_of r)

-- −32,768, the least number of sixteen bits, which a, b, p and q must not be; and beyond ±1,000,000,000, where c must not be
abbrev pub is_least : ℤ → Bool
is_least z = lt_z z (negsuc 32766)

abbrev pub is_beyond : ℤ → Bool
is_beyond z = lt_z z (negsuc 999999999) || lt_z (pos 1000000000) z

-- causes 8, 9 and 10; `clear` says that the record's padding is zero
abbrev pub bad_kind : Bool → Rule → Bool
bad_kind clear r = not ((eqb r.kind 1 || eqb r.kind 2) && clear)

abbrev pub bad_slope : Rule → Bool
bad_slope r = is_least r.a || is_least r.b

abbrev pub bad_bound : Rule → Bool
bad_bound r = is_beyond r.c

-- a sound rule, with its link
abbrev pub sound_with : Rule → ℕ → Result Sound Cause
sound_with r next = Ok (record { rule = r; next = next })

-- a rule with its link: sound, or what refuses it first
unfoldable pub decoded_with : Bool → Rule → ℕ → Result Sound Cause
decoded_with clear r next =
    cond (bad_kind clear r) (Err Kind) (cond (bad_slope r) (Err Slope) (cond (bad_bound r) (Err Bound) (sound_with r next)))

-- of a record's fields
abbrev pub decoded_from : Fields → Result Sound Cause
decoded_from f = decoded_with (eqb f.pad 0) (rule_with f.kind f.a f.b f.label f.c) f.link

unfoldable pub decoded_of : Layout → List ℕ → Result Sound Cause
decoded_of L r = decoded_with (eqb (pad_of L r) 0) (rule_of L r) (link_of L r)

-- document 01's number for each; 0 where nothing refuses the record
abbrev pub number_of : Result Sound Cause → ℕ
number_of (Ok s) = 0
number_of (Err cause) = number_of_cause cause
