-- Document 01's whole case, and an edge of each kind, computed: the definitions say what the document says of them.
use mathlib.Core.Path.{◌≡◌, refl}
use Prim.Native.Nat.{ℕ}
use mathlib.Core.List.{List, [], ◌∷◌, ◌++◌}
use lib.IntN.{pos, negsuc}
use Rattle.lp.specs.declared.Terms.{Terms}
use Rattle.records.specs.Layout.{v1, v2}
use Rattle.records.specs.Number.{number, bytes_of}
use Rattle.records.specs.Record.{record_at, decoded_with, decoded_of}
use Rattle.records.specs.Header.{header_cause, header_fault}
use Rattle.book.specs.Reading.{refused, accepted, memb, follow, walk, end_of, read_of}

-- the objective x + y, with no floors but 0
abbrev one_each : Terms
one_each = record { objective = record { p = pos 1; q = pos 1 }; floors = record { lx = pos 0; ly = pos 0 } }

pub whole_case : List ℕ
whole_case =
    2 ∷ 1 ∷ 1 ∷ 0 ∷ 1 ∷ 0 ∷ 2 ∷ 0 ∷ 0 ∷ 0 ∷ 0 ∷ 0 ∷ 0 ∷ 1 ∷ 3 ∷ 0 ∷ 1 ∷ 0 ∷ 11 ∷ 0 ∷ 9 ∷ 0 ∷ 0 ∷ 0 ∷ 1 ∷ 1 ∷ 1 ∷ 0 ∷ 2 ∷ 0 ∷ 10 ∷ 0 ∷ 8
    ∷ 0 ∷ 0 ∷ 0 ∷ []

pub whole-case : read_of v1 whole_case ≡ accepted one_each
    (record { index = 2; rule = record { kind = 1; a = pos 1; b = pos 2; c = pos 8; label = 10 } }
    ∷ record { index = 1; rule = record { kind = 1; a = pos 3; b = pos 1; c = pos 9; label = 11 } }
    ∷ [])
unfolding whole_case number record_at decoded_with decoded_of header_fault header_cause memb follow walk end_of
whole-case = refl

-- a record that links to itself
pub self_linked : read_of v1
    (1 ∷ 1 ∷ 1 ∷ 0 ∷ 1 ∷ 0 ∷ 1 ∷ 0 ∷ 0 ∷ 0 ∷ 0 ∷ 0 ∷ 1 ∷ 1 ∷ 1 ∷ 0 ∷ 1 ∷ 0 ∷ 0 ∷ 0 ∷ 0 ∷ 0 ∷ 0 ∷ 0 ∷ []) ≡ refused 7 1
unfolding number record_at decoded_with decoded_of header_fault header_cause memb follow walk end_of
self_linked = refl

-- c of 1,000,000,001, and a of −32,768
pub c-beyond : read_of v1
    (1 ∷ 1 ∷ 1 ∷ 0 ∷ 1 ∷ 0 ∷ 1 ∷ 0 ∷ 0 ∷ 0 ∷ 0 ∷ 0 ∷ 0 ∷ 1 ∷ 1 ∷ 0 ∷ 1 ∷ 0 ∷ 0 ∷ 0 ∷ bytes_of 4 1000000001) ≡ refused 10 1
unfolding number bytes_of record_at decoded_with decoded_of header_fault header_cause memb follow walk end_of
c-beyond = refl

pub a-least : read_of v1
    (1 ∷ 1 ∷ 1 ∷ 0 ∷ 1 ∷ 0 ∷ 1 ∷ 0 ∷ 0 ∷ 0 ∷ 0 ∷ 0 ∷ 0 ∷ 1 ∷ 0 ∷ 128 ∷ 1 ∷ 0 ∷ 0 ∷ 0 ∷ 1 ∷ 0 ∷ 0 ∷ 0 ∷ []) ≡ refused 9 1
unfolding number record_at decoded_with decoded_of header_fault header_cause memb follow walk end_of
a-least = refl

-- the label of record 2, the first of the chain, again at record 1, whose own link is above the count; the spare record 3 has it too
pub label-again : read_of v1
    (2 ∷ 1 ∷ 1 ∷ 0 ∷ 1 ∷ 0 ∷ 3 ∷ 0 ∷ 0 ∷ 0 ∷ 0 ∷ 0 ∷ 9 ∷ 1 ∷ 1 ∷ 0 ∷ 1 ∷ 0 ∷ 7 ∷ 0 ∷ 1 ∷ 0 ∷ 0 ∷ 0 ∷ 1 ∷ 1 ∷ 1 ∷ 0 ∷ 1 ∷ 0 ∷ 7 ∷ 0 ∷ 2 ∷ 0
    ∷ 0 ∷ 0 ∷ 0 ∷ 1 ∷ 1 ∷ 0 ∷ 1 ∷ 0 ∷ 7 ∷ 0 ∷ 2 ∷ 0 ∷ 0 ∷ 0 ∷ []) ≡ refused 12 1
unfolding number record_at decoded_with decoded_of header_fault header_cause memb follow walk end_of
label-again = refl

-- 10 comes before 12 of the same record
pub bound-before-label : read_of v1
    (1 ∷ 1 ∷ 1 ∷ 0 ∷ 1 ∷ 0 ∷ 2 ∷ 0 ∷ 0 ∷ 0 ∷ 0 ∷ 0 ∷ 2 ∷ 1 ∷ 1 ∷ 0 ∷ 1 ∷ 0 ∷ 7 ∷ 0 ∷ 1 ∷ 0 ∷ 0 ∷ 0 ∷ 9 ∷ 1 ∷ 1 ∷ 0 ∷ 1 ∷ 0 ∷ 7 ∷ 0
    ∷ bytes_of 4 1000000001) ≡ refused 10 2
unfolding number bytes_of record_at decoded_with decoded_of header_fault header_cause memb follow walk end_of
bound-before-label = refl

-- a spare record's label is free
pub spare-label : read_of v1
    (1 ∷ 1 ∷ 1 ∷ 0 ∷ 1 ∷ 0 ∷ 2 ∷ 0 ∷ 0 ∷ 0 ∷ 0 ∷ 0 ∷ 0 ∷ 1 ∷ 1 ∷ 0 ∷ 1 ∷ 0 ∷ 7 ∷ 0 ∷ 8 ∷ 0 ∷ 0 ∷ 0 ∷ 0 ∷ 1 ∷ 1 ∷ 0 ∷ 1 ∷ 0 ∷ 7 ∷ 0 ∷ 1 ∷ 0
    ∷ 0 ∷ 0 ∷ []) ≡ accepted one_each
    (record { index = 1; rule = record { kind = 1; a = pos 1; b = pos 1; c = pos 8; label = 7 } } ∷ [])
unfolding number record_at decoded_with decoded_of header_fault header_cause memb follow walk end_of
spare-label = refl

-- version 2: the whole case with records of 14 bytes, and padding that is set, in the header and in a rule record
pub whole_case_two : List ℕ → List ℕ → List ℕ
whole_case_two h r =
    2 ∷ 0 ∷ 2 ∷
    (h ++
    (1 ∷ 0 ∷ 1 ∷ 0 ∷ 2 ∷ 0 ∷ 0 ∷ 0 ∷ 0 ∷ 0 ∷ 0 ∷ 0 ∷ 1 ∷
    (r ++ (3 ∷ 0 ∷ 1 ∷ 0 ∷ 11 ∷ 0 ∷ 9 ∷ 0 ∷ 0 ∷ 0 ∷ 1 ∷ 0 ∷ 1 ∷ 0 ∷ 1 ∷ 0 ∷ 2 ∷ 0 ∷ 10 ∷ 0 ∷ 8 ∷ 0 ∷ 0 ∷ 0 ∷ []))))

pub whole_case-two : read_of v2 (whole_case_two (0 ∷ []) (0 ∷ [])) ≡ read_of v1 whole_case
unfolding whole_case whole_case_two number record_at decoded_with decoded_of header_fault header_cause memb follow walk end_of
whole_case-two = refl

pub padded_header : read_of v2 (whole_case_two (1 ∷ []) (0 ∷ [])) ≡ refused 2 0
unfolding whole_case_two number record_at decoded_with decoded_of header_fault header_cause memb follow walk end_of
padded_header = refl

pub padded_rule : read_of v2 (whole_case_two (0 ∷ []) (1 ∷ [])) ≡ refused 8 1
unfolding whole_case_two number record_at decoded_with decoded_of header_fault header_cause memb follow walk end_of
padded_rule = refl

-- its floors: −5, and 3 in the last two bytes, of a book without rules
pub floored_case : read_of v2 (0 ∷ 0 ∷ 2 ∷ 0 ∷ 1 ∷ 0 ∷ 1 ∷ 0 ∷ 0 ∷ 0 ∷ 251 ∷ 255 ∷ 3 ∷ 0 ∷ []) ≡ accepted
    (record { objective = record { p = pos 1; q = pos 1 }; floors = record { lx = negsuc 4; ly = pos 3 } }) []
unfolding number record_at decoded_with decoded_of header_fault header_cause memb follow walk end_of
floored_case = refl
