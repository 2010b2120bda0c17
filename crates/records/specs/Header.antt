-- The header of a book: the terms that its chain is planned under, its count of the records after it, its link to the chain, and the
-- causes 1 to 5 by which it is refused. The causes are tested in document 01's order.
use Rattle.std.specs.Prelude.{ℕ, ◌+◌, ◌-◌, ◌*◌, ◌/◌, ◌%◌, Bool, cond, not, ◌||◌, ◌&&◌, List, length, drop, eqb, ltb, pos}
use Rattle.std.specs.Prelude.{Option, Some, None, Result, Ok, Err}
use Rattle.std.specs.Int.{w16}
use Rattle.std.proofs.Common.{to_z}
use Rattle.lp.specs.declared.Functional.{Functional}
use Rattle.lp.specs.declared.Floors.{Floors}
use Rattle.lp.specs.declared.Terms.{Terms}
use Rattle.answers.specs.declared.Cause.{Cause}
use Rattle.answers.specs.declared.Cause.TheVariants.{Length, Version, Count, Objective, Tail}
use Rattle.answers.specs.Cause.{numbered}
use Rattle.records.specs.declared.Heading.{Heading}
use Rattle.records.specs.declared.BadHeading.{BadHeading}
use Rattle.records.specs.Layout.{Layout, width, at_c}
use Rattle.records.specs.Number.{number}
use Rattle.records.specs.Record.{record_at, link_of, kind_of, pad_of, a_of, b_of, label_of, c_of, is_least}

-- what the code reads of a tail whose four bytes make one number: its halves, where the layout has floors (a law says that they are the
-- floors), and whether it must have been zero
module _ (L : Layout) (tail : ℕ) where
  abbrev pub floors_in : Floors
  floors_in =
      cond L.floors
      (record { lx = to_z w16 (tail % 65536); ly = to_z w16 (tail / 65536) })
      (record { lx = pos 0; ly = pos 0 })

  abbrev pub tail_set : Bool
  tail_set = not L.floors && not (eqb tail 0)

-- what a header says, beside the cause that turns it back, if one does
abbrev pub headed : Option Cause → Heading → Result Heading BadHeading
headed (Some cause) heading = Err (record { cause = cause; heading = heading })
headed None heading = Ok heading

module _ (L : Layout) (s : List ℕ) where
  -- ---- what it says

  abbrev pub objective_of : Functional
  objective_of = record { p = to_z w16 (a_of L (record_at L s 0)); q = to_z w16 (b_of L (record_at L s 0)) }

  -- the floors, where the layout's tail has them: two signed numbers, x first
  abbrev pub floors_of : Floors
  floors_of =
      cond L.floors
      (record {
        lx = to_z w16 (number 2 (drop (at_c L) (record_at L s 0)));
        ly = to_z w16 (number 2 (drop (at_c L + 2) (record_at L s 0)));
      })
      (record { lx = pos 0; ly = pos 0 })

  abbrev pub terms_of : Terms
  terms_of = record { objective = objective_of; floors = floors_of }

  abbrev pub count_of : ℕ
  count_of = label_of L (record_at L s 0)

  -- ---- the causes 1 to 5

  abbrev pub bad_length : Bool
  bad_length =
      ltb (length s) (width L) || ltb (width L * L.records) (length s) || not (eqb (length s % width L) 0)

  abbrev pub bad_version : Bool
  bad_version = not (eqb (kind_of L (record_at L s 0)) L.version) || not (eqb (pad_of L (record_at L s 0)) 0)

  abbrev pub bad_count : Bool
  bad_count = not (eqb count_of (length s / width L - 1))

  abbrev pub bad_objective : Bool
  bad_objective = is_least objective_of.p || is_least objective_of.q

  abbrev pub bad_tail : Bool
  bad_tail = tail_set L (c_of L (record_at L s 0))

  -- the first of them that applies, if one does
  unfoldable pub header_cause : Option Cause
  header_cause =
      cond bad_length (Some Length)
      (cond bad_version (Some Version)
      (cond bad_count (Some Count) (cond bad_objective (Some Objective) (cond bad_tail (Some Tail) None))))

  -- its number; 0 where none does
  unfoldable pub header_fault : ℕ
  header_fault = numbered header_cause

  -- what the header says, and the first of them that applies, if one does
  abbrev pub heading_of : Result Heading BadHeading
  heading_of = headed header_cause (record { terms = terms_of; count = count_of; link = link_of L (record_at L s 0) })
