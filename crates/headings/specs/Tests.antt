-- What a header says, and the causes 1 to 5, as the code has them of the fields of a header. Laws say that of a book's own header they are
-- the book's.
use Rattle.std.specs.Prelude.{ℕ, ◌-◌, ◌/◌, Bool, cond, not, ◌||◌, List, length, eqb, Option, Some, None}
use Rattle.std.specs.Int.{w16}
use Rattle.std.proofs.Common.{to_z}
use Rattle.answers.specs.declared.Cause.{Cause}
use Rattle.answers.specs.declared.Cause.TheVariants.{Length, Version, Count, Objective, Tail}
use Rattle.records.specs.declared.Heading.{Heading}
use Rattle.records.specs.declared.fields.Fields.{Fields}
use Rattle.records.specs.Layout.{Layout, width}
use Rattle.records.specs.Record.{is_least}
use Rattle.records.specs.Header.{floors_in, tail_set, bad_length}

abbrev pub other_version : Layout → Fields → Bool
other_version L f = not (eqb f.kind L.version) || not (eqb f.pad 0)

abbrev pub other_count : Layout → List ℕ → Fields → Bool
other_count L s f = not (eqb f.label (length s / width L - 1))

abbrev pub least_objective : Fields → Bool
least_objective f = is_least (to_z w16 f.a) || is_least (to_z w16 f.b)

abbrev pub cause_in : Layout → List ℕ → Fields → Option Cause
cause_in L s f =
    cond (bad_length L s) (Some Length)
    (cond (other_version L f) (Some Version)
    (cond (other_count L s f) (Some Count) (cond (least_objective f) (Some Objective) (cond (tail_set L f.c) (Some Tail) None))))

abbrev pub heading_in : Layout → Fields → Heading
heading_in L f =
    record {
      terms = record { objective = record { p = to_z w16 f.a; q = to_z w16 f.b }; floors = floors_in L f.c };
      count = f.label;
      link = f.link;
    }
