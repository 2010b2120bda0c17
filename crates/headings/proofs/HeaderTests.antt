-- What a book's own header says, and the causes 1 to 5, of its fields.
use Prim.Native.Nat.{ℕ}
use mathlib.Core.Path.{◌≡◌, refl, sym, ap, ◌∙◌}
use mathlib.Core.List.{List}
use Rattle.std.specs.Prelude.{Option, Some, Err}
use Rattle.std.specs.Int.{w16}
use Rattle.std.proofs.Common.{to_z}
use Rattle.answers.specs.declared.Cause.{Cause}
use Rattle.lp.specs.declared.Floors.{Floors}
use Rattle.records.specs.declared.Heading.{Heading}
use Rattle.records.specs.declared.fields.Fields.{Fields}
use Rattle.records.specs.Layout.{Layout}
use Rattle.records.specs.Number.{Bytes}
use Rattle.records.specs.Record.{record_at, fields_of, link_of}
use Rattle.records.specs.Header.{terms_of, count_of, header_cause, headed, heading_of}
use Rattle.records.proofs.Small.{floors-read}
use Rattle.headings.specs.Tests.{cause_in, heading_in}

module _ (L : Layout) (s : List ℕ) where
  abbrev own : Fields
  own = fields_of L (record_at L s 0)

  cause-own : cause_in L s own ≡ header_cause L s
  unfolding header_cause
  cause-own = refl

  heading-own : Bytes s → headed (header_cause L s) (heading_in L own) ≡ heading_of L s
  heading-own b =
      ap (λ (z : Floors). headed (header_cause L s)
      (record {
        terms = record { objective = record { p = to_z w16 own.a; q = to_z w16 own.b }; floors = z };
        count = own.label;
        link = own.link;
      })) (floors-read L s b)

  -- what the header says by its bytes, of one that is turned back too
  abbrev pub stated : Heading
  stated = record { terms = terms_of L s; count = count_of L s; link = link_of L (record_at L s 0) }

  -- what is made of the fields that are read, with the cause that they have
  module _ (f : Fields) (e : f ≡ own) (r : Option Cause) (q : r ≡ cause_in L s f) where
    cause-read : header_cause L s ≡ r
    cause-read = sym (q ∙ ap (cause_in L s) e ∙ cause-own)

    pub turned-back : (cause : Cause) → r ≡ Some cause → Err (record { cause = cause; heading = stated }) ≡ heading_of L s
    turned-back cause is = ap (λ (o : Option Cause). headed o stated) (sym (cause-read ∙ is))

    pub says : (o : Option Cause) (h : Heading) → Bytes s → r ≡ o → h ≡ heading_in L f → headed o h ≡ heading_of L s
    says o h b is m =
        ap (headed o) (m ∙ ap (heading_in L) e)
        ∙ ap (λ (o : Option Cause). headed o (heading_in L own)) (sym (cause-read ∙ is))
        ∙ heading-own b
