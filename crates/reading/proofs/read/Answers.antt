-- `reading::read` meets its contract: the header's cause, or the walk of a book of the version that was found.
use mathlib.Core.Path.{◌≡◌, sym, ap, ◌∙◌}
use mathlib.Core.List.{List}
use Prim.Native.Nat.{ℕ}
use Rattle.std.specs.Prelude.{Ok}
use Rattle.records.specs.declared.Heading.{Heading}
use Rattle.records.specs.declared.Version.{Version}
use Rattle.records.specs.Encoded.{Encoded, encoded}
use Rattle.records.specs.Layout.{layout_of}
use Rattle.records.specs.Header.{heading_of}
use Rattle.book.specs.Judging.{Headed}
use Rattle.book.proofs.Underway.{refused-at-once}
use Rattle.reading.proofs.read.Goals as goal

-- a header that was read of a book is that of the book of the version that was found
headed : {b : Encoded} {v w : Version} {s : List ℕ} {h : Heading} →
    w ≡ v →
    encoded w s ≡ b →
    heading_of b.layout b.bytes ≡ Ok h →
    Headed (layout_of v) s h
headed {s = s} found same read =
    let book = ap (λ u. encoded u s) (sym found) ∙ same in
    record { heading = ap (λ (b : Encoded). heading_of b.layout b.bytes) book ∙ read }

pub walk-requires : goal.walk-requires
walk-requires c = headed c.in-One.is c.book.view_is (sym c.heading_of.ensures ∙ c.in-Ok.is)

pub walk-requires-in-Two : goal.walk-requires-in-Two
walk-requires-in-Two c = headed c.in-Two.is c.book.view_is (sym c.heading_of.ensures ∙ c.in-Ok.is)

pub returns-in-Err : goal.returns-in-Err
returns-in-Err c =
    let a = c.args in
    refused-at-once a.book.now.layout a.book.now.bytes a.records.now a.rules.now (sym c.heading_of.ensures ∙ c.in-Err.is) c.of.ensures
