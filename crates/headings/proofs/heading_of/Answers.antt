-- `headings::heading_of` meets its contract: the causes are the book's, and so is what it says.
use mathlib.Core.Path.{subst, ap, ◌∙◌}
use Rattle.std.specs.Prelude.{Some, None}
use Rattle.records.specs.Encoded.{Encoded}
use Rattle.records.specs.Number.{Bytes}
use Rattle.headings.specs.Tests.{heading_in}
use Rattle.headings.proofs.HeaderTests.{says}
use Rattle.headings.proofs.heading_of.Goals as goal

pub returns-in-Some : goal.returns-in-Some
returns-in-Some c =
    let k = c.args.book.now in
    let f = c.fields_at-f.result in
    says k.layout k.bytes f c.fields_at-f.ensures c.cause_in.result c.cause_in.ensures (Some c.in-Some.cause) c.said-heading.result
    (subst (λ (b : Encoded). Bytes b.bytes) c.book.view_is c.book.invariant) c.in-Some.is
    (c.said-heading.ensures ∙ ap (λ (b : Encoded). heading_in b.layout f) c.book.view_is)

pub returns-in-None : goal.returns-in-None
returns-in-None c =
    let k = c.args.book.now in
    let f = c.fields_at-f.result in
    says k.layout k.bytes f c.fields_at-f.ensures c.cause_in.result c.cause_in.ensures None c.said-heading.result
    (subst (λ (b : Encoded). Bytes b.bytes) c.book.view_is c.book.invariant) c.in-None.is
    (c.said-heading.ensures ∙ ap (λ (b : Encoded). heading_in b.layout f) c.book.view_is)
