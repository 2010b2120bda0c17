-- `packing::header_bytes` meets its contract: p, q and the floors as they stand, and the count of the rules.
use mathlib.Core.Path.{subst, ap, ◌∙◌}
use mathlib.Core.Bool.{cond}
use mir.Syntax.{w16}
use mir.Val.{Fits}
use Rattle.records.specs.Encoded.{Encoded}
use Rattle.records.specs.Number.{Bytes}
use Rattle.packing.proofs.Written.{header-written}
use borrow.Author.Rules.{rules}
use Rattle.packing.proofs.header_bytes.Goals as goal

pub returns : goal.returns
returns c =
    let f = c.fields_at-f.result in
    let fa : Fits w16 f.a = search rules in
    let fb : Fits w16 f.b = search rules in
    header-written c.args.book.now.layout c.record_bytes.result c.args.book.now.bytes c.args.link
    c.args.n c.tail_of.result f (subst (λ (b : Encoded). Bytes b.bytes) c.book.view_is c.book.invariant) fa fb
    c.fields_at-f.ensures (c.tail_of.ensures ∙ ap (λ (b : Encoded). cond b.layout.floors f.c 0) c.book.view_is) c.record_bytes.ensures
