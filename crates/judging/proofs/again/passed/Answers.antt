-- `judging::again::passed` meets its contract: after so many turns it stands at the record that as many links lead to, and has compared
-- those on the way.
use native.Mathlib.Omega.{arith}
use mathlib.Core.Path.{◌≡◌, refl, ap, ◌∙◌}
use Rattle.records.specs.declared.fields.Fields.{Fields}
use Rattle.book.specs.Judging.{record_after, is_passed}
use Rattle.book.proofs.Leading.{after_more, passed-more}
use Rattle.judging.proofs.again.passed.Goals as goal

pub loop-init : goal.loop-init
unfolding record_after is_passed
loop-init c = (refl, refl)

pub loop-preserved : goal.loop-preserved
loop-preserved c =
    let l = c.loop in
    let a = c.args in
    let link = ap (λ (f : Fields). f.link) c.fields_at-at.ensures in (
      after_more a.book.now.layout a.book.now.bytes l.counter l.invariant.0 link,
      passed-more a.book.now.layout a.book.now.bytes l.counter l.invariant.0 link a.index l.invariant.1,
    )

pub returns : goal.returns
returns c =
    let a = c.args in
    let l = c.loop in
    let end : l.counter ≡ a.n = omega arith in
    l.invariant.1 ∙ ap (λ k. is_passed a.book.now.layout a.book.now.bytes k a.index) end
