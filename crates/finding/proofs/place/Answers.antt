-- `finding::place` meets its contract: the first place of the wanted number.
use mathlib.Core.Path.{sym, ◌∙◌}
use Rattle.finding.proofs.Places.{place-wide, place-stands, place-ends}
use Rattle.finding.proofs.place.Goals as goal

pub returns-in_err-wanted : goal.returns-in_err-wanted
returns-in_err-wanted c =
    c.from_residual.ensures
    ∙ place-wide c.try_from.result c.args.wanted c.try_from.ensures c.args.records.now (λ k. (c.type_inv.records k).fits) (sym c.ok.ensures.value ∙ c.in_err-wanted.was)

pub returns-then-records-i : goal.returns-then-records-i
returns-then-records-i c =
    place-stands c.try_from.result c.args.wanted c.try_from.ensures (sym c.ok.ensures.value ∙ c.in_ok-wanted.was)
    c.loop-i.invariant c.loop-i-test.true c.if-records-i.true

pub returns : goal.returns
returns c =
    place-ends c.try_from.result c.args.wanted c.try_from.ensures (sym c.ok.ensures.value ∙ c.in_ok-wanted.was)
    c.loop-i.invariant c.loop-i-test.false
