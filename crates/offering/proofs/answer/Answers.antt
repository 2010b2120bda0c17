-- `offering::answer` meets its contract: what turns the objectives back, or the answers from what was listed.
use mathlib.Core.Path.{sym, ◌∙◌}
use Rattle.offering.proofs.Answering.{answers-declined, filling, answers-done}
use Rattle.offering.proofs.answer.Goals as goal

pub returns-in-Some : goal.returns-in-Some
returns-in-Some c =
    let a = c.args in
    answers-declined a.floors a.run.now a.order.now a.ring.now a.corners.now a.objectives.now a.out.now _
    (sym c.cause.ensures ∙ c.in-Some.is)

pub offer_all-requires : goal.offer_all-requires
offer_all-requires c =
    let a = c.args in
    let lay = c.lay_sampled-listed in
    filling a.floors a.run.now a.order.now a.ring.now a.corners.now a.objectives.now a.out.now
    (sym c.cause.ensures ∙ c.in_default.is) lay.ensures lay.auto.corners

pub returns : goal.returns
returns c =
    let a = c.args in
    let lay = c.lay_sampled-listed in
    answers-done a.floors a.run.now a.order.now a.ring.now a.corners.now a.objectives.now a.out.now
    (sym c.cause.ensures ∙ c.in_default.is) lay.ensures lay.auto.corners c.offer_all.ensures
