-- `offering::offers::fill` meets its contract: after i turns the first i answers are written (`one_more`).
use native.Mathlib.Omega.{arith}
use Prim.Native.Nat.{◌*◌, ◌/◌}
use mathlib.Core.Path.{◌≡◌, refl, sym, ap, ◌∙◌, subst}
use mathlib.Core.List.{◌++◌}
use lib.ListN.{length, drop}
use lib.Seq.{paste, paste-zero}
use Rattle.lp.specs.Range.{SmallFunctional}
use Rattle.objectives.specs.Objectives.{objectives_of}
use Rattle.offering.specs.Listed.{points_from, offer_in, answers_by}
use Rattle.objectives.proofs.Sound.{objective-there, objective-small, whole-objectives}
use Rattle.offering.proofs.Written.{one_more, all-written}
use Rattle.offering.proofs.Orders.{idle-small, idle-first}
use Rattle.offering.proofs.offers.fill.Goals as goal

pub best-start-requires : goal.best-start-requires
best-start-requires c = record { functional = idle-small; points = c.requires.points }

pub loop-i-init : goal.loop-i-init
loop-i-init c =
    let a = c.args in (
      omega arith,
      refl,
      paste-zero a.out.now 0
          (answers_by (offer_in a.cone (points_from a.corners.now 0 a.count)) (objectives_of a.objectives.now)),
      refl,
      c.best-start.ensures ∙ idle-first (points_from a.corners.now 0 a.count),
      c.requires,
    )

pub offered-offer-requires : goal.offered-offer-requires
offered-offer-requires c =
    let l = c.loop-i in
    let a = c.args in
    let pre = l.invariant.5 in
    record {
      functional =
          subst SmallFunctional
          (sym (c.objective.ensures ∙ objective-there a.objectives.now l.i c.loop-i-test.true))
          (objective-small a.objectives.now pre.sound l.i c.loop-i-test.true);
      rays = pre.rays;
      points = pre.points;
      first = l.invariant.4;
    }

pub overflow_mul-i : goal.overflow_mul-i
overflow_mul-i c =
    let l = c.loop-i in
    omega (arith, l.invariant.5.room, l.invariant.1, c.loop-i-test.true)

pub loop-i-preserved : goal.loop-i-preserved
loop-i-preserved c =
    let l = c.loop-i in
    let a = c.args in
    let offered = c.offered-offer in
    let objective = c.objective in
    let read = objective.ensures
    ∙ objective-there a.objectives.now l.i c.loop-i-test.true in
    let put = c.put_offer in
    let answer = offer_in a.cone (points_from a.corners.now 0 a.count) in
    let pre = l.invariant.5 in (
      omega arith,
      refl,
      one_more answer a.objectives.now a.out.now (length a.objectives.now / 4) l.i
          c.loop-i-test.true
          (omega (arith, pre.room, whole-objectives a.objectives.now pre.sound))
          l.invariant.2 l.invariant.3 (offered.ensures ∙ ap answer read) put.ensures,
      put.auto.out ∙ l.invariant.3,
      l.invariant.4,
      pre,
    )

pub shape_of-out : goal.shape_of-out
shape_of-out c = c.loop-i.invariant.3

pub returns : goal.returns
returns c =
    let l = c.loop-i in
    let a = c.args in
    let answer = offer_in a.cone (points_from a.corners.now 0 a.count) in
    let n = length a.objectives.now / 4 in
    let done : l.i ≡ n = omega (arith, l.invariant.0, l.invariant.1, c.loop-i-test.false) in
    let whole : 32 * n ≡ 8 * length a.objectives.now = omega (arith, whole-objectives a.objectives.now l.invariant.5.sound) in
    l.invariant.2
    ∙ ap (λ k. paste a.out.now 0 (answers_by answer (objectives_of a.objectives.now)) (32 * k)) done
    ∙ all-written answer a.objectives.now a.out.now n
    ∙ ap (λ k. answers_by answer (objectives_of a.objectives.now) ++ drop k a.out.now) whole
