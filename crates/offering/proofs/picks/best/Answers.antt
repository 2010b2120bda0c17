-- `offering::picks::best` meets its contract: one pass over the listed corners.
use mathlib.Core.Path.{sym, subst}
use native.Mathlib.Omega.{arith}
use Rattle.lp.specs.Outcome.{gain_order}
use Rattle.lp.specs.Document as document
use Rattle.model.specs.Bounds.{SmallPoint}
use Rattle.offering.proofs.Passes.{point-room, picked-start, picked-step, picked-end, none-picked}
use Rattle.offering.proofs.picks.best.Goals as goal

pub returns-then-count-eq0 : goal.returns-then-count-eq0
returns-then-count-eq0 c =
    let a = c.args in
    none-picked (gain_order a.f document.tie) a.corners.now c.if-count-eq0.true

pub corner-v-requires : goal.corner-v-requires
corner-v-requires c = point-room c.requires.points (omega (arith, c.if-count-eq0.false))

pub loop-i-init : goal.loop-i-init
loop-i-init c =
    picked-start (gain_order c.args.f document.tie) c.requires.points (omega (arith, c.if-count-eq0.false)) c.corner-v.ensures

pub corner-requires : goal.corner-requires
corner-requires c = point-room c.requires.points c.loop-i-test.true

pub chosen-v-requires : goal.chosen-v-requires
chosen-v-requires c =
    let l = c.loop-i in
    record {
      functional = c.requires.functional;
      points =
          record {
            first = subst SmallPoint (sym c.corner.ensures) (c.requires.points.small l.i c.loop-i-test.true);
            second = l.invariant.small;
          };
    }

pub loop-i-preserved : goal.loop-i-preserved
loop-i-preserved c =
    picked-step (gain_order c.args.f document.tie) c.loop-i.invariant c.requires.points
    c.loop-i-test.true c.corner.ensures c.chosen-v.ensures

pub returns : goal.returns
returns c =
    picked-end (gain_order c.args.f document.tie) c.loop-i.invariant c.loop-i-test.false
