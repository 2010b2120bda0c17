-- `engine::between::step_at` meets its contract: what the walk holds after one more constraint h, at index n, which has cut the ring.
use mathlib.Core.Path.{sym, subst}
use native.Mathlib.Omega.{arith}
use Rattle.model.specs.Bounds.{SmallCone}
use Rattle.model.proofs.Bounds.{narrow-small}
use Rattle.engine.specs.Entries.{entries}
use Rattle.engine.proofs.Steps.{state_parts, step-ended, step-moved, step_failed}
use Rattle.engine.proofs.between.step_at.Goals as goal

pub returns-in_default : goal.returns-in_default
returns-in_default c =
    let a = c.args in
    step-ended a.order.now.tie a.order.now.objective (entries a.entries.now 0 a.n) a.n a.h a.walk c.in_default.is

pub breaks-broken-requires : goal.breaks-broken-requires
breaks-broken-requires c =
    let h = c.requires.stepping in
    record { h-small = h.moving.restarting.h-small; best = (state_parts h.state_small c.in-Going.is).2 }

pub start_at-requires : goal.start_at-requires
start_at-requires c =
    let p = c.requires in
    record { restarting = p.stepping.moving.restarting; between = p.between }

pub improved_at-next-requires : goal.improved_at-next-requires
improved_at-next-requires c =
    let p = c.requires in
    let h = p.stepping in
    let s = state_parts h.state_small
    c.in-Going.is in
    record {
      improving =
          record {
            moving = h.moving;
            rays =
                subst SmallCone (sym c.narrow-wedge.ensures)
                (narrow-small h.moving.restarting.h-small
                c.in-Going.cone s.1);
            best = s.2;
            asked = c.breaks-broken.ensures;
          };
      between = p.between;
    }

pub going-requires : goal.going-requires
going-requires c =
    record { room = omega (arith, c.requires.stepping.opened-room, c.ranges.n.fits) }

pub returns-in-Ok : goal.returns-in-Ok
returns-in-Ok c =
    let a = c.args in
    step-moved a.order.now.tie a.order.now.objective (entries a.entries.now 0 a.n) a.n a.h a.walk
    c.in-Going.is
    c.keeps-kept.ensures
    c.start_at.ensures
    c.breaks-broken.ensures
    c.counted-moves.ensures
    c.counted-restarts.ensures
    c.in-Ok.is c.narrow-wedge.ensures c.improved_at-next.ensures
    c.going.ensures

pub returns-in-Err : goal.returns-in-Err
returns-in-Err c =
    let a = c.args in
    step_failed a.order.now.tie a.order.now.objective (entries a.entries.now 0 a.n) a.n a.h a.walk
    c.in-Going.is
    c.keeps-kept.ensures c.start_at.ensures
    c.breaks-broken.ensures
    c.counted-moves.ensures c.counted-restarts.ensures
    c.in-Err.is
