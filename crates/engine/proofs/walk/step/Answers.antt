-- `engine::walk::step` meets its contract: what the walk holds after one more constraint h, at index n.
use mathlib.Core.Path.{sym, subst}
use Rattle.model.specs.Bounds.{SmallCone}
use Rattle.model.proofs.Bounds.{narrow-small}
use Rattle.engine.specs.Entries.{entries}
use Rattle.engine.proofs.Steps.{state_parts, step-ended, step-moved, step_failed}
use Rattle.engine.proofs.walk.step.Goals as goal

pub returns-in_default : goal.returns-in_default
returns-in_default c =
    step-ended c.args.order.now.tie c.args.order.now.objective
    (entries c.args.entries.now 0 c.args.n) c.args.n
    c.args.h c.args.walk c.in_default.is

pub breaks-broken-requires : goal.breaks-broken-requires
breaks-broken-requires c =
    record { h-small = c.requires.moving.restarting.h-small; best = (state_parts c.requires.state_small c.in-Going.is).2 }

pub start-requires : goal.start-requires
start-requires c = c.requires.moving.restarting

pub improved-next-requires : goal.improved-next-requires
improved-next-requires c =
    let h = c.requires in
    let s = state_parts h.state_small
    c.in-Going.is in
    record {
      moving = h.moving;
      rays =
          subst SmallCone (sym c.narrow-wedge.ensures)
          (narrow-small h.moving.restarting.h-small
          c.in-Going.cone s.1);
      best = s.2;
      asked = c.breaks-broken.ensures;
    }

pub returns-in-Ok : goal.returns-in-Ok
returns-in-Ok c =
    step-moved c.args.order.now.tie c.args.order.now.objective (entries c.args.entries.now 0 c.args.n) c.args.n c.args.h
    c.args.walk c.in-Going.is
    c.keeps-kept.ensures
    c.start.ensures
    c.breaks-broken.ensures
    c.counted-moves.ensures
    c.counted-restarts.ensures c.in-Ok.is
    c.narrow-wedge.ensures
    c.improved-next.ensures c.going.ensures

pub returns-in-Err : goal.returns-in-Err
returns-in-Err c =
    step_failed c.args.order.now.tie c.args.order.now.objective (entries c.args.entries.now 0 c.args.n) c.args.n c.args.h
    c.args.walk c.in-Going.is
    c.keeps-kept.ensures c.start.ensures
    c.breaks-broken.ensures
    c.counted-moves.ensures c.counted-restarts.ensures
    c.in-Err.is
