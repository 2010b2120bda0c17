-- `engine::optimum::moved` meets its contract.
use mathlib.Core.Path.{sym, ◌∙◌, ap, subst}
use Rattle.lp.specs.Outcome.{gain_order}
use Rattle.lp.specs.Range.{SmallConstraint}
use Rattle.model.specs.Step.{found_point}
use Rattle.model.specs.Bounds.{SmallRay}
use Rattle.model.proofs.Bounds.{direction-small, facing-small}
use Rattle.engine.specs.Entries.{entries}
use Rattle.engine.proofs.Steps.{faced-tightest}
use Rattle.engine.proofs.optimum.moved.Goals as goal

pub upward-side-requires : goal.upward-side-requires
upward-side-requires c =
    let h = c.requires in
    record {
      objective = h.objective;
      tie = h.restarting.tie;
      ray = subst SmallRay (sym c.direction.ensures)
          (direction-small h.restarting.h-small);
    }

pub tightest-requires : goal.tightest-requires
tightest-requires c =
    let h = c.requires.restarting in
    record {
      entries = h.entries;
      line_small = subst SmallConstraint (sym c.facing.ensures)
          (facing-small c.upward-side.result h.h-small);
    }

pub returns-in-None : goal.returns-in-None
returns-in-None c =
    let a = c.args in
    sym (ap found_point (sym (faced-tightest (gain_order a.order.now.objective a.order.now.tie) (entries a.entries.now 0 a.n) a.h
    c.direction.ensures c.upward-side.ensures
    c.facing.ensures c.tightest.ensures) ∙ c.in-None.is))

pub returns-in-Some : goal.returns-in-Some
returns-in-Some c =
    let a = c.args in
    c.reduce.ensures
    ∙ sym (ap found_point (sym
    (faced-tightest (gain_order a.order.now.objective a.order.now.tie) (entries a.entries.now 0 a.n) a.h
    c.direction.ensures
    c.upward-side.ensures
    c.facing.ensures c.tightest.ensures)
    ∙ c.in-Some.is))
