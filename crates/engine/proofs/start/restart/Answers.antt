-- `engine::start::restart` meets its contract.
use mathlib.Core.Path.{sym, ◌∙◌, subst}
use Rattle.model.specs.Step.{restart}
use Rattle.model.specs.Bounds.{SmallRay}
use Rattle.lp.specs.Range.{SmallConstraint}
use Rattle.model.proofs.Bounds.{direction-small, facing-small}
use Rattle.engine.specs.Entries.{entries}
use Rattle.engine.proofs.Passes.{along-small}
use Rattle.engine.proofs.Steps.{restarted}
use Rattle.engine.proofs.start.restart.Goals as goal

pub returns-then-is_level : goal.returns-then-is_level
returns-then-is_level c = rw (sym c.is_level.ensures ∙ c.if-is_level.true, c.alone.ensures, restart)

pub tie_upward-side-requires : goal.tie_upward-side-requires
tie_upward-side-requires c =
    record {
      tie = c.requires.tie;
      ray = subst SmallRay (sym c.direction.ensures)
          (direction-small c.requires.h-small);
    }

pub tightest-found-requires : goal.tightest-found-requires
tightest-found-requires c =
    record {
      entries = c.requires.entries;
      line_small = subst SmallConstraint (sym c.facing.ensures)
          (facing-small c.tie_upward-side.result c.requires.h-small);
    }

pub resettled-requires : goal.resettled-requires
resettled-requires c =
    let h = c.requires in
    let line = subst SmallConstraint (sym c.facing.ensures)
    (facing-small c.tie_upward-side.result h.h-small) in
    record {
      entries = h.entries;
      h-small = h.h-small;
      found-small = along-small (record { entries = h.entries; line_small = line }) c.tightest-found.ensures;
    }

pub returns : goal.returns
returns c =
    let a = c.args in
    restarted a.tie (entries a.entries.now 0 a.n) a.n a.h
    (sym c.is_level.ensures ∙ c.if-is_level.false)
    c.direction.ensures c.tie_upward-side.ensures
    c.facing.ensures c.tightest-found.ensures c.resettled.ensures
