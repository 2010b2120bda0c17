-- `engine::between::start_at` meets its contract: the start point stays, or moves to an end of the new edge, or a pass is made.
use mathlib.Core.Path.{refl, sym, ◌∙◌, ap, subst}
use lib.IntN.{pos}
use lib.Signed.{lt_z}
use Rattle.fraction.proofs.Quotients.{unread}
use Rattle.lp.specs.Outcome.{tie_order}
use Rattle.lp.specs.Range.{SmallConstraint}
use Rattle.model.specs.Step.{restart}
use Rattle.model.specs.Bounds.{SmallRay}
use Rattle.model.proofs.Bounds.{direction-small, facing-small}
use Rattle.engine.specs.Entries.{entries}
use Rattle.engine.proofs.Passes.{along-small}
use Rattle.engine.proofs.Steps.{restarted}
use Rattle.engine.specs.Carrying.{Between}
use Rattle.engine.proofs.Insertions.{given}
use Rattle.engine.proofs.NewEdges.{between_ends, restarted-there}
use Rattle.engine.proofs.between.start_at.Goals as goal

pub returns-then-kept : goal.returns-then-kept
returns-then-kept c = rw c.if-kept.true

pub returns-then-is_level : goal.returns-then-is_level
returns-then-is_level c =
    rw (
      c.if-kept.false,
      sym c.is_level.ensures
          ∙ c.if-is_level.true,
      c.alone.ensures,
      restart,
    )

pub tie_upward-side-requires : goal.tie_upward-side-requires
tie_upward-side-requires c =
    let s = c.requires.restarting in
    record {
      tie = s.tie;
      ray = subst SmallRay (sym c.direction.ensures)
          (direction-small s.h-small);
    }

pub end_point-p-requires : goal.end_point-p-requires
end_point-p-requires c =
    let a = c.args in
    between_ends c.requires.restarting.h-small (given (Between a.entries.now a.n a.h) c.in-Some.is c.requires.between)

pub returns-then-p-gt0 : goal.returns-then-p-gt0
returns-then-p-gt0 c =
    let a = c.args in
    let d = c.end_point-p.result.d in
    let h = c.struct_told-1.given.1.1.0.1 in
    rw c.if-kept.false
    (restarted-there (given (Between a.entries.now a.n a.h) c.in-Some.is c.requires.between) (tie_order a.tie)
    c.direction.ensures
    c.tie_upward-side.ensures
    c.end_point-p.ensures (sym (ap (lt_z (pos 0)) (unread {z = d} h)) ∙ c.if-p-gt0.true)
    c.reduce.ensures a.tie refl)

pub tightest-found-requires : goal.tightest-found-requires
tightest-found-requires c =
    let s = c.requires.restarting in
    record {
      entries = s.entries;
      line_small = subst SmallConstraint (sym c.facing.ensures)
          (facing-small c.tie_upward-side.result s.h-small);
    }

pub resettled-requires : goal.resettled-requires
resettled-requires c =
    let s = c.requires.restarting in
    let line = subst SmallConstraint (sym c.facing.ensures)
    (facing-small c.tie_upward-side.result s.h-small) in
    record {
      entries = s.entries;
      h-small = s.h-small;
      found-small = along-small (record { entries = s.entries; line_small = line }) c.tightest-found.ensures;
    }

pub returns : goal.returns
returns c =
    let a = c.args in
    rw c.if-kept.false
    (restarted a.tie (entries a.entries.now 0 a.n) a.n a.h
    (sym c.is_level.ensures
    ∙ c.if-is_level.false)
    c.direction.ensures c.tie_upward-side.ensures
    c.facing.ensures c.tightest-found.ensures c.resettled.ensures)
