-- `engine::between::moved_to` meets its contract: the optimum moves to an end of the new edge, or a pass is made.
use mathlib.Core.Path.{sym, ◌∙◌, ap, subst}
use lib.IntN.{pos}
use lib.Signed.{lt_z}
use Rattle.fraction.proofs.Quotients.{unread}
use Rattle.lp.specs.Outcome.{gain_order}
use Rattle.lp.specs.Range.{SmallConstraint}
use Rattle.model.specs.Step.{found_point}
use Rattle.model.specs.Bounds.{SmallRay}
use Rattle.model.proofs.Bounds.{direction-small, facing-small}
use Rattle.engine.specs.Entries.{entries}
use Rattle.engine.proofs.Steps.{faced-tightest}
use Rattle.engine.specs.Carrying.{Between}
use Rattle.engine.proofs.Insertions.{given}
use Rattle.engine.proofs.NewEdges.{between_ends, moved-there}
use Rattle.engine.proofs.between.moved_to.Goals as goal

pub upward-side-requires : goal.upward-side-requires
upward-side-requires c =
    let s = c.requires.moving in
    record {
      objective = s.objective;
      tie = s.restarting.tie;
      ray = subst SmallRay (sym c.direction.ensures)
          (direction-small s.restarting.h-small);
    }

pub end_point-p-requires : goal.end_point-p-requires
end_point-p-requires c =
    let a = c.args in
    between_ends c.requires.moving.restarting.h-small (given (Between a.entries.now a.n a.h) c.in-Some.is c.requires.between)

pub returns-then-p-gt0 : goal.returns-then-p-gt0
returns-then-p-gt0 c =
    let a = c.args in
    let d = c.end_point-p.result.d in
    let h = c.struct_told-1.given.1.1.0.1 in
    moved-there (given (Between a.entries.now a.n a.h) c.in-Some.is c.requires.between) (gain_order a.order.now.objective a.order.now.tie)
    c.direction.ensures
    c.upward-side.ensures
    c.end_point-p.ensures (sym (ap (lt_z (pos 0)) (unread {z = d} h)) ∙ c.if-p-gt0.true)
    c.reduce.ensures

pub tightest-requires : goal.tightest-requires
tightest-requires c =
    let s = c.requires.moving.restarting in
    record {
      entries = s.entries;
      line_small = subst SmallConstraint (sym c.facing.ensures)
          (facing-small c.upward-side.result s.h-small);
    }

pub returns-in-None : goal.returns-in-None
returns-in-None c =
    let a = c.args in
    sym (ap found_point (sym (faced-tightest (gain_order a.order.now.objective a.order.now.tie) (entries a.entries.now 0 a.n) a.h
    c.direction.ensures c.upward-side.ensures
    c.facing.ensures c.tightest.ensures) ∙ c.in-None.is))

pub returns-in-Some-tightest : goal.returns-in-Some-tightest
returns-in-Some-tightest c =
    let a = c.args in
    c.reduce-in-Some-tightest.ensures
    ∙ sym (ap found_point (sym (faced-tightest (gain_order a.order.now.objective a.order.now.tie) (entries a.entries.now 0 a.n) a.h
    c.direction.ensures
    c.upward-side.ensures
    c.facing.ensures c.tightest.ensures)
    ∙ c.in-Some-tightest.is))
