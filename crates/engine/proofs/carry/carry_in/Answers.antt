-- `engine::carry::carry_in` meets its contract: the walk from some rule on, with the ring carried along.
use mathlib.Core.Path.{refl, ◌∙◌}
use native.Mathlib.Omega.{arith}
use Rattle.engine.proofs.Walks.{walked-room, walked_step, walked_stop, answering, walked_end}
use Rattle.engine.proofs.Carried.{carrying-walked, carry_growing, carry_advancing}
use Rattle.engine.proofs.carry.carry_in.Goals as goal

pub size-size-requires : goal.size-size-requires
size-size-requires c = c.requires.carrying.walking.floors-small

pub overflow_add-end : goal.overflow_add-end
overflow_add-end c = omega (arith, c.requires.carrying.few)

pub grow-held-requires : goal.grow-held-requires
grow-held-requires c =
    carry_growing c.requires.carrying c.requires.room c.size-size.ensures

pub loop-k-init : goal.loop-k-init
loop-k-init c = (λ begun v. v, c.grow-held.ensures.holding, refl)

pub entry-h-requires : goal.entry-h-requires
entry-h-requires c =
    let s = c.requires.carrying in
    walked-room s.walking (c.loop-k.invariant.0 _ (carrying-walked s)) c.loop-k-test.true

pub advance-next-requires : goal.advance-next-requires
advance-next-requires c =
    let s = c.requires.carrying in
    carry_advancing s (c.loop-k.invariant.0 _ (carrying-walked s))
    c.loop-k-test.true c.entry-h.ensures
    c.rule_in_range.ensures
    c.if-rule_in_range.true c.size-size.ensures
    c.loop-k.invariant.1

pub loop-k-preserved : goal.loop-k-preserved
loop-k-preserved c =
    let s = c.requires.carrying in
    let u = c.advance-next.ensures in (
      λ begun v.
          walked_step s.walking
          (c.loop-k.invariant.0 begun v)
          c.loop-k-test.true
          c.entry-h.ensures
          c.rule_in_range.ensures
          c.if-rule_in_range.true refl u.walk,
      u.holding,
      u.same ∙ c.loop-k.invariant.2,
    )

pub shape_of-ring-else-rule_in_range : goal.shape_of-ring-else-rule_in_range
shape_of-ring-else-rule_in_range c =
    c.loop-k.invariant.2 ∙ c.grow-held.ensures.same

pub returns-else-rule_in_range : goal.returns-else-rule_in_range
returns-else-rule_in_range c =
    let s = c.requires.carrying in
    walked_stop s.walking (c.loop-k.invariant.0 _ (carrying-walked s))
    c.loop-k-test.true c.entry-h.ensures
    c.rule_in_range.ensures c.if-rule_in_range.false

pub solution-requires : goal.solution-requires
solution-requires c =
    let s = c.requires.carrying in
    answering s.walking (c.loop-k.invariant.0 _ (carrying-walked s))

pub shape_of-ring : goal.shape_of-ring
shape_of-ring c = c.loop-k.invariant.2 ∙ c.grow-held.ensures.same

pub returns : goal.returns
returns c =
    let s = c.requires.carrying in
    walked_end s.walking (c.loop-k.invariant.0 _ (carrying-walked s)) c.loop-k-test.false refl c.solution.ensures
