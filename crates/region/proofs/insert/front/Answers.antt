-- `region::insert::front` meets its contract: the edges at the front are dropped whose later corner is broken.
use mathlib.Core.Path.{sym, ◌∙◌, subst}
use Prim.Native.Nat.{ℕ}
use native.Mathlib.Omega.{arith}
use Rattle.engine.specs.Entries.{entry}
use Rattle.engine.specs.Rings.{Dropped}
use Rattle.engine.proofs.Dropping.{front-start, front-stop, front-step, front-end}
use Rattle.region.proofs.Loops.{front-pair}
use Rattle.region.proofs.insert.front.Goals as goal

pub loop-i-init : goal.loop-i-init
loop-i-init c = front-start c.requires.some

pub overflow_sub-last : goal.overflow_sub-last
overflow_sub-last c = omega (arith, c.requires.some)

pub overflow_add-at : goal.overflow_add-at
overflow_add-at c = omega (arith, c.requires.ring.fits)

pub overflow_add-at-in-loop-i : goal.overflow_add-at-in-loop-i
overflow_add-at-in-loop-i c = omega (arith, c.requires.ring.fits)

pub corner_keeps-requires : goal.corner_keeps-requires
corner_keeps-requires c = front-pair c.requires c.loop-i.i (omega arith)

pub returns-then-corner_keeps : goal.returns-then-corner_keeps
returns-then-corner_keeps c =
    front-stop c.loop-i.invariant
    (omega arith) (sym c.corner_keeps.ensures ∙ c.if-corner_keeps.true)

pub loop-i-preserved : goal.loop-i-preserved
loop-i-preserved c =
    front-step c.loop-i.invariant
    (omega arith) (sym c.corner_keeps.ensures ∙ c.if-corner_keeps.false)

pub returns : goal.returns
returns c =
    let a = c.args in
    subst (λ (i : ℕ). Dropped (entry a.run.now) a.ring.now a.arc.lo a.arc.n a.h i) (omega arith)
    (front-end c.loop-i.invariant (omega arith))
