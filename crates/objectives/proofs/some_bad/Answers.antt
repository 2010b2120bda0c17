-- `objectives::some_bad` meets its contract: after i turns none of the first i is out of its range.
use Prim.Native.Nat.{◌/◌}
use mathlib.Core.Path.{sym, ap, ◌∙◌}
use lib.ListN.{length}
use Rattle.objectives.specs.Objectives.{is_bad}
use Rattle.objectives.proofs.Sound.{bad-later}
use Rattle.objectives.proofs.some_bad.Goals as goal

pub loop-i-preserved : goal.loop-i-preserved
loop-i-preserved c =
    let s = c.args.bytes.now in
    sym (bad-later s c.loop-i.i (length s / 4) c.loop-i-test.true (sym (c.is_bad.ensures ∙ ap is_bad c.whole.ensures) ∙ c.if-is_bad.false))
    ∙ c.loop-i.invariant
