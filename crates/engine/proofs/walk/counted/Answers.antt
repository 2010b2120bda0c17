-- `engine::walk::counted` meets its contract: one more, if so.
use mathlib.Core.Path.{sym, ◌∙◌, ap}
use Prim.Native.Nat.{◌+◌}
use native.Mathlib.Nat.{add-zero}
use Rattle.lp.specs.Prefixes.{one_if}
use Rattle.engine.proofs.walk.counted.Goals as goal

pub returns-then-so : goal.returns-then-so
returns-then-so c = ap (λ b. c.args.count + one_if b) (sym c.if-so.true)

pub returns-else-so : goal.returns-else-so
returns-else-so c = sym (add-zero c.args.count) ∙ ap (λ b. c.args.count + one_if b) (sym c.if-so.false)
