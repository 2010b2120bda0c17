-- `engine::walk::going` meets its contract.
use Rattle.std.specs.Prelude.{Option}
use mathlib.Core.Path.{sym, ◌∙◌, ap}
use Prim.Native.Nat.{ℕ, ◌+◌}
use native.Mathlib.Nat.{add-zero}
use Rattle.lp.specs.Prefixes.{one_if}
use Rattle.lp.specs.declared.Point.{Point}
use Rattle.model.specs.declared.State.TheVariants.{Going}
use Rattle.model.specs.Step.{is_open}
use Rattle.engine.proofs.walk.going.Goals as goal

pub returns-in-None : goal.returns-in-None
returns-in-None c =
    let a = c.args in
    ap (λ (b : Option Point). record {
      state = Going a.s a.cone a.best;
      moves = a.moves;
      opened = a.opened
          + one_if (is_open b);
      restarts = a.restarts;
    })
    (sym c.in-None.is)

pub returns-in-Some : goal.returns-in-Some
returns-in-Some c =
    let a = c.args in
    ap (λ (n : ℕ). record { state = Going a.s a.cone a.best; moves = a.moves; opened = n; restarts = a.restarts })
    (sym (add-zero a.opened) ∙ ap (λ (b : Option Point). a.opened + one_if (is_open b)) (sym c.in-Some.is))
