-- `running::run` meets its contract: the book is read into the lent runs, and the rules of one that is not refused are planned.
use mathlib.Core.Path.{ap, ◌∙◌}
use native.Mathlib.Nat.{min_comm}
use Rattle.std.specs.Prelude.{unwrap_or}
use Rattle.std.proofs.lemmas.Result.{err_from_is_err_and}
use Rattle.running.proofs.Runs.{refused-ran, solved-ran}
use Rattle.running.proofs.run.Goals as goal

pub returns-in_err-head : goal.returns-in_err-head
returns-in_err-head c =
    let p = err_from_is_err_and c.from_residual.result c.from_residual.ensures.1 in
    rw (p.1, p.2)
    (refused-ran _ _ _ _ c.args.entries.now c.min-floors.result (c.min-floors.ensures ∙ min_comm _ 6)
    c.read.result _ _ c.read.ensures c.in_err-head.was)

pub returns : goal.returns
returns c =
    solved-ran _ _ _ _ c.args.entries.now c.min-floors.result (c.min-floors.ensures ∙ min_comm _ 6)
    c.read.result _ _ c.read.ensures c.in_ok-head.was
    c.min.ensures c.solve-solved.ensures
    (c.unwrap_or.ensures ∙ ap (unwrap_or c.solve-solved.result) c.no_solution.ensures)
