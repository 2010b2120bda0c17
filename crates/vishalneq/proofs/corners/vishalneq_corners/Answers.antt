-- What the corners come to fits into one number.
use mathlib.Core.Path.{sym, ◌∙◌}
use Rattle.vishalneq.proofs.Counted.{corners-fit}
use Rattle.vishalneq.proofs.corners.vishalneq_corners.Goals as goal

pub overflow_add-result : goal.overflow_add-result
overflow_add-result c =
    record { fits = corners-fit _ _ _ (sym c.in-Err.is ∙ c.corners.ensures.answer) c.told.type_inv c.told.ensures }
