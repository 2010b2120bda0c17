-- `checking::sums::scaled` meets its contract: a sum that is scale times a part.
use mathlib.Core.Path.{◌∙◌}
use Rattle.lp.specs.Document.{same}
use Rattle.slip.proofs.Sizes.{unread, scaled_read}
use Rattle.checking.proofs.sums.scaled.Goals as goal

pub returns : goal.returns
returns c =
    c.same.ensures
    ∙ (λ i. same (unread {z = c.args.total} c.ranges.total.sfits i) (scaled_read c.requires i))
