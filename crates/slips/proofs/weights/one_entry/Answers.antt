-- `slips::weights::one_entry` meets its contract.
use mathlib.Core.Path.{◌∙◌}
use lib.IntN.{pos}
use Rattle.slip.proofs.Sizes.{unread}
use Rattle.slips.specs.Weights.{weights_with}
use Rattle.slips.proofs.weights.one_entry.Goals as goal

pub returns : goal.returns
returns c =
    let s = c.args.s in
    let scale = unread c.dot.type_inv ∙ c.dot.ensures in
    let weight = unread c.dot-2.type_inv ∙ c.dot-2.ensures in
    let code = unread {z = s.code} c.struct_told-1.given.0.1 in
    λ i. weights_with (scale i) (pos 1) (code i) (weight i) (pos 0) (pos 0) (pos 0) (pos 0)
