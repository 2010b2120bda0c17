-- `slips::weights::conflict_weights` meets its contract.
use mathlib.Core.Path.{◌∙◌}
use lib.IntN.{pos}
use Rattle.slip.proofs.Sizes.{unread}
use Rattle.slips.specs.Weights.{weights_with}
use Rattle.slips.proofs.Chosen.{natural}
use Rattle.slips.proofs.weights.conflict_weights.Goals as goal

pub returns : goal.returns
returns c =
    let k = c.args.k in
    let p = c.requires in
    let h = c.struct_told-1.given in
    let n = unread c.used.type_inv ∙ c.used.ensures in
    let w₁ = unread {z = k.first_weight} h.1.0.1 in
    let w₂ = unread {z = k.second_weight} h.1.1.1.0.1 in
    let w₃ = unread {z = k.third_weight} h.1.1.1.1.1.0.1 in
    λ i. weights_with (pos 0) (n i) (natural p.first i) (w₁ i) (natural p.second i) (w₂ i) (natural p.third i) (w₃ i)
