-- `slips::weights::two_entries` meets its contract.
use mathlib.Core.Path.{◌≡◌, sym, ◌∙◌}
use mathlib.Core.Bool.{true, false}
use lib.IntN.{pos}
use lib.Signed.{lt_z}
use Rattle.slip.proofs.Sizes.{unread}
use Rattle.slips.specs.Weights.{weights_with}
use Rattle.slips.proofs.Chosen.{two-rising, two-falling}
use Rattle.slips.proofs.weights.two_entries.Goals as goal

pub returns-then-r-l : goal.returns-then-r-l
returns-then-r-l c =
    let a = c.args in
    let scale = unread c.det-scale.type_inv ∙ c.det-scale.ensures in
    let right = unread c.det-of_right.type_inv ∙ c.det-of_right.ensures in
    let left = unread c.det-of_left.type_inv ∙ c.det-of_left.ensures in
    let r = unread {z = a.r.code} c.struct_told-1.given.0.1 in
    let l = unread {z = a.l.code} c.struct_told-2-1.given.0.1 in
    let before : lt_z a.r.code a.l.code ≡ true = sym (λ i. lt_z (r i) (l i)) ∙ c.if-r-l.true in
    (λ i. weights_with (scale i) (pos 2) (r i) (right i) (l i) (left i) (pos 0) (pos 0))
    ∙ two-rising a.f a.r a.l before

pub returns-else-r-l : goal.returns-else-r-l
returns-else-r-l c =
    let a = c.args in
    let scale = unread c.det-scale.type_inv ∙ c.det-scale.ensures in
    let right = unread c.det-of_right.type_inv ∙ c.det-of_right.ensures in
    let left = unread c.det-of_left.type_inv ∙ c.det-of_left.ensures in
    let r = unread {z = a.r.code} c.struct_told-1.given.0.1 in
    let l = unread {z = a.l.code} c.struct_told-2-1.given.0.1 in
    let after : lt_z a.r.code a.l.code ≡ false = sym (λ i. lt_z (r i) (l i)) ∙ c.if-r-l.false in
    (λ i. weights_with (scale i) (pos 2) (l i) (left i) (r i) (right i) (pos 0) (pos 0))
    ∙ two-falling a.f a.r a.l after
