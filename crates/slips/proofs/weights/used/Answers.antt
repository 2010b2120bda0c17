-- `slips::weights::used` meets its contract.
use mathlib.Core.Path.{sym, ◌∙◌, ap}
use Rattle.lp.specs.Certificate.{is_zero}
use Rattle.slip.proofs.Sizes.{unread}
use Rattle.slips.proofs.Chosen.{used-one, used-two, used-three}
use Rattle.slips.proofs.weights.used.Goals as goal

pub returns-then-is_zero : goal.returns-then-is_zero
returns-then-is_zero c =
    let k = c.args.k in
    let u = unread {z = k.second_weight} c.struct_told-1.given.1.1.1.0.1 in
    used-one k (ap is_zero (sym u) ∙ sym c.is_zero.ensures ∙ c.if-is_zero.true)

pub returns-then-is_zero-2 : goal.returns-then-is_zero-2
returns-then-is_zero-2 c =
    let k = c.args.k in
    let h = c.struct_told-2-1.given in
    let u = unread {z = k.second_weight} h.1.1.1.0.1 in
    let w = unread {z = k.third_weight} h.1.1.1.1.1.0.1 in
    used-two k (ap is_zero (sym u) ∙ sym c.is_zero.ensures ∙ c.if-is_zero.false)
    (ap is_zero (sym w) ∙ sym c.is_zero-2.ensures ∙ c.if-is_zero-2.true)

pub returns : goal.returns
returns c =
    let k = c.args.k in
    let h = c.struct_told-2-1.given in
    let u = unread {z = k.second_weight} h.1.1.1.0.1 in
    let w = unread {z = k.third_weight} h.1.1.1.1.1.0.1 in
    used-three k (ap is_zero (sym u) ∙ sym c.is_zero.ensures ∙ c.if-is_zero.false)
    (ap is_zero (sym w) ∙ sym c.is_zero-2.ensures ∙ c.if-is_zero-2.false)
