-- `checking::named::looked_up` meets its contract.
use mathlib.Core.Path.{◌∙◌}
use mathlib.Core.Bool.{◌&&◌}
use lib.IntN.{pos}
use lib.Signed.{lt_z}
use Rattle.slip.proofs.Sizes.{unread}
use Rattle.slip.proofs.Slots.{slots_same}
use Rattle.slip.specs.Facts.{entry_of}
use Rattle.slip.specs.Runs.{indices, entries}
use Rattle.slip.specs.Slots.{slot_of}
use Rattle.checking.proofs.named.looked_up.Goals as goal

pub slot_at-requires-2 : goal.slot_at-requires-2
slot_at-requires-2 c = c.requires

pub slot_at-requires-3 : goal.slot_at-requires-3
slot_at-requires-3 c = c.requires

pub returns : goal.returns
returns c =
    let w = c.args.w in
    let h = c.struct_told-9-1.given in
    let e = entry_of c.args.floors (indices c.args.records.now 0 c.args.n) (entries c.args.rules.now 0 c.args.n) in
    let n = unread {z = w.count} h.1.0.1 in
    let e1 = unread {z = w.first} h.1.1.0.1 in
    let w1 = unread {z = w.first_weight} h.1.1.1.0.1 in
    let e2 = unread {z = w.second} h.1.1.1.1.0.1 in
    let w2 = unread {z = w.second_weight} h.1.1.1.1.1.0.1 in
    let e3 = unread {z = w.third} h.1.1.1.1.1.1.0.1 in
    let w3 = unread {z = w.third_weight} h.1.1.1.1.1.1.1.0.1 in
    slots_same (c.slot_at.ensures ∙ (λ i. slot_of (lt_z (pos 0) (n i)) (e (e1 i)) (w1 i)))
    (c.slot_at-2.ensures ∙ (λ i. slot_of (lt_z (pos 0) (n i) && lt_z (pos 1) (n i)) (e (e2 i)) (w2 i)))
    (c.slot_at-3.ensures ∙ (λ i. slot_of (lt_z (pos 0) (n i) && lt_z (pos 1) (n i) && lt_z (pos 2) (n i)) (e (e3 i)) (w3 i)))
