-- `checking::facts::conflict` meets its contract: what is said of a slip of an impossible book.
use mathlib.Core.Path.{sym, ◌∙◌, ap, subst}
use lib.IntN.{pos}
use Rattle.slip.proofs.Sizes.{unread}
use Rattle.slip.specs.Facts.{ranges}
use Rattle.slip.specs.Slots.{SmallSlots}
use Rattle.slip.specs.Runs.{indices, entries}
use Rattle.slip.proofs.Judging.{chain-naming, chain-slots, conflict-said, conflict-refused}
use Rattle.checking.proofs.facts.conflict.Goals as goal

pub looked_up-slots-requires : goal.looked_up-slots-requires
looked_up-slots-requires c = chain-naming c.requires

pub total-requires : goal.total-requires
total-requires c =
    subst SmallSlots (sym c.looked_up-slots.ensures) (chain-slots c.requires c.args.w)

pub returns-then-within-sound : goal.returns-then-within-sound
returns-then-within-sound c =
    let w = c.args.w in
    let h = c.struct_told-1.given in
    conflict-said c.args.t (indices c.args.records.now 0 c.args.n) (entries c.args.rules.now 0 c.args.n) w
    c.looked_up-slots.ensures c.sound.ensures
    (c.within.ensures ∙ ap (λ z. ranges (pos 1) z (pos 3)) (unread {z = w.count}
    h.1.0.1)) c.if-within-sound.true
    c.total.ensures c.refutes.ensures c.said.ensures

pub returns-else-within-sound : goal.returns-else-within-sound
returns-else-within-sound c =
    let w = c.args.w in
    let h = c.struct_told-1.given in
    conflict-refused c.args.t (indices c.args.records.now 0 c.args.n) (entries c.args.rules.now 0 c.args.n) w
    c.looked_up-slots.ensures c.sound.ensures
    (c.within.ensures ∙ ap (λ z. ranges (pos 1) z (pos 3)) (unread {z = w.count} h.1.0.1))
    c.if-within-sound.false
    c.refused.ensures
