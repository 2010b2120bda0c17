-- `checking::facts::best` meets its contract: what is said of a slip with a best pair.
use mathlib.Core.Path.{◌∙◌, ap}
use lib.IntN.{pos}
use Rattle.slip.proofs.Sizes.{unread}
use Rattle.slip.specs.Facts.{ranges, weight_in_range}
use Rattle.slip.specs.Slots.{proves_of}
use Rattle.slip.specs.Runs.{indices, entries}
use Rattle.slip.proofs.Judging.{chain-naming, best_proving, proving_read, best-said, best-refused}
use Rattle.checking.proofs.facts.best.Goals as goal

pub looked_up-slots-requires : goal.looked_up-slots-requires
looked_up-slots-requires c = chain-naming c.requires

pub proves-requires : goal.proves-requires
proves-requires c =
    let w = c.args.w in
    let h = c.struct_told-then-pair_in_range-within-1.given in
    let scale = c.within.ensures ∙ ap weight_in_range (unread {z = w.scale} h.0.1) in
    proving_read
    (best_proving c.requires w c.args.v c.looked_up-slots.ensures
    c.pair_in_range.ensures scale
    c.within-2.result
    c.sound.result c.if-pair_in_range-within.true)

pub returns-then-pair_in_range-within : goal.returns-then-pair_in_range-within
returns-then-pair_in_range-within c =
    let w = c.args.w in
    let h = c.struct_told-then-pair_in_range-within-1.given in
    let u = unread {z = w.scale} h.0.1 in
    best-said c.args.t (indices c.args.records.now 0 c.args.n) (entries c.args.rules.now 0 c.args.n) w
    c.looked_up-slots.ensures
    c.sound.ensures c.args.v
    c.pair_in_range.ensures
    (c.within.ensures ∙ ap weight_in_range u)
    (c.within-2.ensures ∙ ap (λ z. ranges (pos 0) z (pos 2)) (unread {z = w.count}
    h.1.0.1)) c.if-pair_in_range-within.true
    (c.proves.ensures ∙ ap (proves_of c.args.t (entries c.args.rules.now 0 c.args.n) c.args.v
    c.looked_up-slots.result) u) c.said.ensures

pub returns-else-pair_in_range-within : goal.returns-else-pair_in_range-within
returns-else-pair_in_range-within c =
    let w = c.args.w in
    let h = c.struct_told-2-1.given in
    best-refused c.args.t (indices c.args.records.now 0 c.args.n) (entries c.args.rules.now 0 c.args.n) w
    c.looked_up-slots.ensures c.sound.ensures
    c.args.v c.pair_in_range.ensures
    (c.within.ensures ∙ ap weight_in_range (unread {z = w.scale} h.0.1))
    (c.within-2.ensures ∙ ap (λ z. ranges (pos 0) z (pos 2)) (unread {z = w.count} h.1.0.1))
    c.if-pair_in_range-within.false
    c.refused.ensures
