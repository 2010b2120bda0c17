-- `checking::facts::proves` meets its contract: the facts of a best pair.
use mathlib.Core.Path.{◌∙◌}
use Rattle.slip.specs.Runs.{entries}
use Rattle.slip.specs.Slots.{balanced_of}
use Rattle.slip.proofs.Sizes.{within-unread}
use Rattle.slip.proofs.Judging.{proves-kept, proves-not}
use Rattle.checking.proofs.facts.proves.Goals as goal

pub returns-then-all_tight-balanced : goal.returns-then-all_tight-balanced
returns-then-all_tight-balanced c =
    let a = c.args in
    proves-kept a.t (entries a.rules.now 0 a.n) a.v a.slots a.scale c.all_tight.ensures
    (c.balanced.ensures
    ∙ λ i. balanced_of (c.total.ensures i) (within-unread c.requires.scale_small tt i) a.t.objective)
    c.if-all_tight-balanced.true
    c.allowed.ensures

pub returns-else-all_tight-balanced : goal.returns-else-all_tight-balanced
returns-else-all_tight-balanced c =
    let a = c.args in
    c.if-all_tight-balanced.false
    ∙ proves-not a.t (entries a.rules.now 0 a.n) a.v a.slots a.scale c.all_tight.ensures
    (c.balanced.ensures
    ∙ λ i. balanced_of (c.total.ensures i) (within-unread c.requires.scale_small tt i) a.t.objective)
    c.if-all_tight-balanced.false
