-- `checking::entries::stays_all` meets its contract.
use mathlib.Core.Path.{sym, ◌∙◌}
use Rattle.slip.proofs.Passes.{stayed_start, stayed_asks, stayed_step, stayed_stop, stayed_end, entry-room}
use Rattle.checking.proofs.Exact.{risen}
use Rattle.checking.proofs.entries.stays_all.Goals as goal

pub loop-i-init : goal.loop-i-init
loop-i-init c = stayed_start c.args.rules.now c.args.n c.args.d

pub entry-r-requires : goal.entry-r-requires
entry-r-requires c = entry-room c.requires.entries c.loop-i-test.true

pub invariant_of-stays : goal.invariant_of-stays
invariant_of-stays c = record { small = risen (stayed_asks c.requires c.loop-i-test.true c.entry-r.ensures) }

pub loop-i-preserved : goal.loop-i-preserved
loop-i-preserved c =
    stayed_step c.loop-i.invariant c.loop-i-test.true c.entry-r.ensures (sym c.stays.ensures ∙ c.if-not-stays.false)

pub returns-then-not-stays : goal.returns-then-not-stays
returns-then-not-stays c =
    stayed_stop c.loop-i.invariant c.loop-i-test.true c.entry-r.ensures (sym c.stays.ensures ∙ c.if-not-stays.true)

pub returns : goal.returns
returns c = stayed_end c.loop-i.invariant c.loop-i-test.false
