-- `checking::entries::keeps_all` meets its contract.
use mathlib.Core.Path.{sym, ◌∙◌}
use Rattle.slip.proofs.Passes.{kept-start, kept_asks, kept_step, kept-stop, kept-end, entry-room}
use Rattle.checking.proofs.Exact.{placed}
use Rattle.checking.proofs.entries.keeps_all.Goals as goal

pub loop-i-init : goal.loop-i-init
loop-i-init c = kept-start c.args.rules.now c.args.n c.args.v

pub entry-r-requires : goal.entry-r-requires
entry-r-requires c = entry-room c.requires.entries c.loop-i-test.true

pub invariant_of-keeps : goal.invariant_of-keeps
invariant_of-keeps c = record { small = placed (kept_asks c.requires c.loop-i-test.true c.entry-r.ensures) }

pub loop-i-preserved : goal.loop-i-preserved
loop-i-preserved c =
    kept_step c.loop-i.invariant c.loop-i-test.true c.entry-r.ensures (sym c.keeps.ensures ∙ c.if-not-keeps.false)

pub returns-then-not-keeps : goal.returns-then-not-keeps
returns-then-not-keeps c =
    kept-stop c.loop-i.invariant c.loop-i-test.true c.entry-r.ensures (sym c.keeps.ensures ∙ c.if-not-keeps.true)

pub returns : goal.returns
returns c = kept-end c.loop-i.invariant c.loop-i-test.false
