-- `checking::entries::rule_in` meets its contract: the rule in a record.
use mathlib.Core.Path.{◌∙◌}
use native.Mathlib.Omega.{arith}
use Rattle.checking.proofs.Naming.{place-below, named-at, named-nowhere}
use Rattle.checking.proofs.entries.rule_in.Goals as goal

pub returns-in_err-at : goal.returns-in_err-at
returns-in_err-at c =
    let a = c.args in
    c.from_residual.ensures
    ∙ named-nowhere a.records.now a.rules.now a.wanted a.n c.requires.names c.place.ensures c.in_err-at.was

pub entry-requires : goal.entry-requires
entry-requires c =
    let a = c.args in
    let below = place-below a.records.now a.rules.now a.wanted a.n c.requires.names c.place.ensures c.in_ok-at.was in
    record { room = omega (arith, c.requires.room, below) }

pub returns : goal.returns
returns c =
    let a = c.args in
    named-at a.records.now a.rules.now a.wanted a.n c.requires.names c.place.ensures c.in_ok-at.was c.entry.ensures
