-- `steps::check::label_held` meets its contract: a look through the rules held (`label-looked`).
use borrow.Author.Rules.{rules}
use borrow.Author.Tests.{tests}
use mathlib.Core.Path.{◌∙◌}
use lib.Dec.{eqb}
use lib.ListN.{take}
use Rattle.std.proofs.lemmas.Iterator.{YieldsList-from_slice}
use Rattle.std.proofs.lemmas.Iterator.Search.{any_from_yields_List}
use Rattle.records.specs.declared.Rule.{Rule}
use Rattle.sessions.proofs.Labels.{label-looked}
use Rattle.steps.proofs.check.label_held.Goals as goal

pub returns : goal.returns
returns c =
    let a = c.args in
    let held = take a.session.n a.session.rules in
    any_from_yields_List (λ (r : Rule). eqb a.label r.label) _ _ c.any.result c.any.ensures.ran (YieldsList-from_slice held cc)
    (λ x b q k. search (rules, tests))
    ∙ label-looked a.session a.label
