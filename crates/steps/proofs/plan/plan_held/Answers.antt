-- `steps::plan::plan_held` meets its contract: the rules held are planned as the chain of a book.
use mathlib.Core.Path.{refl, sym, ◌∙◌}
use Rattle.sessions.proofs.Held.{planned-some, session-shown}
use Rattle.steps.proofs.plan.plan_held.Goals as goal

pub unwrap-solution-requires : goal.unwrap-solution-requires
unwrap-solution-requires c = planned-some c.args.session c.requires _ refl c.lay.ensures c.solve.ensures.answer

pub returns : goal.returns
returns c =
    session-shown c.args.session c.requires _ refl c.lay.ensures c.places-names.ensures
    (sym c.unwrap-solution.ensures ∙ c.solve.ensures.answer) c.plan_of.ensures
