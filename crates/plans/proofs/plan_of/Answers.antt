-- `plans::plan_of` meets its contract: every field is the solution's, and the witness is its certificate's, named.
use Rattle.plans.proofs.plan_of.Goals as goal

pub returns : goal.returns
returns c =
    let s = c.args.solution in
    λ i. record { outcome = s.outcome; moves = s.moves; opened = s.opened; place = s.place; witness = c.witness.ensures i }
