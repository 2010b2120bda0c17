-- `slips::slip_for` meets its contract: the slip of an accepted book's plan.
use Rattle.slips.proofs.Promised.{witness_small, pair_small, impossible-slip, unlimited-slip, best-slip}
use Rattle.slips.proofs.slip_for.Goals as goal

pub conflict_weights-requires : goal.conflict_weights-requires
conflict_weights-requires c =
    witness_small c.args.book.now c.args.plan c.requires c.in-Infeasible.is

pub best_weights-requires : goal.best_weights-requires
best_weights-requires c =
    pair_small c.args.book.now c.args.plan c.requires c.in-Optimal.v c.in-Optimal.is

pub returns-in-Infeasible : goal.returns-in-Infeasible
returns-in-Infeasible c =
    impossible-slip c.args.book.now c.args.plan c.requires c.in-Infeasible.is c.conflict_weights.ensures

pub returns-in-Unbounded : goal.returns-in-Unbounded
returns-in-Unbounded c =
    unlimited-slip c.args.book.now c.args.plan c.requires c.in-Unbounded.field-0 c.in-Unbounded.field-1 c.in-Unbounded.is c.nothing.ensures

pub returns-in-Optimal : goal.returns-in-Optimal
returns-in-Optimal c =
    best-slip c.args.book.now c.args.plan c.requires c.in-Optimal.v c.in-Optimal.is c.best_weights.ensures
