-- `slips::slip_of` meets its contract: the book's refusal, or the slip of its plan.
use Rattle.slips.proofs.Promised.{plans_of, given-writes}
use Rattle.slips.proofs.slip_of.Goals as goal

pub slip_for-requires : goal.slip_for-requires
slip_for-requires c = plans_of c.args.book.now c.plan.ensures c.in_ok-plan.was

pub returns : goal.returns
returns c = given-writes c.args.book.now c.plan.ensures c.in_ok-plan.was c.slip_for.ensures
