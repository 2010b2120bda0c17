-- `steps::start` meets its contract: 4, or a session without rules.
use Rattle.sessions.proofs.Led.{begun-session, starts, starts-refused, empty-session}
use Rattle.steps.proofs.start.Goals as goal

pub taken-requires : goal.taken-requires
taken-requires c =
    begun-session c.args.p c.args.q c.args.lx c.args.ly c.ranges.p c.ranges.q c.ranges.lx
    c.ranges.ly c.lawful_objective.ensures c.if-lawful_objective.true c.begun.ensures

pub refused-requires : goal.refused-requires
refused-requires c = empty-session c.begun-else-lawful_objective.ensures

pub returns-then-lawful_objective : goal.returns-then-lawful_objective
returns-then-lawful_objective c =
    starts c.args.p c.args.q c.args.lx c.args.ly c.ranges.p c.ranges.q c.ranges.lx
    c.ranges.ly c.lawful_objective.ensures c.if-lawful_objective.true c.begun.ensures c.taken.result
    c.taken.ensures

pub returns-else-lawful_objective : goal.returns-else-lawful_objective
returns-else-lawful_objective c =
    starts-refused c.args.p c.args.q c.args.lx c.args.ly c.ranges.p c.ranges.q
    c.ranges.lx c.ranges.ly c.lawful_objective.ensures c.if-lawful_objective.false c.begun-else-lawful_objective.ensures
    c.refused.result c.refused.ensures
