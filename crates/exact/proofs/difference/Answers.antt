-- `exact::difference` meets its contract.
use Rattle.exact.proofs.Exact.{difference-wraps}
use Rattle.exact.proofs.difference.Goals as goal

pub returns : goal.returns
returns c = difference-wraps c.ranges.p c.ranges.q c.ranges.s c.ranges.t
