-- `exact::sum` meets its contract.
use Rattle.exact.proofs.Exact.{sum-wraps}
use Rattle.exact.proofs.sum.Goals as goal

pub returns : goal.returns
returns c = sum-wraps c.ranges.p c.ranges.q c.ranges.s c.ranges.t
