-- `exact::backward` meets its contract.
use Rattle.std.proofs.Common.{rules}
use Rattle.std.proofs.lemmas.Int.{wraps}
use Rattle.exact.proofs.backward.Goals as goal

pub returns : goal.returns
returns c = search (wraps, rules)
