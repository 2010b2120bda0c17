-- `steps::state::shorter` meets its contract: the latest rule's place is blank.
use lib.ListN.{set}
use Prim.Native.Nat.{◌-◌}
use Rattle.steps.proofs.state.shorter.Goals as goal

pub returns : goal.returns
returns c =
    let s = c.args.session in
    λ i. record { rules = set s.rules (s.n - 1) (c.no_rule.ensures i); n = s.n - 1; terms = s.terms }
