-- `forms::operands::inside` meets its contract.
use Rattle.forms.proofs.Values.{inside_is}
use Rattle.forms.proofs.operands.inside.Goals as goal

pub returns : goal.returns
returns c =
    inside_is c.args.n c.args.z c.magnitude.result c.ranges.z c.magnitude.ensures
