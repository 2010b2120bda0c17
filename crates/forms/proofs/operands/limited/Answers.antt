-- `forms::operands::limited` meets its contract. The test picks the case.
use Rattle.forms.proofs.Values.{limited-yes, limited_no}
use Rattle.forms.proofs.operands.limited.Goals as goal

pub returns-then-bounded : goal.returns-then-bounded
returns-then-bounded c = limited-yes c.args.f c.bounded.ensures c.if-bounded.true

pub returns-else-bounded : goal.returns-else-bounded
returns-else-bounded c = limited_no c.args.f c.bounded.ensures c.if-bounded.false
