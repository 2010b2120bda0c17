-- `answer_line::entries::used` meets its contract. A weight of 0 names no entry; any other names one.
use mathlib.Core.Path.{sym, ap}
use lib.ListN.{length}
use Rattle.report.proofs.Witness.{none_named, one-named}
use Rattle.answer_line.proofs.entries.used.Goals as goal

pub returns-then-weight-eq0 : goal.returns-then-weight-eq0
returns-then-weight-eq0 c = sym (ap length (none_named 0 c.args.weight c.ranges.weight c.if-weight-eq0.true))

pub returns-else-weight-eq0 : goal.returns-else-weight-eq0
returns-else-weight-eq0 c = sym (ap length (one-named 0 c.args.weight c.if-weight-eq0.false))
