-- `reading::put::put_record` meets its contract: beyond the run nothing is set.
use mathlib.Core.Path.{sym}
use lib.Seq.{set_out}
use Rattle.reading.proofs.put.put_record.Goals as goal

pub returns-else-k-run : goal.returns-else-k-run
returns-else-k-run c = sym (set_out c.args.run.now c.args.k c.args.index c.if-k-run.false)
