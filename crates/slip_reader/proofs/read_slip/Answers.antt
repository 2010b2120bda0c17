-- `slip_reader::read_slip` meets its contract.
use Rattle.slip_reader.proofs.Saying.{given, no_line}
use Rattle.slip_reader.proofs.read_slip.Goals as goal

pub returns-then-is_line : goal.returns-then-is_line
returns-then-is_line c =
    given c.args.text.now c.parsed-s.result c.parsed-s.ensures c.is_line.ensures c.if-is_line.true

pub returns-else-is_line : goal.returns-else-is_line
returns-else-is_line c =
    no_line c.args.text.now c.parsed-s.result c.parsed-s.ensures c.is_line.ensures c.if-is_line.false
