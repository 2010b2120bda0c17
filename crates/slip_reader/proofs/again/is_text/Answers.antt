-- `slip_reader::again::is_text` meets its contract: what the line's buffer holds up to its place is the slip's text.
use native.Mathlib.Omega.{arith}
use Rattle.std.proofs.Common.{rules}
use Rattle.slip_reader.proofs.Comparing.{judges-taken}
use Rattle.slip_reader.proofs.again.is_text.Goals as goal

pub returns : goal.returns
returns c =
    judges-taken {room = 235} c.is_either.ensures (omega arith) (c.append_slip.ensures.appends.fits (omega arith)) (search rules)
