-- `records::bytes::number2` meets its contract: two bytes make the number of two bytes (`two_bytes`).
use native.Mathlib.Omega.{arith}
use Rattle.records.proofs.Numbers.{two_bytes}
use Rattle.records.proofs.bytes.number2.Goals as goal

pub returns : goal.returns
returns c = omega (arith, two_bytes c.args.s.now c.args.at, c.from_le_bytes.ensures)
