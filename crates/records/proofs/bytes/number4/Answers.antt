-- `records::bytes::number4` meets its contract: four bytes make the number of four bytes (`four_bytes`).
use native.Mathlib.Omega.{arith}
use Rattle.records.proofs.Numbers.{four_bytes}
use Rattle.records.proofs.bytes.number4.Goals as goal

pub returns : goal.returns
returns c = omega (arith, four_bytes c.args.s.now c.args.at, c.from_le_bytes.ensures)
