-- `repacker::pack::store` meets its contract: after i turns the first i bytes are copied.
use mathlib.Core.Path.{◌≡◌}
use lib.ListN.{length}
use lib.Seq.{paste}
use Rattle.repacker.proofs.pack.store.Given as goal

abbrev pub invariant-loop-i : goal.invariant-loop-i
invariant-loop-i l = (length l.bytes ≡ 14) × (l.out ≡ paste l.initial.out l.at l.bytes l.i) × (length l.out ≡ length l.initial.out)
