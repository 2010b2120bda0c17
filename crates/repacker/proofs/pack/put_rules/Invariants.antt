-- `repacker::pack::put_rules` meets its contract: after k turns the first k rules are copied; each turn copies one record more
-- (`paste-next`).
use Prim.Native.Nat.{◌*◌}
use mathlib.Core.Path.{◌≡◌}
use lib.ListN.{take}
use lib.Seq.{paste}
use Rattle.records.specs.Layout.{v2}
use Rattle.repacker.specs.Repacking.{chain_bytes, rules_at}
use Rattle.repacker.proofs.pack.put_rules.Given as goal

abbrev pub invariant-loop-k : goal.invariant-loop-k
invariant-loop-k l =
    l.out ≡ paste l.initial.out 14 (chain_bytes v2 1 (rules_at l.book.layout l.book.bytes (take l.n l.indices))) (14 * l.k)
