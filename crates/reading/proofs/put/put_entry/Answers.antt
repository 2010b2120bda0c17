-- `reading::put::put_entry` meets its contract: three numbers with room for all, else none.
use native.Mathlib.Omega.{arith}
use Prim.Native.Nat.{◌+◌, ◌*◌}
use borrow.Author.Tests.{lt-ltb, le-ltb}
use lib.ListN.{length, length-set}
use borrow.Author.Rules.{rules}
use Rattle.reading.proofs.put.put_entry.Goals as goal

pub bounds-run-at-then-at-run : goal.bounds-run-at-then-at-run
bounds-run-at-then-at-run c = simp length-set (omega arith)

pub returns-then-at-run : goal.returns-then-at-run
returns-then-at-run c =
    rw (lt-ltb (3 * c.args.k + 2) (length c.args.run.now)
    c.if-at-run.true) (search rules)

pub returns-else-at-run : goal.returns-else-at-run
returns-else-at-run c = rw (le-ltb (3 * c.args.k + 2) (length c.args.run.now) c.if-at-run.false)
