-- `objectives::objective` meets its contract: it is read if its four bytes are there.
use native.Mathlib.Omega.{arith}
use Prim.Native.Nat.{◌/◌}
use borrow.Author.Tests.{lt-ltb, le-ltb}
use lib.ListN.{length}
use Rattle.objectives.proofs.objective.Goals as goal

pub whole-requires : goal.whole-requires
whole-requires c = omega (arith, c.if-i-bytes.true)

pub returns-then-i-bytes : goal.returns-then-i-bytes
returns-then-i-bytes c =
    let a = c.args in
    rw (lt-ltb a.i (length a.bytes.now / 4) c.if-i-bytes.true) c.whole.ensures

pub returns-else-i-bytes : goal.returns-else-i-bytes
returns-else-i-bytes c = let a = c.args in rw (le-ltb a.i (length a.bytes.now / 4) c.if-i-bytes.false)
