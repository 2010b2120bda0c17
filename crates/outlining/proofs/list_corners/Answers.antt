-- `outlining::list_corners` meets its contract: the front of the run is as long as there are points.
use native.Mathlib.Omega.{arith}
use Prim.Native.Nat.{ℕ, ◌-◌}
use mathlib.Core.Path.{◌≡◌, refl, ap}
use mathlib.Core.List.{◌++◌}
use borrow.Author.Tests.{leb-true}
use lib.Dec.{leb}
use lib.ListN.{length, drop}
use lib.Seq.{length-take-le}
use Rattle.amounts.proofs.Tests.{both}
use Rattle.outlining.proofs.Finishing.{finishes-front, finishes-none}
use Rattle.outlining.proofs.list_corners.Goals as goal

all : (n : ℕ) → n - 0 ≡ n
all n = omega arith

pub slice_bounds-finish-end : goal.slice_bounds-finish-end
slice_bounds-finish-end c =
    let a = c.args in
    leb-true a.n (length a.run.now) (both (leb a.n 4098) (leb a.n (length a.run.now)) c.if-n-run.true).1

pub finish-requires : goal.finish-requires
finish-requires c =
    let a = c.args in
    let t = both (leb a.n 4098) (leb a.n (length a.run.now)) c.if-n-run.true in
    omega (
      arith,
      leb-true a.n 4098 t.0,
      length-take-le (a.n - 0) a.run.now (omega (arith, leb-true a.n (length a.run.now) t.1)),
    )

pub returns-then-n-run : goal.returns-then-n-run
returns-then-n-run c =
    let a = c.args in
    let t = both (leb a.n 4098) (leb a.n (length a.run.now)) c.if-n-run.true in
    let long = length-take-le (a.n - 0) a.run.now (omega (arith, leb-true a.n (length a.run.now) t.1)) in
    let finished = c.finish in
    finishes-front a.keys.now a.n a.run.now a.out.now refl c.if-n-run.true (omega (arith, long))
    (ap (λ (k : ℕ). finished.new.run ++ drop k a.run.now) (all a.n))
    finished.ensures

pub returns-else-n-run : goal.returns-else-n-run
returns-else-n-run c =
    let a = c.args in
    finishes-none a.keys.now a.n a.run.now a.out.now refl c.if-n-run.false c.of-refusal.ensures
