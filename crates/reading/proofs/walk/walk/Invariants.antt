-- `reading::walk::walk` meets its contract: the loop's invariant is `Underway`. The measure is the records that are not visited.
use Prim.Native.Nat.{◌-◌}
use Rattle.book.proofs.Underway.{Underway}
use Rattle.reading.proofs.walk.walk.Given as goal

abbrev pub invariant-loop-link : goal.invariant-loop-link
invariant-loop-link l =
    Underway l.book.layout l.book.bytes l.initial.indices l.initial.rules l.labels l.indices l.rules l.n l.at l.link

abbrev pub decreases-loop-link : goal.decreases-loop-link
decreases-loop-link l =
    l.book.layout.records - l.n
