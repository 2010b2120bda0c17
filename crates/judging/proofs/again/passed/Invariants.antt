-- `judging::again::passed` meets its contract: after so many turns it stands at the record that as many links lead to, and has compared
-- those on the way.
use mathlib.Core.Path.{◌≡◌}
use Rattle.book.specs.Judging.{record_after, is_passed}
use Rattle.judging.proofs.again.passed.Given as goal

abbrev pub invariant-loop : goal.invariant-loop
invariant-loop l =
    (l.at ≡ record_after l.book.layout l.book.bytes l.counter) × (l.found ≡ is_passed l.book.layout l.book.bytes l.counter l.index)
