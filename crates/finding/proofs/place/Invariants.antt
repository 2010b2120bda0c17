-- `finding::place` meets its contract: the first place of the wanted number.
use Rattle.finding.specs.Place.{Passed}
use Rattle.finding.proofs.place.Given as goal

abbrev pub invariant-loop-i : goal.invariant-loop-i
invariant-loop-i l = Passed l.records l.wanted l.i
