-- Euclid's equations: the second number falls to a remainder, and is the measure.
use Rattle.fraction.proofs.+divisor.Given as goal

abbrev pub decreases-divisor : goal.decreases-divisor
decreases-divisor l = l.n
