-- The measure is three for each byte of the remaining text, and one more for a term, two more for a side, which begin at the same place as
-- their first factor or term.
use Prim.Native.Nat.{◌+◌, ◌*◌}
use lib.ListN.{length}
use Rattle.typed_rules.proofs.readers.+factor_factors_side_term_terms.Given as goal

abbrev pub decreases-factor : goal.decreases-factor
decreases-factor l = 3 * length l.text.now + 0

abbrev pub decreases-factors : goal.decreases-factors
decreases-factors l = 3 * length l.text.now + 0

abbrev pub decreases-side : goal.decreases-side
decreases-side l = 3 * length l.text.now + 2

abbrev pub decreases-term : goal.decreases-term
decreases-term l = 3 * length l.text.now + 1

abbrev pub decreases-terms : goal.decreases-terms
decreases-terms l = 3 * length l.text.now + 0
