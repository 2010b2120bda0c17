-- What is left has the same text behind its spaces as the whole.
use Rattle.std.specs.Prelude.{◌≡◌}
use lib.ListN.{length}
use Rattle.language.specs.Parser.{skip}
use Rattle.typed_rules.proofs.tokens.skip.Given as goal

abbrev pub invariant-loop-rest : goal.invariant-loop-rest
invariant-loop-rest l = skip l.rest ≡ skip l.text

abbrev pub decreases-loop-rest : goal.decreases-loop-rest
decreases-loop-rest l = length l.rest
