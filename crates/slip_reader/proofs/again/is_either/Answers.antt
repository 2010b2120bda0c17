-- `slip_reader::again::is_either` meets its contract: with the line feed taken off, a text is compared once more.
use mathlib.Core.List.{[], ◌∷◌}
use Rattle.std.proofs.Common.{Some, None}
use Rattle.std.proofs.lemmas.Bool.Decides.{Decides-eqb}
use Rattle.std.proofs.lemmas.Slice.Eq.{strip_suffix_is}
use Rattle.slip_reader.proofs.Comparing.{alike, without_feed, no_feed}
use Rattle.slip_reader.proofs.again.is_either.Goals as goal

pub returns-then-eq : goal.returns-then-eq
returns-then-eq c = alike c.args.written.now c.args.text.now c.eq.ensures c.if-eq.true

pub returns-in-Some : goal.returns-in-Some
returns-in-Some c =
    without_feed c.args.written.now c.args.text.now c.eq.ensures c.if-eq.false c.in-Some.front.now
    (strip_suffix_is Decides-eqb c.args.text.now (10 ∷ []) (Some c.in-Some.front) c.in-Some.ensures.cases) c.eq-in-Some.ensures

pub returns-in-None : goal.returns-in-None
returns-in-None c =
    no_feed c.args.written.now c.args.text.now c.eq.ensures c.if-eq.false
    (strip_suffix_is Decides-eqb c.args.text.now (10 ∷ []) None c.in-None.ensures.cases)
