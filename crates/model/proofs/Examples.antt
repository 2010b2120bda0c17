-- The model walks the class examples and the pitfalls of document 01, and the examples with floors, to their answers, places and counts,
-- with valid certificates. That it does so for every system is proved in `theory`; these rows are what a wrong model trips over.
use mathlib.Core.Bool.{Bool, true, ◌&&◌}
use lib.Dec.{T, eqb}
use lib.ListN.{take}
use Rattle.ints.specs.Gcd.{gcd}
use Rattle.lp.specs.Program.{system}
use Rattle.lp.specs.Outcome.{every}
use Rattle.lp.specs.Certificate.{named, certifies}
use Rattle.lp.specs.Document.{Example, tie, zero_floors, same_outcome}
use Rattle.lp.specs.Examples.{class_examples, pitfalls, floor_examples}
use Rattle.lp.specs.Starts.{Chain, chains, said_of}
use Rattle.model.specs.declared.State.{State}
use Rattle.model.specs.declared.State.TheVariants.{Ended, Going}
use Rattle.model.specs.declared.Walk.{Walk}
use Rattle.lp.specs.declared.Functional.{Functional}
use Rattle.lp.specs.Program.{functional}
use lib.IntN.{pos}
use Rattle.model.specs.Step.{walk, said, place_of, start_held}

abbrev witnessed : Example → State → Bool
witnessed e (Ended p c) = certifies (system e.floors (take p e.rules)) (named c)
witnessed e (Going s rays b) = true

abbrev walked : Example → Walk → Bool
walked e w =
    same_outcome (said e.objective w.state) e.answer
    && eqb w.moves e.moved
    && eqb w.opened e.opened
    && eqb (place_of w.state) e.placed
    && witnessed e w.state

abbrev pub walks : Example → Bool
walks e = walked e (walk tie e.floors e.objective e.rules)

pub class_examples-walk : T (every walks class_examples)
unfolding gcd
class_examples-walk = tt

pub pitfalls-walk : T (every walks pitfalls)
unfolding gcd
pitfalls-walk = tt

pub floor_examples-walk : T (every walks floor_examples)
unfolding gcd
floor_examples-walk = tt

-- the start pair and its count, whatever the objective
abbrev starts_by : Functional → Chain → Bool
starts_by f c = said_of c (start_held (walk tie zero_floors f c.rules).state) (walk tie zero_floors f c.rules).restarts

pub chains-start : T (every (starts_by (functional (pos 0) (pos 0))) chains && every (starts_by (functional (pos 1) (pos 1))) chains)
unfolding gcd
chains-start = tt
