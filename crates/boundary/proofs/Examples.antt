-- Small systems, computed: the edges of a ring in its order, the newest first; how many corners it has; and what the walk with the ring
-- says.
use mathlib.Core.Path.{◌≡◌, refl}
use mathlib.Core.List.{List, [], ◌∷◌}
use mathlib.Core.Bool.{Bool, true}
use lib.IntN.{pos, negsuc}
use lib.ListN.{length}
use Rattle.ints.specs.Gcd.{gcd}
use Rattle.lp.specs.declared.Constraint.{Constraint}
use Rattle.lp.specs.declared.Functional.{Functional}
use Rattle.lp.specs.declared.Point.{Point}
use Rattle.lp.specs.declared.Outcome.TheVariants.{Optimal}
use Rattle.lp.specs.Program.{constraint, functional, point, floor_x, floor_y}
use Rattle.lp.specs.Document.{tie, zero_floors, same_outcome}
use Rattle.model.specs.Step.{said}
use Rattle.boundary.specs.Size.{horizon}
use Rattle.boundary.specs.Ring.{grown, corners}
use Rattle.boundary.specs.Quick.{quick_walk}

-- x + y ≤ 4 and x ≤ 3
abbrev slope : Constraint
slope = constraint (pos 1) (pos 1) (pos 4)

abbrev wall : Constraint
wall = constraint (pos 1) (pos 0) (pos 3)

-- x + y ≤ −1, and 0 ≤ −1
abbrev below : Constraint
below = constraint (pos 1) (pos 1) (negsuc 0)

abbrev never : Constraint
never = constraint (pos 0) (pos 0) (negsuc 0)

-- a trapezium has four edges and four corners
trapezium : grown zero_floors (slope ∷ wall ∷ []) ≡ wall ∷ slope ∷ floor_x zero_floors ∷ floor_y zero_floors ∷ []
trapezium = refl

trapezium-corners : length (corners (grown zero_floors (slope ∷ wall ∷ []))) ≡ 4
trapezium-corners = refl

-- a strip keeps a corner on the horizon, where the wall and the floor of x meet it
strip : grown zero_floors (wall ∷ []) ≡ wall ∷ horizon ∷ floor_x zero_floors ∷ floor_y zero_floors ∷ []
strip = refl

strip-corners : length (corners (grown zero_floors (wall ∷ []))) ≡ 2
strip-corners = refl

-- where no point is left the ring is empty, or nothing is left of it but rays; there are no corners
nothing_left : grown zero_floors (below ∷ wall ∷ []) ≡ []
nothing_left = refl

only-rays : corners (grown zero_floors (never ∷ wall ∷ [])) ≡ []
only-rays = refl

-- ---- the walk with the ring

-- y ≤ 3, and y ≤ x + 1
abbrev ceiling : Constraint
ceiling = constraint (pos 0) (pos 1) (pos 3)

abbrev stair : Constraint
stair = constraint (negsuc 0) (pos 1) (pos 1)

abbrev best_is : Functional → List Constraint → Point → Bool
best_is f rules v = same_outcome (said f (quick_walk tie zero_floors f rules).state) (Optimal v)

-- of the two ends of the ceiling's edge, (0, 3) and (1, 3), the second gains more by x + 2y
end-by-gain : best_is (functional (pos 1) (pos 2)) (slope ∷ ceiling ∷ []) (point (pos 1) (pos 3) (pos 1)) ≡ true
unfolding gcd
end-by-gain = refl

-- the stair cuts the ceiling's edge short
end-at_the_stair : best_is (functional (negsuc 0) (pos 4)) (stair ∷ ceiling ∷ []) (point (pos 2) (pos 3) (pos 1)) ≡ true
unfolding gcd
end-at_the_stair = refl
