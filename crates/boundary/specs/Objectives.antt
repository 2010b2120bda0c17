-- Many objectives over one system. What does not depend on the objective is worked out once: the corners, in any order, and the cone of
-- rays. Then an objective's outcome is one pass over the corners.
use Rattle.std.specs.Prelude.{List, [], ◌∷◌, pos, Option, None, Some}
use Rattle.lp.specs.declared.Constraint.{Constraint}
use Rattle.lp.specs.declared.Functional.{Functional}
use Rattle.lp.specs.declared.Tie.{Tie}
use Rattle.lp.specs.declared.Point.{Point}
use Rattle.lp.specs.declared.Outcome.{Outcome}
use Rattle.lp.specs.declared.Outcome.TheVariants.{Infeasible, Unbounded, Optimal}
use Rattle.lp.specs.Program.{ray}
use Rattle.lp.specs.Outcome.{pick, better, reduce_ray, tie_order, gain_order}
use Rattle.lp.specs.declared.Ray.{Ray}
use Rattle.model.specs.Step.{narrow, gaining}

-- the rays of a list of rules under the floors: from the two axes on, narrowed by each rule
abbrev pub cone_from : Option (Ray × Ray) → List Constraint → Option (Ray × Ray)
cone_from rays [] = rays
cone_from rays (h ∷ rules) = cone_from (narrow h rays) rules

abbrev pub cone_of : List Constraint → Option (Ray × Ray)
cone_of rules = cone_from (Some (ray (pos 1) (pos 0), ray (pos 0) (pos 1))) rules

-- with the corners at hand, and a ray that gains or none
abbrev pub decided_by : Tie → Functional → List Point → Option Ray → Outcome
decided_by t f [] g = Infeasible
decided_by t f (v ∷ vs) (Some d) = Unbounded (pick (better (tie_order t)) v vs) (reduce_ray d)
decided_by t f (v ∷ vs) None = Optimal (pick (better (gain_order f t)) v vs)

-- the outcome of objective f
abbrev pub outcome_by : Tie → Functional → List Point → Option (Ray × Ray) → Outcome
outcome_by t f vs rays = decided_by t f vs (gaining f rays)
