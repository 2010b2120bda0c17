-- The rays along which no rule is left, by one pass over the rules: at first all of the quadrant, and each rule takes away one side.
use Rattle.std.specs.Prelude.{List, [], ◌∷◌, pos, Option, Some}
use Rattle.lp.specs.declared.Constraint.{Constraint}
use Rattle.lp.specs.Program.{ray}
use Rattle.lp.specs.declared.Ray.{Ray}
use Rattle.model.specs.Step.{narrow}

abbrev pub narrow_all : List Constraint → Option (Ray × Ray) → Option (Ray × Ray)
narrow_all [] cone = cone
narrow_all (h ∷ rules) cone = narrow_all rules (narrow h cone)

abbrev pub axes : Option (Ray × Ray)
axes = Some (ray (pos 1) (pos 0), ray (pos 0) (pos 1))

abbrev pub rays_of : List Constraint → Option (Ray × Ray)
rays_of rules = narrow_all rules axes
