-- The rays that one pass over the rules leaves are those of the system, whatever the objective.
use Rattle.std.specs.Prelude.{Option}
use mathlib.Core.Path.{subst}
use mathlib.Core.List.{List, [], ◌∷◌, ◌++◌, append-nil, append_assoc}
use lib.IntN.{pos}
use Rattle.lp.specs.declared.Constraint.{Constraint}
use Rattle.lp.specs.declared.Floors.{Floors}
use Rattle.lp.specs.Program.{functional, system}
use Rattle.lp.specs.Document.{tie}
use Rattle.lp.specs.declared.Ray.{Ray}
use Rattle.model.specs.Step.{narrow}
use Rattle.theory.proofs.Ties.{tie_good}
use Rattle.theory.proofs.Extension.{extended}
use Rattle.theory.proofs.Cone.{Spans, narrow-spans}
use Rattle.theory.proofs.Begin.{floors-quadrant, standing_at_first}
use Rattle.batch_theory.specs.Rays.{narrow_all, axes, rays_of}

module _ (floors : Floors) where
  spans-from : (done rest : List Constraint) (cone : Option (Ray × Ray)) →
      Spans (system floors done) cone →
      Spans (system floors (done ++ rest)) (narrow_all rest cone)
  spans-from done [] cone s = subst (λ l. Spans (system floors l) cone) (mathlib.Core.Path.sym (append-nil done)) s
  spans-from done (h ∷ rest) cone s =
      subst (λ l. Spans (system floors l) (narrow_all rest (narrow h cone))) (append_assoc done (h ∷ []) rest)
      (spans-from (done ++ (h ∷ [])) rest (narrow h cone)
      (narrow-spans (system floors done) (system floors (done ++ (h ∷ []))) h (extended (system floors done) h)
      (floors-quadrant floors done) cone s))

  pub rays_span : (rules : List Constraint) → Spans (system floors rules) (rays_of rules)
  rays_span rules =
      spans-from [] rules axes (standing_at_first floors tie tie_good (functional (pos 0) (pos 0))).spans
