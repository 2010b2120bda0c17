-- Two rays of the quadrant of which neither has the smaller slope are the same ray, once divided by their greatest common divisors.
use mathlib.Core.Path.{◌≡◌, refl, ◌∙◌, ap, ap₂}
use mathlib.Core.List.{[], ◌∷◌}
use lib.IntN.{pos, ◌+ℤ◌, ◌*ℤ◌, +ℤ_idr}
use lib.Signed.{quot_z, clash_ℤ}
use Rattle.ints.specs.Order.{◌≤ᶻ◌}
use Rattle.ints.specs.Gcd.{gcd2}
use Rattle.ints.proofs.Ring.{◌⊕◌, ◌⊗◌, ⊝◌, ◌≐◌}
use Rattle.ints.proofs.Order.{antisymmetric, nn_neg, le_of_eq}
use Rattle.ints.proofs.Gcd.{gcd2-pos}
use Rattle.ints.proofs.Reduced.{SamePair, reduce2_same}
use Rattle.lp.specs.declared.Ray.{Ray}
use Rattle.lp.specs.Outcome.{cross, reduce_ray}
use Rattle.theory.proofs.Solver.{equal, nn_by, R, crossᵖ}
use Rattle.theory.proofs.Direction.{ray_path}
use Rattle.theory.proofs.Cone.{Forward}

not-both-zero : (d : Ray) → Forward d → d.dx ≡ pos 0 → d.dy ≡ pos 0 → ⊥
not-both-zero d h a b = clash_ℤ h.size (le_of_eq (ap₂ (λ s t. s +ℤ t) a b))

pub same-slope :
    (d e : Ray) →
    Forward d →
    Forward e →
    pos 0 ≤ᶻ cross d e →
    pos 0 ≤ᶻ cross e d →
    reduce_ray d ≡ reduce_ray e
same-slope d e p q not-steeper not-flatter = ray_path agree.first agree.second
  where
    level : cross d e ≡ pos 0
    level =
        antisymmetric (nn_neg (nn_by (R ∷ R ∷ []) (λ d e. ⊝ crossᵖ d e ≐ crossᵖ e d) refl d e not-flatter)) not-steeper

    agree :
        SamePair (quot_z d.dx (pos (gcd2 d.dx d.dy))) (quot_z d.dy (pos (gcd2 d.dx d.dy)))
        (quot_z e.dx (pos (gcd2 e.dx e.dy))) (quot_z e.dy (pos (gcd2 e.dx e.dy)))
    agree =
        reduce2_same d.dx d.dy e.dx e.dy p.nn_dx p.nn_dy q.nn_dx q.nn_dy
        (equal (R ∷ R ∷ []) (λ d e. d.dx ⊗ e.dy ≐ e.dx ⊗ d.dy ⊕ crossᵖ d e) refl d e ∙ ap (λ z. e.dx *ℤ d.dy +ℤ z) level
        ∙ +ℤ_idr (e.dx *ℤ d.dy))
        (gcd2-pos d.dx d.dy (not-both-zero d p)) (gcd2-pos e.dx e.dy (not-both-zero e q))
