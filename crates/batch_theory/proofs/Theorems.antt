-- The outcome of an objective from the corners of the region and its rays: no corner, impossible; a ray that gains, unlimited with the
-- first corner by the tie; else best, with the first corner by gain and then the tie. Any list with exactly the corners as its members
-- will do.
use Rattle.std.specs.Prelude.{None, Some}
use mathlib.Core.Path.{◌≡◌, refl, sym, ◌∙◌, ap, subst}
use mathlib.Core.List.Memᴰ
use mathlib.Core.List.{List, [], ◌∷◌, Memᴰ}
use mathlib.Core.Logic.{◌↔◌}
use Rattle.lp.specs.declared.Constraint.{Constraint}
use Rattle.lp.specs.declared.Functional.{Functional}
use Rattle.lp.specs.declared.Floors.{Floors}
use Rattle.lp.specs.declared.Tie.{Tie}
use Rattle.lp.specs.declared.Point.{Point}
use Rattle.lp.specs.declared.Ray.{Ray}
use Rattle.lp.specs.declared.Outcome.TheVariants as outcome
use Rattle.lp.specs.Program.{system}
use Rattle.lp.specs.Outcome.{pick, better, decide, tie_order, gain_order}
use Rattle.lp.specs.Outcome as defined
use Rattle.model.specs.Step.{gaining}
use Rattle.theory.proofs.Ties.{GoodTie, tie-upward, gain-upward}
use Rattle.theory.proofs.Cone.{Flattest, Gains, gaining-gains}
use Rattle.theory.proofs.Begin.{floors-quadrant}
use Rattle.theory.proofs.Enumeration.{allowed_vertices, lawful_rays, no_lawful_rays, flattest-listed}
use Rattle.boundary.specs.Ring.{grown, corners}
use Rattle.boundary.proofs.Theorems.{ring-corners}
use Rattle.batch_theory.specs.Rays.{rays_of}
use Rattle.batch_theory.proofs.Spanned.{rays_span}
use Rattle.batch_theory.proofs.Picks.{same-pick}

module _ (t : Tie) (good : GoodTie t) (floors : Floors) (f : Functional) (rules : List Constraint) where
  abbrev S : List Constraint
  S = system floors rules

  -- what the rays say of the objective
  gains : Gains S f (gaining f (rays_of rules))
  gains = gaining-gains S f (floors-quadrant floors rules) (rays_of rules) (rays_span floors rules)

  decided : (vs : List Point) (rays : List Ray) →
      allowed_vertices S ≡ vs →
      lawful_rays S f ≡ rays →
      defined.outcome t floors f rules ≡ decide t f vs rays
  decided vs rays p q = λ i. decide t f (p i) (q i)

  module _ (vs : List Point) (exactly : (v : Point) → Memᴰ v vs ↔ Memᴰ v (allowed_vertices S)) where
    -- no corner
    pub none-impossible : vs ≡ [] → defined.outcome t floors f rules ≡ outcome.Infeasible
    none-impossible e = go (allowed_vertices S) refl
      where
        go : (l : List Point) → allowed_vertices S ≡ l → defined.outcome t floors f rules ≡ outcome.Infeasible
        go [] q = decided [] (lawful_rays S f) q refl
        go (w ∷ ws) q =
            absurd (Memᴰ.not-nil (subst (λ l. Memᴰ w l) e
            ((exactly w).1 (subst (λ l. Memᴰ w l) (sym q) (Memᴰ.head refl)))))

    module _ (v : Point) (rest : List Point) (e : vs ≡ v ∷ rest) where
      to : (w : Point) (ws : List Point) → allowed_vertices S ≡ w ∷ ws → (x : Point) → Memᴰ x (v ∷ rest) → Memᴰ x (w ∷ ws)
      to w ws q x i = subst (λ l. Memᴰ x l) q ((exactly x).0 (subst (λ l. Memᴰ x l) (sym e) i))

      from : (w : Point) (ws : List Point) → allowed_vertices S ≡ w ∷ ws → (x : Point) → Memᴰ x (w ∷ ws) → Memᴰ x (v ∷ rest)
      from w ws q x i = subst (λ l. Memᴰ x l) e ((exactly x).1 (subst (λ l. Memᴰ x l) (sym q) i))

      -- the system has an allowed vertex
      some : {Q : Type 0} → ((w : Point) (ws : List Point) → allowed_vertices S ≡ w ∷ ws → Q) → Q
      some {Q} k = go (allowed_vertices S) refl
        where
          go : (l : List Point) → allowed_vertices S ≡ l → Q
          go [] q =
              absurd (Memᴰ.not-nil (subst (λ l. Memᴰ v l) q
              ((exactly v).0 (subst (λ l. Memᴰ v l) (sym e) (Memᴰ.head refl)))))
          go (w ∷ ws) q = k w ws q

      -- a ray that gains
      pub gaining-unlimited : (d : Ray) →
          gaining f (rays_of rules) ≡ Some d →
          (d' : Ray) × (defined.outcome t floors f rules ≡ outcome.Unbounded (pick (better (tie_order t)) v rest) d')
      gaining-unlimited d g = some (λ w ws q. go w ws q (lawful_rays S f) refl)
        where
          flat : Flattest S f d
          flat = subst (Gains S f) g gains

          go : (w : Point) (ws : List Point) →
              allowed_vertices S ≡ w ∷ ws →
              (l : List Ray) →
              lawful_rays S f ≡ l →
              (d' : Ray) × (defined.outcome t floors f rules ≡ outcome.Unbounded (pick (better (tie_order t)) v rest) d')
          go w ws q [] r = absurd (Memᴰ.not-nil (subst (λ l. Memᴰ d l) r (flattest-listed S f d flat)))
          go w ws q (x ∷ xs) r = (
            defined.reduce_ray (pick defined.flatter x xs),
            decided (w ∷ ws) (x ∷ xs) q r
                ∙ ap (λ p. outcome.Unbounded p (defined.reduce_ray (pick defined.flatter x xs)))
                (sym (same-pick (tie_order t) (tie-upward t good) S v rest w ws (to w ws q) (from w ws q)
                (λ x i. subst (λ l. Memᴰ x l) (sym q) i))),
          )

      -- none
      pub resting_best : gaining f (rays_of rules) ≡ None →
          defined.outcome t floors f rules ≡ outcome.Optimal (pick (better (gain_order f t)) v rest)
      resting_best g =
          some (λ w ws q.
          decided (w ∷ ws) [] q (no_lawful_rays S f (subst (Gains S f) g gains))
          ∙ ap outcome.Optimal
          (sym (same-pick (gain_order f t) (gain-upward t good f) S v rest w ws (to w ws q) (from w ws q)
          (λ x i. subst (λ l. Memᴰ x l) (sym q) i))))

  -- the ring's corners are such a list, in whichever order the rules entered the ring
  pub ring-lists : (order : List Constraint) →
      ((r : Constraint) → Memᴰ r rules → Memᴰ r order) →
      ((r : Constraint) → Memᴰ r order → Memᴰ r rules) →
      (v : Point) →
      Memᴰ v (corners (grown floors order)) ↔ Memᴰ v (allowed_vertices S)
  ring-lists order to from = ring-corners floors rules order to from
