-- An objective's outcome from the corners and the cone is the defined outcome: a pass over any list of the corners picks the peak, since
-- there is one, and the cone's ray that gains is the flattest.
use Rattle.std.specs.Prelude.{Option, None, Some}
use mathlib.Core.Path.{◌≡◌, refl, sym, ◌∙◌, ap, ap₂, subst}
use mathlib.Core.List.Memᴰ
use mathlib.Core.List.{List, [], ◌∷◌, ◌++◌, append-nil, append_assoc, Memᴰ}
use mathlib.Core.Bool.{not}
use mathlib.Core.Logic.{◌↔◌}
use lib.Dec.{T}
use lib.IntN.{pos}
use lib.Signed.{clash_ℤ}
use Rattle.ints.specs.Order.{◌<ᶻ◌}
use Rattle.ints.proofs.Ring.{⊝◌, ◌≐◌, con}
use Rattle.ints.proofs.Order.{pos_nn}
use Rattle.lp.specs.declared.Constraint.{Constraint}
use Rattle.lp.specs.declared.Functional.{Functional}
use Rattle.lp.specs.declared.Floors.{Floors}
use Rattle.lp.specs.declared.Tie.{Tie}
use Rattle.lp.specs.declared.Point.{Point}
use Rattle.lp.specs.declared.Outcome.{Outcome}
use Rattle.lp.specs.declared.Outcome.TheVariants as outcome
use Rattle.lp.specs.Program.{ray, between, system}
use Rattle.lp.specs.Outcome.{pick, better, tie_order, gain_order}
use Rattle.lp.specs.Outcome as defined
use Rattle.lp.specs.declared.Ray.{Ray}
use Rattle.model.specs.Step.{narrow, gaining}
use Rattle.theory.proofs.Solver.{equal, P, betweenᵖ}
use Rattle.theory.proofs.Lists.{Picked, picked}
use Rattle.theory.proofs.Extension.{extended}
use Rattle.theory.proofs.Direction.{Upward, AtMost, at-most_trans, at-most-both, ray_path}
use Rattle.theory.proofs.Lexicographic.{Up, up-null, above-up, not-above-up}
use Rattle.theory.proofs.Cone.{Quadrant, Spans, Gains, narrow-spans, gaining-gains}
use Rattle.theory.proofs.Reduction.{lowest-unique}
use Rattle.theory.proofs.Vertex.{Vertex, vertex-proper, vertex-lowest}
use Rattle.theory.proofs.Ties.{GoodTie, tie-upward, gain-upward}
use Rattle.theory.proofs.Peak.{Peak}
use Rattle.theory.proofs.Enumeration.{allowed_vertices, vertex_of, feasible_of, feasible-listed}
use Rattle.theory.proofs.Begin.{floors-quadrant, standing_at_first}
use Rattle.theory.proofs.Meaning.{Means, outcome-means, flattest-unique}
use Rattle.boundary.specs.Ring.{grown, corners}
use Rattle.boundary.specs.Objectives.{cone_from, cone_of, decided_by, outcome_by}
use Rattle.boundary.proofs.Theorems.{ring-corners}

-- ---- the pass over the corners

module _ (S : List Constraint) (fs : List Functional) (O : Upward (Up fs)) where
  at-most-self : (v : Point) → AtMost (Up fs) v v
  at-most-self v =
      up-null fs (between v v)
      (record {
        no_dx = equal (P ∷ []) (λ v. (betweenᵖ v v).dx ≐ con (pos 0)) refl v;
        no_dy = equal (P ∷ []) (λ v. (betweenᵖ v v).dy ≐ con (pos 0)) refl v;
      })

  not-better-at-most : (v w : Point) → T (not (better fs w v)) → AtMost (Up fs) w v
  not-better-at-most v w t =
      subst (Up fs) (ray_path (equal (P ∷ P ∷ []) (λ v w. ⊝ (betweenᵖ v w).dx ≐ (betweenᵖ w v).dx) refl v w)
      (equal (P ∷ P ∷ []) (λ v w. ⊝ (betweenᵖ v w).dy ≐ (betweenᵖ w v).dy) refl v w)) (not-above-up fs (between v w) t)

  -- from any list of the feasible vertices the peak is picked
  pub peak-picked-from :
      (p : Point) →
      Peak (Up fs) S p →
      (v : Point) (vs : List Point) →
      ((x : Point) → Memᴰ x (v ∷ vs) ↔ Memᴰ x (allowed_vertices S)) →
      pick (better fs) v vs ≡ p
  peak-picked-from p peak v vs exactly =
      lowest-unique q p (vertex-proper S q q-vertex) (vertex-proper S p peak.vertex) (vertex-lowest S q q-vertex)
      (vertex-lowest S p peak.vertex)
      (at-most-both (Up fs) O q p (peak.greatest q (feasible_of S q q-listed)) (choice.first p p-listed))
    where
      q : Point
      q = pick (better fs) v vs

      choice :
          Picked (better fs) (λ x. pos 0 <ᶻ x.d) (AtMost (Up fs)) (λ x h. at-most-self x)
          (λ x y z hx hy hz. at-most_trans (Up fs) O x y z (pos_nn hx) hy (pos_nn hz)) (λ x y hx hy t. above-up fs (between x y) t)
          (λ x y hx hy t. not-better-at-most x y t) v vs q
      choice =
          picked (better fs) (λ x. pos 0 <ᶻ x.d) (AtMost (Up fs)) (λ x h. at-most-self x)
          (λ x y z hx hy hz. at-most_trans (Up fs) O x y z (pos_nn hx) hy (pos_nn hz)) (λ x y hx hy t. above-up fs (between x y) t)
          (λ x y hx hy t. not-better-at-most x y t) v vs (λ x i. vertex-proper S x (vertex_of S x ((exactly x).0 i)))

      q-listed : Memᴰ q (allowed_vertices S)
      q-listed = (exactly q).0 choice.member

      q-vertex : Vertex S q
      q-vertex = vertex_of S q q-listed

      p-listed : Memᴰ p (v ∷ vs)
      p-listed = (exactly p).1 (feasible-listed S p peak.vertex peak.feasible)

-- ---- the cone

cone_spans :
    (S rules : List Constraint) (rays : Option (Ray × Ray)) →
    Quadrant S →
    Spans S rays →
    Spans (S ++ rules) (cone_from rays rules)
cone_spans S [] rays quadrant spans = subst (λ T. Spans T rays) (sym (append-nil S)) spans
cone_spans S (h ∷ rules) rays quadrant spans =
    subst (λ T. Spans T (cone_from (narrow h rays) rules)) (append_assoc S (h ∷ []) rules)
    (cone_spans (S ++ (h ∷ [])) rules (narrow h rays) (λ d r. quadrant d (λ c i. r c ((extended S h).old c i)))
    (narrow-spans S (S ++ (h ∷ [])) h (extended S h) quadrant rays spans))

module _ (t : Tie) (good : GoodTie t) (floors : Floors) (f : Functional) (rules : List Constraint) where
  abbrev S : List Constraint
  S = system floors rules

  cone_gains : Gains S f (gaining f (cone_of rules))
  cone_gains =
      gaining-gains S f (floors-quadrant floors rules) (cone_of rules)
      (cone_spans (system floors []) rules (Some (ray (pos 1) (pos 0), ray (pos 0) (pos 1))) (floors-quadrant floors [])
      (standing_at_first floors t good f).spans)

  -- ---- the theorem

  module _ (vs : List Point) (exactly : (x : Point) → Memᴰ x vs ↔ Memᴰ x (allowed_vertices S)) where
    -- the corners and the cone give the defined outcome
    pub outcome-by-corners : outcome_by t f vs (cone_of rules) ≡ defined.outcome t floors f rules
    outcome-by-corners =
        go (defined.outcome t floors f rules) (outcome-means t good floors f rules) vs exactly (gaining f (cone_of rules)) cone_gains
      where
        Exactly : List Point → Type 0
        Exactly us = (x : Point) → Memᴰ x us ↔ Memᴰ x (allowed_vertices S)

        go : (o : Outcome) → Means t f S o → (us : List Point) → Exactly us → (g : Option Ray) → Gains S f g → decided_by t f us g ≡ o
        go outcome.Infeasible m [] e g gains = refl
        go outcome.Infeasible m (u ∷ us) e g gains = absurd (m u (feasible_of S u ((e u).0 (Memᴰ.head refl))))
        go (outcome.Unbounded s d) m [] e g gains =
            absurd (Memᴰ.not-nil ((e s).1 (feasible-listed S s m.start.vertex m.start.feasible)))
        go (outcome.Unbounded s d) m (u ∷ us) e (Some c) gains =
            ap₂ (λ x y. outcome.Unbounded x y) (peak-picked-from S (tie_order t) (tie-upward t good) s m.start u us e)
            (flattest-unique t good f S c m.along-ray gains m.flattest ∙ sym m.divided)
        go (outcome.Unbounded s d) m (u ∷ us) e None gains =
            clash_ℤ m.flattest.gains (gains m.along-ray m.flattest.recedes)
        go (outcome.Optimal v) m [] e g gains =
            absurd (Memᴰ.not-nil ((e v).1 (feasible-listed S v m.peak.vertex m.peak.feasible)))
        go (outcome.Optimal v) m (u ∷ us) e (Some c) gains = clash_ℤ gains.gains (m.no_gain c gains.recedes)
        go (outcome.Optimal v) m (u ∷ us) e None gains =
            ap outcome.Optimal (peak-picked-from S (gain_order f t) (gain-upward t good f) v m.peak u us e)

  -- so do the corners of the ring, in whatever order the rules entered it
  pub outcome-by-ring :
      (order : List Constraint) →
      ((r : Constraint) → Memᴰ r rules → Memᴰ r order) →
      ((r : Constraint) → Memᴰ r order → Memᴰ r rules) →
      outcome_by t f (corners (grown floors order)) (cone_of rules) ≡ defined.outcome t floors f rules
  outcome-by-ring order to from = outcome-by-corners (corners (grown floors order)) (ring-corners floors rules order to from)
