-- The walk with the ring carried along is the walk. Each step is the model's, since the end of the new edge is what the model's pass
-- finds; and the ring stays a boundary of the entries so far. It holds from any ring that encloses them, so that the ring can be built
-- late.
use Rattle.std.specs.Prelude.{Option, None, Some, Result, Ok, Err}
use mathlib.Core.Path.{◌≡◌, refl, ◌∙◌, ap, ap₂}
use mathlib.Core.List.{List, [], ◌∷◌, ◌++◌}
use mathlib.Core.Bool.{Bool, true, false}
use Prim.Native.Nat.{ℕ, suc, ◌+◌}
use Rattle.lp.specs.declared.Constraint.{Constraint}
use Rattle.lp.specs.declared.Functional.{Functional}
use Rattle.lp.specs.declared.Floors.{Floors}
use Rattle.lp.specs.declared.Tie.{Tie}
use Rattle.lp.specs.declared.Point.{Point}
use Rattle.lp.specs.Program.{system}
use Rattle.lp.specs.Outcome.{keeps, tie_order, gain_order}
use Rattle.lp.specs.Prefixes.{one_if}
use Rattle.lp.specs.declared.Ray.{Ray}
use Rattle.lp.specs.declared.Certificate.{Certificate}
use Rattle.model.specs.declared.State.{State}
use Rattle.model.specs.declared.State.TheVariants.{Ended, Going}
use Rattle.model.specs.declared.Walk.{Walk}
use Rattle.model.specs.Step.{tightest_point, restart, narrow, gaining, reopened, improved, going, breaks, recounted, settled, stepped, step}
use Rattle.model.specs.Step.{begin, walk_from, walk}
use Rattle.theory.proofs.Extension.{extended}
use Rattle.boundary.specs.Size.{size, horizon}
use Rattle.boundary.specs.Ring.{keeps_at, front, back, closed, entered, insert, triangle}
use Rattle.boundary.specs.Quick.{End, nowhere, end_of, last_of, end_in, placed, new_end, restart_at, point_at}
use Rattle.boundary.specs.Quick.{reopened_to, improved_to, settled_to, stepped_to, quick_step, quick_walk_from, quick_walk}
use Rattle.boundary.proofs.Corner.{Corner}
use Rattle.boundary.proofs.Ways.{Way}
use Rattle.boundary.proofs.Boundary.{Boundary}
use Rattle.boundary.proofs.Insert.{Encloses, insert_encloses}
use Rattle.boundary.proofs.Grown.{triangle_encloses}
use Rattle.boundary.proofs.Ends.{after, end-tightest, end-restarts}

pub way_last :
    (R : Constraint → Constraint → Type 0) (p : Constraint) (l : List Constraint) (e : Constraint) →
    Way R p l e →
    R (last_of p l) e
way_last R p [] e w = w
way_last R p (q ∷ l) e w = way_last R q l e w.1

-- ---- the end that h gets, by cases

module _ (D : Constraint) (S : List Constraint) (h : Constraint) (fs : List Functional) (Q : End → Type 0) (none : Q nowhere)
    (ends : (k e : Constraint) → Corner D (after S h) k h → Corner D (after S h) h e → Q (end_of fs h k e)) where
  in_boundary : (l : List Constraint) → Boundary D (after S h) h l → Q (end_in fs h (h ∷ l))
  in_boundary [] b = none
  in_boundary (e ∷ l) b = ends (last_of e l) e (way_last (Corner D (after S h)) e l h b.edges.1) b.edges.0

  in_closed : (m : List Constraint) → Encloses D (after S h) (closed h m) → Q (end_in fs h (closed h m))
  in_closed [] b = none
  in_closed (p ∷ []) b = none
  in_closed (p ∷ q ∷ l) b = in_boundary (back h p (q ∷ l)) b

  pub in_placed : (m : List Constraint) → Encloses D (after S h) (entered h m) → Q (new_end fs h m)
  in_placed [] b = none
  in_placed (k ∷ []) b = none
  in_placed (k ∷ e ∷ l) b = go (keeps_at h k e) b
    where
      go :
          (t : Bool) →
          Encloses D (after S h) (elim t [ true ↦ k ∷ e ∷ l | false ↦ closed h (front h e (l ++ (k ∷ []))) ]) →
          Q (elim t [ true ↦ nowhere | false ↦ end_in fs h (closed h (front h e (l ++ (k ∷ [])))) ])
      go true b = none
      go false b = in_closed (front h e (l ++ (k ∷ []))) b

-- the model's search turns a ring so
pub placed_encloses :
    (D : Constraint) (S : List Constraint) (h : Constraint) (ring : List Constraint) →
    Encloses D (horizon ∷ S) ring →
    Encloses D (after S h) (entered h (placed D h ring))
placed_encloses D S h [] e = insert_encloses D (horizon ∷ S) (after S h) h (extended (horizon ∷ S) h) [] e
placed_encloses D S h (k ∷ l) e = insert_encloses D (horizon ∷ S) (after S h) h (extended (horizon ∷ S) h) (k ∷ l) e

-- ---- one step

module _ (t : Tie) (f : Functional) (S : List Constraint) (n : ℕ) (h : Constraint) where
  abbrev p : Point
  p = tightest_point (gain_order f t) S h

  reopened-to : (g : Option Ray) → reopened_to p g ≡ reopened (gain_order f t) S h g
  reopened-to (Some d) = refl
  reopened-to None = refl

  improved-to : (rays : Option (Ray × Ray)) (b : Option Point) → improved_to p f h rays b ≡ improved (gain_order f t) f S h rays b
  improved-to rays None = reopened-to (gaining f rays)
  improved-to rays (Some v) = refl

  settled-to :
      (rays : Option (Ray × Ray)) (b : Option Point) (moves opened restarts : ℕ) (r : Result Point Certificate) →
      settled_to p f n h rays b moves opened restarts r ≡ settled t f S n h rays b moves opened restarts r
  settled-to rays b moves opened restarts (Ok s) =
      ap (λ z. going s (narrow h rays) z (moves + one_if (breaks h b)) opened restarts) (improved-to (narrow h rays) b)
  settled-to rays b moves opened restarts (Err c) = refl

  stepped-to :
      (moves opened restarts : ℕ) (s : State) →
      stepped_to (restart t S n h) p f n h moves opened restarts s ≡ stepped t f S n h moves opened restarts s
  stepped-to moves opened restarts (Ended q c) = refl
  stepped-to moves opened restarts (Going s rays b) =
      settled-to rays b moves opened (recounted restarts h s) (elim (keeps h s) [ true ↦ Ok s | false ↦ restart t S n h ])

  -- with a ring turned in any way, so that h leaves a ring that encloses the entries with h
  pub quick_step-at :
      (D : Constraint) (m : List Constraint) →
      Encloses D (after S h) (entered h m) →
      (w : Walk) →
      quick_step t f S n h m w ≡ step t f S n h w
  quick_step-at D m e w =
      ap₂ (λ r q. stepped_to r q f n h w.moves w.opened w.restarts w.state)
      (in_placed D S h (tie_order t) (λ z. restart_at t S n h z ≡ restart t S n h) refl (λ k x b c. end-restarts S h D k x b c t n) m e)
      (in_placed D S h (gain_order f t) (λ z. point_at (gain_order f t) S h z ≡ p) refl
      (λ k x b c. end-tightest S h D k x b c (gain_order f t)) m e)
      ∙ stepped-to w.moves w.opened w.restarts w.state

  -- with the ring that the model's search turns
  pub quick-step :
      (D : Constraint) (ring : List Constraint) →
      Encloses D (horizon ∷ S) ring →
      (w : Walk) →
      quick_step t f S n h (placed D h ring) w ≡ step t f S n h w
  quick-step D ring e w = quick_step-at D (placed D h ring) (placed_encloses D S h ring e) w

-- ---- the walk

-- from any entries, any ring that encloses them, and any state
pub quick_walk-from :
    (t : Tie) (f : Functional) (D : Constraint) (S : List Constraint) (n : ℕ) (rest ring : List Constraint) →
    Encloses D (horizon ∷ S) ring →
    (w : Walk) →
    quick_walk_from t f D S n rest ring w ≡ walk_from t f S n rest w
quick_walk-from t f D S n [] ring e w = refl
quick_walk-from t f D S n (h ∷ rest) ring e w =
    quick_walk-from t f D (S ++ (h ∷ [])) (suc n) rest (insert D h ring)
    (insert_encloses D (horizon ∷ S) (after S h) h (extended (horizon ∷ S) h) ring e) (quick_step t f S n h (placed D h ring) w)
    ∙ ap (walk_from t f (S ++ (h ∷ [])) (suc n) rest) (quick-step t f S n h D ring e w)

pub quick-walk : (t : Tie) (floors : Floors) (f : Functional) (rules : List Constraint) → quick_walk t floors f rules ≡ walk t floors f rules
quick-walk t floors f rules =
    quick_walk-from t f (size floors) (system floors []) 2 rules (triangle floors) (triangle_encloses floors) (begin floors f)
