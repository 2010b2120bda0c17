-- The place at which the walk ends is the defined one.
use Rattle.std.specs.Prelude.{Option, Result, Ok, Err}
use mathlib.Core.Path.{◌≡◌, sym, ◌∙◌, ap, subst}
use mathlib.Core.List.{List, [], ◌∷◌, ◌++◌}
use mathlib.Core.Bool.{Bool, true, false}
use Prim.Native.Nat.{ℕ, suc, ◌-◌}
use native.Mathlib.Omega.{arith}
use lib.ListN.{length, length-append}
use Rattle.lp.specs.declared.Constraint.{Constraint}
use Rattle.lp.specs.declared.Functional.{Functional}
use Rattle.lp.specs.declared.Floors.{Floors}
use Rattle.lp.specs.declared.Point.{Point}
use Rattle.lp.specs.declared.Tie.{Tie}
use Rattle.lp.specs.declared.Certificate.{Certificate}
use Rattle.lp.specs.Program.{system}
use Rattle.lp.specs.Outcome.{outcome, keeps, gain_order}
use Rattle.lp.specs.Prefixes.{is_infeasible, place_from}
use Rattle.lp.specs.declared.Ray.{Ray}
use Rattle.model.specs.declared.State.{State}
use Rattle.model.specs.declared.State.TheVariants.{Ended, Going}
use Rattle.model.specs.declared.Walk.{Walk}
use Rattle.model.specs.Step.{restart, narrow, improved, settled, recounted, stepped, step, walk_from, said, place_of}
use Rattle.theory.proofs.Ties.{GoodTie}
use Rattle.theory.proofs.Standing.{Standing}
use Rattle.theory.proofs.Walk.{Stands, state_says, stands-step, feasible-by_state}

ended-stays :
    (t : Tie) (f : Functional) (S : List Constraint) (n : ℕ) (rest : List Constraint) (w : Walk) (p : ℕ) (c : Certificate) →
    w.state ≡ Ended p c →
    (walk_from t f S n rest w).state ≡ Ended p c
ended-stays t f S n [] w p c e = e
ended-stays t f S n (h ∷ rest) w p c e =
    ended-stays t f (S ++ (h ∷ [])) (suc n) rest (step t f S n h w) p c
    (ap (λ x. (stepped t f S n h w.moves w.opened w.restarts x).state) e)

module _ (t : Tie) (good : GoodTie t) (floors : Floors) (f : Functional) where
  abbrev infeasible : List Constraint → Bool
  infeasible l = is_infeasible (outcome t floors f l)

  -- an infeasible prefix is the place
  place_here : (done rest : List Constraint) → infeasible done ≡ true → place_from t floors f done rest ≡ length done
  place_here done [] e = ap (λ b. elim b [ true ↦ length done | false ↦ 0 ]) e
  place_here done (h ∷ rest) e = ap (λ b. elim b [ true ↦ length done | false ↦ place_from t floors f (done ++ (h ∷ [])) rest ]) e

  going-feasible :
      (done : List Constraint) (s : Point) (rays : Option (Ray × Ray)) (b : Option Point) →
      Standing t f (system floors done) s rays b →
      infeasible done ≡ false
  going-feasible done s rays b standing =
      sym (ap is_infeasible (state_says t good floors f done (Going s rays b) standing))
      ∙ feasible-by_state t good floors f (system floors done) s rays b standing.optimum

  pub walk-place :
      (done rest : List Constraint) (w : Walk) (s : Point) (rays : Option (Ray × Ray)) (b : Option Point) →
      w.state ≡ Going s rays b →
      Stands t good floors f done w.state →
      place_of (walk_from t f (system floors done) (length (system floors done)) rest w).state ≡ place_from t floors f done rest
  walk-place done [] w s rays b e stands =
      ap place_of e ∙ sym (ap (λ b. elim b [ true ↦ length done | false ↦ 0 ])
      (going-feasible done s rays b (subst (Stands t good floors f done) e stands)))
  walk-place done (h ∷ rest) w s rays b e stands =
      subst (λ n. place_of (walk_from t f (system floors (done ++ (h ∷ []))) n rest w₁).state
      ≡ place_from t floors f (done ++ (h ∷ [])) rest) count
      (go (elim (keeps h s) [ true ↦ Ok s | false ↦ restart t (system floors done) (length (system floors done)) h ])
      (ap (λ x. (stepped t f (system floors done) (length (system floors done)) h w.moves w.opened w.restarts x).state) e)
      (λ s' rays' b' e'. walk-place (done ++ (h ∷ [])) rest w₁ s' rays' b' e' stands₁))
      ∙ sym (ap (λ b. elim b [ true ↦ length done | false ↦ place_from t floors f (done ++ (h ∷ [])) rest ])
      (going-feasible done s rays b (subst (Stands t good floors f done) e stands)))
    where
      w₁ : Walk
      w₁ = step t f (system floors done) (length (system floors done)) h w

      stands₁ : Stands t good floors f (done ++ (h ∷ [])) w₁.state
      stands₁ = stands-step t good floors f done h w stands

      count : length (system floors (done ++ (h ∷ []))) ≡ suc (length (system floors done))
      count = omega (arith, length-append done (h ∷ []))

      here : length (system floors done) - 1 ≡ length (done ++ (h ∷ []))
      here = omega (arith, length-append done (h ∷ []))

      Settles : State → Result Point Certificate → Type 0
      Settles x r =
          x ≡ (settled t f (system floors done) (length (system floors done)) h rays b w.moves w.opened (recounted w.restarts h
          s) r).state

      go :
          (r : Result Point Certificate) →
          Settles w₁.state r →
          ((s' : Point) (rays' : Option (Ray × Ray)) (b' : Option Point) → w₁.state ≡ Going s' rays' b' →
          place_of (walk_from t f (system floors (done ++ (h ∷ []))) (length (system floors (done ++ (h ∷ [])))) rest w₁).state
          ≡ place_from t floors f (done ++ (h ∷ [])) rest) →
          place_of (walk_from t f (system floors (done ++ (h ∷ []))) (length (system floors (done ++ (h ∷ [])))) rest w₁).state
          ≡ place_from t floors f (done ++ (h ∷ [])) rest
      go (Ok s') q ih = ih s' (narrow h rays) (improved (gain_order f t) f (system floors done) h (narrow h rays) b) q
      go (Err c) q ih =
          ap place_of (ended-stays t f (system floors (done ++ (h ∷ []))) (length (system floors (done ++ (h ∷ [])))) rest w₁
          (length (system floors done) - 1) c q)
          ∙ here
          ∙ sym (place_here (done ++ (h ∷ [])) rest
          (sym (ap is_infeasible (state_says t good floors f (done ++ (h ∷ [])) w₁.state stands₁))
          ∙ ap (λ x. is_infeasible (said f x)) q))
