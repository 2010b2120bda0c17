-- The walk is the definition: after every prefix its state says the defined outcome, and its place and counts are the defined ones.
use Rattle.std.specs.Prelude.{Option, None, Some, Result, Ok, Err}
use mathlib.Core.Path.{◌≡◌, refl, sym, ◌∙◌, ap, ap₂, subst}
use mathlib.Core.List.Memᴰ
use mathlib.Core.List.{List, [], ◌∷◌, ◌++◌, append-nil, append_assoc, Memᴰ}
use mathlib.Core.Bool.{Bool, true, false, not}
use Prim.Native.Nat.{ℕ, zero, suc, ◌+◌, ◌-◌, ◌≤◌}
use native.Mathlib.Omega.{arith}
use lib.ListN.{length, take, length-append}
use lib.Seq.{take-append-le, take_all}
use Rattle.lp.specs.declared.Constraint.{Constraint}
use Rattle.lp.specs.declared.Functional.{Functional}
use Rattle.lp.specs.declared.Floors.{Floors}
use Rattle.lp.specs.declared.Point.{Point}
use Rattle.lp.specs.declared.Ray.{Ray}
use Rattle.lp.specs.declared.Tie.{Tie}
use Rattle.lp.specs.declared.Certificate.{Certificate}
use Rattle.lp.specs.declared.Outcome.TheVariants as outcome
use Rattle.lp.specs.Program.{Feasible, system}
use Rattle.lp.specs.Textbook.{Infeasible}
use Rattle.lp.specs.Outcome.{keeps, reduce_ray, tie_order, gain_order, decide, outcome_of}
use Rattle.lp.specs.Outcome as defined
use Rattle.lp.specs.Prefixes.{one_if, is_infeasible, is_unbounded, is_broken, moves_from, open_from}
use Rattle.lp.specs.Start.{at, first_of, start_in, start_of, is_lost, restarts_from}
use Rattle.lp.specs.Certificate.{named}
use Rattle.model.specs.declared.State.{State}
use Rattle.model.specs.declared.State.TheVariants.{Ended, Going}
use Rattle.model.specs.declared.Walk.{Walk}
use Rattle.model.specs.Step.{restart, narrow, improved, is_open, breaks, settled, recounted, stepped, step, walk_from, said_ray, said}
use Rattle.model.specs.Step.{start_held}
use Rattle.theory.proofs.Lists.{for-members}
use Rattle.theory.proofs.Farkas.{refutation_excludes}
use Rattle.theory.proofs.Conflict.{Certified}
use Rattle.theory.proofs.Lexicographic.{Up}
use Rattle.theory.proofs.Peak.{Peak}
use Rattle.theory.proofs.Ties.{GoodTie, tie-upward, gain-upward}
use Rattle.theory.proofs.Cone.{Flattest}
use Rattle.theory.proofs.Restart.{Restarted}
use Rattle.theory.proofs.Enumeration.{allowed_vertices, lawful_rays, none_allowed, feasible-listed, peak-picked, no_lawful_rays}
use Rattle.theory.proofs.Enumeration.{flattest-listed, flattest-picked}
use Rattle.theory.proofs.Standing.{Standing, BestStands, gains-along, gains-nowhere, start-step, standing_step}

-- ---- what a sound state is

-- the first p constraints are refuted
pub record Over (floors : Floors) (done : List Constraint) (p : ℕ) (c : Certificate) : Type 0 where
  pub within : p ≤ length done
  pub certified : Certified (system floors (take p done)) c

module _ (t : Tie) (good : GoodTie t) (floors : Floors) (f : Functional) where
  abbrev pub Stands : List Constraint → State → Type 0
  Stands done (Ended p c) = Over floors done p c
  Stands done (Going s rays b) = Standing t f (system floors done) s rays b

  -- ---- it says the defined outcome

  -- constraints are never fewer than those of a prefix
  prefix-feasible :
      (p : ℕ) (done : List Constraint) (v : Point) →
      Feasible (system floors done) v →
      Feasible (system floors (take p done)) v
  prefix-feasible p done v h =
      record {
        proper = h.proper;
        kept = λ r i. h.kept r (in_system r i);
      }
    where
      taken : (p : ℕ) (l : List Constraint) (r : Constraint) → Memᴰ r (take p l) → Memᴰ r l
      taken zero l r i = absurd (Memᴰ.not-nil i)
      taken (suc p) [] r i = i
      taken (suc p) (x ∷ l) r i =
          for-members (λ r. Memᴰ r (x ∷ l)) x (take p l) (Memᴰ.head refl) (λ y j. Memᴰ.tail (taken p l y j)) r i

      in_system : (r : Constraint) → Memᴰ r (system floors (take p done)) → Memᴰ r (system floors done)
      in_system =
          for-members (λ r. Memᴰ r (system floors done)) _ _ (Memᴰ.head refl)
          (for-members (λ r. Memᴰ r (system floors done)) _ _ (Memᴰ.tail (Memᴰ.head refl))
          (λ r i. Memᴰ.tail (Memᴰ.tail (taken p done r i))))

  pub over-infeasible :
      (done : List Constraint) (p : ℕ) (c : Certificate) →
      Over floors done p c →
      Infeasible (system floors done)
  over-infeasible done p c o v h =
      refutation_excludes (system floors (take p done)) (named c) o.certified.refutes v (prefix-feasible p done v h)

  said-infeasible : (S : List Constraint) → Infeasible S → outcome_of t f S ≡ outcome.Infeasible
  said-infeasible S h = ap (λ l. decide t f l (lawful_rays S f)) (none_allowed S h)

  said_standing :
      (S : List Constraint) (s : Point) (rays : Option (Ray × Ray)) (b : Option Point) →
      Standing t f S s rays b →
      said f (Going s rays b) ≡ outcome_of t f S
  said_standing S s rays b standing = go (allowed_vertices S) refl b standing.optimum
    where
      open_said :
          (v : Point) (vs : List Point) →
          allowed_vertices S ≡ v ∷ vs →
          (d : Ray) →
          Flattest S f d →
          (lawful : List Ray) →
          lawful_rays S f ≡ lawful →
          outcome.Unbounded s (reduce_ray d) ≡ decide t f (v ∷ vs) lawful
      open_said v vs e d flat [] r = absurd (Memᴰ.not-nil (subst (λ l. Memᴰ d l) r (flattest-listed S f d flat)))
      open_said v vs e d flat (x ∷ xs) r =
          ap₂ (λ y z. outcome.Unbounded y z) (sym (peak-picked S (tie_order t) (tie-upward t good) s standing.start v vs e))
          (sym (flattest-picked S f standing.quadrant d flat x xs r))

      go :
          (l : List Point) → allowed_vertices S ≡ l → (b : Option Point) → BestStands t f S rays b →
          said f (Going s rays b) ≡ outcome_of t f S
      go [] e b o =
          absurd (Memᴰ.not-nil
          (subst (λ l. Memᴰ s l) e (feasible-listed S s standing.start.vertex standing.start.feasible)))
      go (v ∷ vs) e None (d, g) =
          ap (said_ray s) g
          ∙ open_said v vs e d (gains-along S f rays standing.quadrant standing.spans d g) (lawful_rays S f) refl
          ∙ ap (λ l. decide t f l (lawful_rays S f)) (sym e)
      go (v ∷ vs) e (Some w) (peak, g) =
          ap (λ z. outcome.Optimal z) (sym (peak-picked S (gain_order f t) (gain-upward t good f) w peak v vs e))
          ∙ sym (ap₂ (λ l m. decide t f l m) e (no_lawful_rays S f (gains-nowhere S f rays standing.quadrant standing.spans g)))

  pub state_says :
      (done : List Constraint) (x : State) →
      Stands done x →
      said f x ≡ defined.outcome t floors f done
  state_says done (Ended p c) o = sym (said-infeasible (system floors done) (over-infeasible done p c o))
  state_says done (Going s rays b) standing = said_standing (system floors done) s rays b standing

  -- ---- and it holds the defined start point

  start_standing : (S : List Constraint) (s : Point) → Peak (Up (tie_order t)) S s → at s ≡ start_in t S
  start_standing S s peak = go (allowed_vertices S) refl
    where
      go : (l : List Point) → allowed_vertices S ≡ l → at s ≡ start_in t S
      go [] e = absurd (Memᴰ.not-nil (subst (λ l. Memᴰ s l) e (feasible-listed S s peak.vertex peak.feasible)))
      go (v ∷ vs) e = ap at (sym (peak-picked S (tie_order t) (tie-upward t good) s peak v vs e)) ∙ ap (first_of t) (sym e)

  pub state_starts :
      (done : List Constraint) (x : State) →
      Stands done x →
      start_held x ≡ start_of t floors done
  state_starts done (Ended p c) o = sym (ap (first_of t) (none_allowed (system floors done) (over-infeasible done p c o)))
  state_starts done (Going s rays b) standing = start_standing (system floors done) s standing.start

  -- ---- one more constraint

  over-longer :
      (done : List Constraint) (h : Constraint) (p : ℕ) (c : Certificate) →
      Over floors done p c →
      Over floors (done ++ (h ∷ [])) p c
  over-longer done h p c o =
      record {
        within = omega (arith, o.within, length-append done (h ∷ []));
        certified = subst (λ l. Certified (system floors l) c) (sym (take-append-le p done (h ∷ []) o.within)) o.certified;
      }

  over_now :
      (done : List Constraint) (h : Constraint) (c : Certificate) →
      Certified (system floors (done ++ (h ∷ []))) c →
      Over floors (done ++ (h ∷ [])) (length (system floors done) - 1) c
  over_now done h c o =
      record {
        within = omega (arith, longer);
        certified =
            subst (λ l. Certified (system floors l) c)
            (sym (take_all (length (system floors done) - 1) (done ++ (h ∷ [])) (omega (arith, longer)))) o;
      }
    where
      longer : length (done ++ (h ∷ [])) ≡ length done + 1
      longer = length-append done (h ∷ [])

  pub stands-step :
      (done : List Constraint) (h : Constraint) (w : Walk) →
      Stands done w.state →
      Stands (done ++ (h ∷ [])) (step t f (system floors done) (length (system floors done)) h w).state
  stands-step done h w = go w.state
    where
      settle :
          (s : Point) (rays : Option (Ray × Ray)) (b : Option Point) →
          Standing t f (system floors done) s rays b →
          (r : Result Point Certificate) →
          Restarted t (system floors done ++ (h ∷ [])) r →
          Stands (done ++ (h ∷ []))
          (settled t f (system floors done) (length (system floors done)) h rays b w.moves w.opened (recounted w.restarts h s)
          r).state
      settle s rays b standing (Ok s') peak = standing_step t good f (system floors done) h s rays b standing s' peak
      settle s rays b standing (Err c) o = over_now done h c o

      go :
          (x : State) →
          Stands done x →
          Stands (done ++ (h ∷ []))
          (stepped t f (system floors done) (length (system floors done)) h w.moves w.opened w.restarts x).state
      go (Ended p c) o = over-longer done h p c o
      go (Going s rays b) standing =
          settle s rays b standing (elim (keeps h s)
          [ true ↦ Ok s | false ↦ restart t (system floors done) (length (system floors done)) h ])
          (start-step t good f (system floors done) h s rays b standing)

  -- ---- counts of one step

  -- what is asked of the outcome is known of the state
  broken-by_state :
      (S : List Constraint) (h : Constraint) (s : Point) (rays : Option (Ray × Ray)) (b : Option Point) →
      BestStands t f S rays b →
      is_broken (said f (Going s rays b)) h ≡ breaks h b
  broken-by_state S h s rays None (d, e) = ap (λ g. is_broken (said_ray s g) h) e
  broken-by_state S h s rays (Some v) o = flip (keeps h v)
    where
      flip : (k : Bool) → not k ≡ elim k [ true ↦ false | false ↦ true ]
      flip true = refl
      flip false = refl

  pub open_by_state :
      (S : List Constraint) (s : Point) (rays : Option (Ray × Ray)) (b : Option Point) →
      BestStands t f S rays b →
      is_unbounded (said f (Going s rays b)) ≡ is_open b
  open_by_state S s rays None (d, e) = ap (λ g. is_unbounded (said_ray s g)) e
  open_by_state S s rays (Some v) o = refl

  pub feasible-by_state :
      (S : List Constraint) (s : Point) (rays : Option (Ray × Ray)) (b : Option Point) →
      BestStands t f S rays b →
      is_infeasible (said f (Going s rays b)) ≡ false
  feasible-by_state S s rays None (d, e) = ap (λ g. is_infeasible (said_ray s g)) e
  feasible-by_state S s rays (Some v) o = refl

  module _ (done : List Constraint) (h : Constraint) (w : Walk) where
    abbrev next : Walk
    next = step t f (system floors done) (length (system floors done)) h w

    step-moves : Stands done w.state → next.moves ≡ w.moves + one_if (is_broken (defined.outcome t floors f done) h)
    step-moves stands = go w.state stands
      where
        settle :
            (s : Point) (rays : Option (Ray × Ray)) (b : Option Point) (r : Result Point Certificate) →
            (settled t f (system floors done) (length (system floors done)) h rays b w.moves w.opened (recounted w.restarts h
            s) r).moves ≡ w.moves + one_if (breaks h b)
        settle s rays b (Ok s') = refl
        settle s rays b (Err c) = refl

        go :
            (x : State) →
            Stands done x →
            (stepped t f (system floors done) (length (system floors done)) h w.moves w.opened w.restarts x).moves
            ≡ w.moves + one_if (is_broken (defined.outcome t floors f done) h)
        go (Ended p c) o =
            nothing-more w.moves ∙ ap (λ z. w.moves + one_if (is_broken z h)) (state_says done (Ended p c) o)
          where
            nothing-more : (m : ℕ) → m ≡ m + 0
            nothing-more m = omega arith
        go (Going s rays b) standing =
            settle s rays b (elim (keeps h s) [ true ↦ Ok s | false ↦ restart t (system floors done) (length (system floors done)) h ])
            ∙ ap (λ z. w.moves + one_if z) (sym (broken-by_state (system floors done) h s rays b standing.optimum)
            ∙ ap (λ z. is_broken z h) (state_says done (Going s rays b) standing))

    step-opened : Stands done w.state → next.opened ≡ w.opened + one_if (is_unbounded (defined.outcome t floors f (done ++ (h ∷ []))))
    step-opened stands =
        go w.state stands ∙ ap (λ z. w.opened + one_if (is_unbounded z)) (state_says (done ++ (h ∷ [])) next.state
        (stands-step done h w stands))
      where
        none : (m : ℕ) → m ≡ m + 0
        none m = omega arith

        settle :
            (s : Point) (rays : Option (Ray × Ray)) (b : Option Point) →
            Standing t f (system floors done) s rays b →
            (r : Result Point Certificate) →
            Restarted t (system floors done ++ (h ∷ [])) r →
            (settled t f (system floors done) (length (system floors done)) h rays b w.moves w.opened (recounted w.restarts h
            s) r).opened ≡ w.opened + one_if (is_unbounded
            (said f (settled t f (system floors done) (length (system floors done)) h rays b w.moves w.opened
            (recounted w.restarts h s) r).state))
        settle s rays b standing (Ok s') peak =
            ap (λ z. w.opened + one_if z)
            (sym (open_by_state (system floors done ++ (h ∷ [])) s' (narrow h rays)
            (improved (gain_order f t) f (system floors done) h (narrow h rays) b)
            (standing_step t good f (system floors done) h s rays b standing s' peak).optimum))
        settle s rays b standing (Err c) o = none w.opened

        go :
            (x : State) →
            Stands done x →
            (stepped t f (system floors done) (length (system floors done)) h w.moves w.opened w.restarts x).opened
            ≡ w.opened + one_if (is_unbounded
            (said f (stepped t f (system floors done) (length (system floors done)) h w.moves w.opened w.restarts x).state))
        go (Ended p c) o = none w.opened
        go (Going s rays b) standing =
            settle s rays b standing (elim (keeps h s)
            [ true ↦ Ok s | false ↦ restart t (system floors done) (length (system floors done)) h ])
            (start-step t good f (system floors done) h s rays b standing)

    -- the start point is counted where it is lost
    step-restarts : Stands done w.state → next.restarts ≡ w.restarts + one_if (is_lost (start_of t floors done) h)
    step-restarts stands = go w.state ∙ ap (λ z. w.restarts + one_if (is_lost z h)) (state_starts done w.state stands)
      where
        nothing-more : (m : ℕ) → m ≡ m + 0
        nothing-more m = omega arith

        settle :
            (s : Point) (rays : Option (Ray × Ray)) (b : Option Point) (r : Result Point Certificate) →
            (settled t f (system floors done) (length (system floors done)) h rays b w.moves w.opened (recounted w.restarts h
            s) r).restarts ≡ recounted w.restarts h s
        settle s rays b (Ok s') = refl
        settle s rays b (Err c) = refl

        go :
            (x : State) →
            (stepped t f (system floors done) (length (system floors done)) h w.moves w.opened w.restarts x).restarts
            ≡ w.restarts + one_if (is_lost (start_held x) h)
        go (Ended p c) = nothing-more w.restarts
        go (Going s rays b) =
            settle s rays b (elim (keeps h s) [ true ↦ Ok s | false ↦ restart t (system floors done) (length (system floors done)) h ])

  -- ---- the whole walk

  pub record Agrees (done rest : List Constraint) (w w' : Walk) : Type 0 where
    pub stands : Stands (done ++ rest) w'.state
    pub moved : w'.moves ≡ w.moves + moves_from t floors f done rest
    pub restarted : w'.restarts ≡ w.restarts + restarts_from t floors done rest
    pub opening : one_if (is_unbounded (defined.outcome t floors f done)) + w'.opened ≡ w.opened + open_from t floors f done rest

  pub walk-agrees :
      (done rest : List Constraint) (w : Walk) →
      Stands done w.state →
      Agrees done rest w (walk_from t f (system floors done) (length (system floors done)) rest w)
  walk-agrees done [] w stands =
      record {
        stands = subst (λ l. Stands l w.state) (sym (append-nil done)) stands;
        moved = same w.moves;
        restarted = same w.restarts;
        opening = swap (one_if (is_unbounded (defined.outcome t floors f done))) w.opened;
      }
    where
      same : (m : ℕ) → m ≡ m + 0
      same m = omega arith

      swap : (m n : ℕ) → m + n ≡ n + m
      swap m n = omega arith
  walk-agrees done (h ∷ rest) w stands =
      through (subst (λ n. Agrees (done ++ (h ∷ [])) rest w₁ (walk_from t f (system floors (done ++ (h ∷ []))) n rest w₁)) count
      (walk-agrees (done ++ (h ∷ [])) rest w₁ (stands-step done h w stands)))
    where
      w₁ : Walk
      w₁ = step t f (system floors done) (length (system floors done)) h w

      count : length (system floors (done ++ (h ∷ []))) ≡ suc (length (system floors done))
      count = omega (arith, length-append done (h ∷ []))

      add-moves : (m m₁ m₂ a b : ℕ) → m₁ ≡ m + a → m₂ ≡ m₁ + b → m₂ ≡ m + (a + b)
      add-moves m m₁ m₂ a b p q = omega arith

      add-opened : (m m₁ m₂ a b c : ℕ) → m₁ ≡ m + b → b + m₂ ≡ m₁ + c → a + m₂ ≡ m + (a + c)
      add-opened m m₁ m₂ a b c p q = omega arith

      w₂ : Walk
      w₂ = walk_from t f (system floors (done ++ (h ∷ []))) (suc (length (system floors done))) rest w₁

      open_at : List Constraint → ℕ
      open_at l = one_if (is_unbounded (defined.outcome t floors f l))

      through :
          Agrees (done ++ (h ∷ [])) rest w₁
          (walk_from t f (system floors (done ++ (h ∷ []))) (suc (length (system floors done))) rest w₁) →
          Agrees done (h ∷ rest) w (walk_from t f (system floors done) (length (system floors done)) (h ∷ rest) w)
      through a =
          record {
            stands =
                subst (λ l. Stands l (walk_from t f (system floors (done ++ (h ∷ []))) (suc (length (system floors done))) rest w₁).state)
                (append_assoc done (h ∷ []) rest) a.stands;
            moved =
                add-moves w.moves w₁.moves w₂.moves (one_if (is_broken (defined.outcome t floors f done) h))
                (moves_from t floors f (done ++ (h ∷ [])) rest) (step-moves done h w stands) a.moved;
            restarted =
                add-moves w.restarts w₁.restarts w₂.restarts (one_if (is_lost (start_of t floors done) h))
                (restarts_from t floors (done ++ (h ∷ [])) rest) (step-restarts done h w stands) a.restarted;
            opening =
                add-opened w.opened w₁.opened w₂.opened (open_at done) (open_at (done ++ (h ∷ [])))
                (open_from t floors f (done ++ (h ∷ [])) rest) (step-opened done h w stands) a.opening;
          }
