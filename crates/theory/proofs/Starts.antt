-- The start point along the walk: after each prefix it is the defined one, or none, its count is the defined one, and it is worked out
-- again exactly as often as the count says. Where no rule breaks it, whatever stands in the place of the working out is never asked.
use Rattle.std.specs.Prelude.{Option, Result, Ok, Err}
use mathlib.Core.Path.{◌≡◌, refl, sym, ◌∙◌, ap, subst}
use mathlib.Core.List.{List, [], ◌∷◌, ◌++◌, append-nil, append_assoc}
use mathlib.Core.Bool.{Bool, true, false, not, true≢false}
use mathlib.Core.Logic.{◌↔◌}
use Prim.Native.Nat.{ℕ, suc, ◌+◌, ◌≤◌}
use native.Mathlib.Omega.{arith}
use lib.ListN.{length, take, drop, take-append-drop}
use lib.IntN.{pos}
use Rattle.lp.specs.declared.Constraint.{Constraint}
use Rattle.lp.specs.declared.Functional.{Functional}
use Rattle.lp.specs.declared.Floors.{Floors}
use Rattle.lp.specs.declared.Point.{Point}
use Rattle.lp.specs.declared.Ray.{Ray}
use Rattle.lp.specs.declared.Tie.{Tie}
use Rattle.lp.specs.declared.Outcome.{Outcome}
use Rattle.lp.specs.declared.Outcome.TheVariants as outcome
use Rattle.lp.specs.Program.{point, system}
use Rattle.lp.specs.Textbook.{Infeasible}
use Rattle.lp.specs.Outcome.{keeps, decide}
use Rattle.lp.specs.Outcome as defined
use Rattle.lp.specs.Prefixes.{one_if, is_unbounded}
use Rattle.lp.specs.Start.{Start, none, at, first_of, start_of, is_lost, restarts_from, restarts}
use Rattle.lp.specs.declared.Certificate.{Certificate}
use Rattle.model.specs.declared.State.{State}
use Rattle.model.specs.declared.State.TheVariants.{Ended, Going}
use Rattle.model.specs.declared.Walk.{Walk}
use Rattle.model.specs.Step.{restart, settled, recounted, stepped, step, begin, walk_from, walk, start_held}
use Rattle.theory.proofs.Vertex.{vertex-lowest}
use Rattle.theory.proofs.Ties.{GoodTie}
use Rattle.theory.proofs.Enumeration.{allowed_vertices, lawful_rays}
use Rattle.theory.proofs.Walk.{Stands, state_starts, over-infeasible}
use Rattle.theory.proofs.Meaning.{walk-stands}
use Rattle.theory.proofs.Theorems.{FirstPoint}

-- ---- how often the start point is worked out

-- the step with r in the place of what `restart` gives
abbrev pub stepped_with : Result Point Certificate → Tie → Functional → List Constraint → ℕ → Constraint → ℕ → ℕ → ℕ → State → Walk
stepped_with r t f S n h moves opened restarts (Ended p c) =
    record { state = Ended p c; moves = moves; opened = opened; restarts = restarts }
stepped_with r t f S n h moves opened restarts (Going s rays b) =
    settled t f S n h rays b moves opened (recounted restarts h s) (elim (keeps h s) [ true ↦ Ok s | false ↦ r ])

-- the walk with R in the place of `restart`
abbrev pub walk_from_with :
    (List Constraint → ℕ → Constraint → Result Point Certificate) →
    Tie →
    Functional →
    List Constraint →
    ℕ →
    List Constraint →
    Walk →
    Walk
walk_from_with R t f S n [] w = w
walk_from_with R t f S n (h ∷ rest) w =
    walk_from_with R t f (S ++ (h ∷ [])) (suc n) rest (stepped_with (R S n h) t f S n h w.moves w.opened w.restarts w.state)

-- what a step gives, or a walk, and how often `restart` was used for it
pub record Logged : Type 0 where
  pub walk : Walk
  pub uses : ℕ

-- the step with its uses of `restart` written down. Where the start point is kept (true) it goes by that one; else by what `restart`
-- gives, and only there, beside it, stands a 1
abbrev pub logged_settled :
    Tie → Functional → List Constraint → ℕ → Constraint → Option (Ray × Ray) → Option Point → ℕ → ℕ → ℕ → Point → Bool → Logged
logged_settled t f S n h rays b moves opened restarts s true =
    record { walk = settled t f S n h rays b moves opened restarts (Ok s); uses = 0 }
logged_settled t f S n h rays b moves opened restarts s false =
    record { walk = settled t f S n h rays b moves opened restarts (restart t S n h); uses = 1 }

abbrev pub logged_stepped : Tie → Functional → List Constraint → ℕ → Constraint → ℕ → ℕ → ℕ → State → Logged
logged_stepped t f S n h moves opened restarts (Ended p c) =
    record { walk = record { state = Ended p c; moves = moves; opened = opened; restarts = restarts }; uses = 0 }
logged_stepped t f S n h moves opened restarts (Going s rays b) =
    logged_settled t f S n h rays b moves opened (recounted restarts h s) s (keeps h s)

abbrev pub logged_step : Tie → Functional → List Constraint → ℕ → Constraint → Walk → Logged
logged_step t f S n h w = logged_stepped t f S n h w.moves w.opened w.restarts w.state

-- the walk of such steps, and the sum of their uses. It is the walk: `logged-walk`
abbrev pub logged_from : Tie → Functional → List Constraint → ℕ → List Constraint → Walk → Logged
logged_from t f S n [] w = record { walk = w; uses = 0 }
logged_from t f S n (h ∷ rest) w =
    let one = logged_step t f S n h w in
    let others = logged_from t f (S ++ (h ∷ [])) (suc n) rest one.walk in
    record { walk = others.walk; uses = one.uses + others.uses }

-- how often the start point is worked out along the walk: its uses of `restart`
abbrev pub workings : Tie → Functional → List Constraint → ℕ → List Constraint → Walk → ℕ
workings t f S n rest w = (logged_from t f S n rest w).uses

module _ (t : Tie) (f : Functional) where
  -- the logged walk is the walk, step by step ..
  pub logged-step : (S : List Constraint) (n : ℕ) (h : Constraint) (w : Walk) → (logged_step t f S n h w).walk ≡ step t f S n h w
  logged-step S n h w = go w.state
    where
      settle :
          (k : ℕ) (s : Point) (rays : Option (Ray × Ray)) (b : Option Point) (u : Bool) →
          (logged_settled t f S n h rays b w.moves w.opened k s u).walk
          ≡ settled t f S n h rays b w.moves w.opened k (elim u [ true ↦ Ok s | false ↦ restart t S n h ])
      settle k s rays b true = refl
      settle k s rays b false = refl

      go :
          (x : State) →
          (logged_stepped t f S n h w.moves w.opened w.restarts x).walk ≡ stepped t f S n h w.moves w.opened w.restarts x
      go (Ended p c) = refl
      go (Going s rays b) = settle (recounted w.restarts h s) s rays b (keeps h s)

  pub logged_walk :
      (S : List Constraint) (n : ℕ) (rest : List Constraint) (w : Walk) →
      (logged_from t f S n rest w).walk ≡ walk_from t f S n rest w
  logged_walk S n [] w = refl
  logged_walk S n (h ∷ rest) w =
      logged_walk (S ++ (h ∷ [])) (suc n) rest (logged_step t f S n h w).walk
      ∙ ap (walk_from t f (S ++ (h ∷ [])) (suc n) rest) (logged-step S n h w)

  -- .. and its step uses `restart` once where the start point is lost, else not at all
  pub used_if_lost :
      (S : List Constraint) (n : ℕ) (h : Constraint) (w : Walk) →
      (logged_step t f S n h w).uses ≡ one_if (is_lost (start_held w.state) h)
  used_if_lost S n h w = go w.state
    where
      once :
          (k : ℕ) (s : Point) (rays : Option (Ray × Ray)) (b : Option Point) (u : Bool) →
          (logged_settled t f S n h rays b w.moves w.opened k s u).uses ≡ one_if (not u)
      once k s rays b true = refl
      once k s rays b false = refl

      go : (x : State) → (logged_stepped t f S n h w.moves w.opened w.restarts x).uses ≡ one_if (is_lost (start_held x) h)
      go (Ended p c) = refl
      go (Going s rays b) = once (recounted w.restarts h s) s rays b (keeps h s)

  workings-on :
      (S : List Constraint) (n : ℕ) (h : Constraint) (rest : List Constraint) (w : Walk) →
      workings t f S n (h ∷ rest) w
      ≡ one_if (is_lost (start_held w.state) h) + workings t f (S ++ (h ∷ [])) (suc n) rest (step t f S n h w)
  workings-on S n h rest w =
      ap (λ (k : ℕ). k + workings t f (S ++ (h ∷ [])) (suc n) rest (logged_step t f S n h w).walk) (used_if_lost S n h w)
      ∙ ap (λ (x : Walk). one_if (is_lost (start_held w.state) h) + workings t f (S ++ (h ∷ [])) (suc n) rest x) (logged-step S n h w)

  -- a step that loses the start point goes by what `restart` gives ..
  pub stepped-is :
      (S : List Constraint) (n : ℕ) (h : Constraint) (m o k : ℕ) (x : State) →
      stepped t f S n h m o k x ≡ stepped_with (restart t S n h) t f S n h m o k x
  stepped-is S n h m o k (Ended p c) = refl
  stepped-is S n h m o k (Going s rays b) = refl

  pub lost_worked_out :
      (S : List Constraint) (n : ℕ) (h : Constraint) (m o k : ℕ) (s : Point) (rays : Option (Ray × Ray)) (b : Option Point) →
      is_lost (at s) h ≡ true →
      stepped t f S n h m o k (Going s rays b) ≡ settled t f S n h rays b m o (k + 1) (restart t S n h)
  lost_worked_out S n h m o k s rays b = go (keeps h s)
    where
      go :
          (u : Bool) →
          not u ≡ true →
          settled t f S n h rays b m o (k + one_if (not u)) (elim u [ true ↦ Ok s | false ↦ restart t S n h ])
          ≡ settled t f S n h rays b m o (k + 1) (restart t S n h)
      go true e = absurd (true≢false (sym e))
      go false e = refl

  -- .. and no other: it is the same whatever stands there
  pub kept-not_worked_out :
      (S : List Constraint) (n : ℕ) (h : Constraint) (m o k : ℕ) (x : State) →
      is_lost (start_held x) h ≡ false →
      (r : Result Point Certificate) →
      stepped t f S n h m o k x ≡ stepped_with r t f S n h m o k x
  kept-not_worked_out S n h m o k (Ended p c) e r = refl
  kept-not_worked_out S n h m o k (Going s rays b) e r = go (keeps h s) e
    where
      go :
          (u : Bool) →
          not u ≡ false →
          settled t f S n h rays b m o (k + one_if (not u)) (elim u [ true ↦ Ok s | false ↦ restart t S n h ])
          ≡ settled t f S n h rays b m o (k + one_if (not u)) (elim u [ true ↦ Ok s | false ↦ r ])
      go true e = refl
      go false e = absurd (true≢false e)

  -- a step that keeps the start point has it as it was, and counts nothing
  pub kept-stays :
      (S : List Constraint) (n : ℕ) (h : Constraint) (m o k : ℕ) (s : Point) (rays : Option (Ray × Ray)) (b : Option Point) →
      keeps h s ≡ true →
      stepped t f S n h m o k (Going s rays b) ≡ settled t f S n h rays b m o k (Ok s)
  kept-stays S n h m o k s rays b e =
      ap (λ u. settled t f S n h rays b m o (k + one_if (not u)) (elim u [ true ↦ Ok s | false ↦ restart t S n h ])) e
      ∙ ap (λ (j : ℕ). settled t f S n h rays b m o j (Ok s)) (nothing-more k)
    where
      nothing-more : (k : ℕ) → k + 0 ≡ k
      nothing-more k = omega arith

  -- what a step adds to the count
  step_counts :
      (S : List Constraint) (n : ℕ) (h : Constraint) (w : Walk) →
      (step t f S n h w).restarts ≡ w.restarts + one_if (is_lost (start_held w.state) h)
  step_counts S n h w = go w.state
    where
      settle :
          (s : Point) (rays : Option (Ray × Ray)) (b : Option Point) (r : Result Point Certificate) →
          (settled t f S n h rays b w.moves w.opened (recounted w.restarts h s) r).restarts ≡ recounted w.restarts h s
      settle s rays b (Ok s') = refl
      settle s rays b (Err c) = refl

      nothing-more : (m : ℕ) → m ≡ m + 0
      nothing-more m = omega arith

      go : (x : State) → (stepped t f S n h w.moves w.opened w.restarts x).restarts ≡ w.restarts + one_if (is_lost (start_held x) h)
      go (Ended p c) = nothing-more w.restarts
      go (Going s rays b) = settle s rays b (elim (keeps h s) [ true ↦ Ok s | false ↦ restart t S n h ])

  -- the count is how often `restart` is used
  pub worked_out_counted :
      (S : List Constraint) (n : ℕ) (rest : List Constraint) (w : Walk) →
      (walk_from t f S n rest w).restarts ≡ w.restarts + workings t f S n rest w
  worked_out_counted S n [] w = nothing-more w.restarts
    where
      nothing-more : (m : ℕ) → m ≡ m + 0
      nothing-more m = omega arith
  worked_out_counted S n (h ∷ rest) w =
      add w.restarts (step t f S n h w).restarts (one_if (is_lost (start_held w.state) h)) (workings t f (S ++ (h ∷ [])) (suc n) rest
      (step t f S n h w)) (walk_from t f (S ++ (h ∷ [])) (suc n) rest (step t f S n h w)).restarts (step_counts S n h
      w) (worked_out_counted (S ++ (h ∷ [])) (suc n) rest (step t f S n h w))
      ∙ ap (λ (k : ℕ). w.restarts + k) (sym (workings-on S n h rest w))
    where
      add : (m m₁ a b m₂ : ℕ) → m₁ ≡ m + a → m₂ ≡ m₁ + b → m₂ ≡ m + (a + b)
      add m m₁ a b m₂ p q = omega arith

  -- with no rule that breaks the start point, the walk is the same whatever stands in the place of `restart`: no pass is made for it
  pub never_worked_out :
      (R : List Constraint → ℕ → Constraint → Result Point Certificate) (S : List Constraint) (n : ℕ) (rest : List Constraint) (w : Walk) →
      workings t f S n rest w ≡ 0 →
      walk_from t f S n rest w ≡ walk_from_with R t f S n rest w
  never_worked_out R S n [] w e = refl
  never_worked_out R S n (h ∷ rest) w e =
      never_worked_out R (S ++ (h ∷ [])) (suc n) rest (step t f S n h w)
      (later (one_if (is_lost (start_held w.state) h)) (workings t f (S ++ (h ∷ [])) (suc n) rest (step t f S n h w))
      (sym (workings-on S n h rest w) ∙ e))
      ∙ ap (walk_from_with R t f (S ++ (h ∷ [])) (suc n) rest) (kept-not_worked_out S n h w.moves w.opened w.restarts w.state
      (kept (is_lost (start_held w.state) h) (workings t f (S ++ (h ∷ [])) (suc n) rest (step t f S n h w))
      (sym (workings-on S n h rest w) ∙ e)) (R S n h))
    where
      later : (a b : ℕ) → a + b ≡ 0 → b ≡ 0
      later a b e = omega arith

      kept : (u : Bool) (b : ℕ) → one_if u + b ≡ 0 → u ≡ false
      kept true b e = absurd (more b e)
        where
          more : (b : ℕ) → 1 + b ≡ 0 → ⊥
          more b e = omega arith
      kept false b e = refl

  -- ---- the walk goes through its prefixes

  pub walk-passes :
      (S : List Constraint) (n : ℕ) (l m : List Constraint) (w : Walk) →
      walk_from t f S n (l ++ m) w ≡ walk_from t f (S ++ l) (n + length l) m (walk_from t f S n l w)
  walk-passes S n [] m w =
      ap (λ (A : List Constraint). walk_from t f A n m w) (sym (append-nil S)) ∙ ap (λ (k : ℕ). walk_from t f (S ++ []) k m w) (same n)
    where
      same : (n : ℕ) → n ≡ n + 0
      same n = omega arith
  walk-passes S n (h ∷ l) m w =
      walk-passes (S ++ (h ∷ [])) (suc n) l m (step t f S n h w)
      ∙ ap (λ (A : List Constraint). walk_from t f A (suc n + length l) m w₁) (append_assoc S (h ∷ []) l)
      ∙ ap (λ (k : ℕ). walk_from t f (S ++ (h ∷ l)) k m w₁) (shift n (length l))
    where
      w₁ : Walk
      w₁ = walk_from t f (S ++ (h ∷ [])) (suc n) l (step t f S n h w)

      shift : (n k : ℕ) → suc n + k ≡ n + suc k
      shift n k = omega arith

-- ---- the theorems of request 104

module _ (t : Tie) (good : GoodTie t) (floors : Floors) (f : Functional) where
  pub record WalkStarts (rules : List Constraint) : Type 0 where
    pub start_defined : start_held (walk t floors f rules).state ≡ start_of t floors rules
    pub restarts_defined : (walk t floors f rules).restarts ≡ restarts t floors rules
    pub same-walk : (logged_from t f (system floors []) 2 rules (begin floors f)).walk ≡ walk t floors f rules
    pub worked_out : workings t f (system floors []) 2 rules (begin floors f) ≡ restarts t floors rules

  pub walk-starts : (rules : List Constraint) → WalkStarts rules
  walk-starts rules =
      record {
        start_defined = state_starts t good floors f rules (walk t floors f rules).state (walk-stands t good floors f rules).stands;
        restarts_defined = counted;
        same-walk = logged_walk t f (system floors []) 2 rules (begin floors f);
        worked_out =
            less (workings t f (system floors []) 2 rules (begin floors f)) (walk t floors f rules).restarts (worked_out_counted t f
            (system floors []) 2 rules (begin floors f)) ∙ counted;
      }
    where
      first : (m n : ℕ) → m ≡ 0 + n → m ≡ n
      first m n e = omega arith

      less : (n m : ℕ) → m ≡ 0 + n → n ≡ m
      less n m e = omega arith

      counted : (walk t floors f rules).restarts ≡ restarts t floors rules
      counted = first (walk t floors f rules).restarts (restarts_from t floors [] rules) (walk-stands t good floors f rules).restarted

  -- the walk of a chain goes on from the walk of each prefix, of which the above holds
  pub walk-prefix :
      (k : ℕ) (rules : List Constraint) →
      walk t floors f rules ≡ walk_from t f (system floors (take k rules)) (2 + length (take k rules)) (drop k rules) (walk t floors f
      (take k rules))
  walk-prefix k rules =
      ap (walk t floors f) (sym (take-append-drop k rules))
      ∙ walk-passes t f (system floors []) 2 (take k rules) (drop k rules) (begin floors f)

  -- no rule breaks it: nothing is worked out
  pub unbroken_never_worked_out :
      (rules : List Constraint) →
      restarts t floors rules ≡ 0 →
      (R : List Constraint → ℕ → Constraint → Result Point Certificate) →
      walk t floors f rules ≡ walk_from_with R t f (system floors []) 2 rules (begin floors f)
  unbroken_never_worked_out rules e R =
      never_worked_out t f R (system floors []) 2 rules (begin floors f) ((walk-starts rules).worked_out ∙ e)

  -- what the start point means
  abbrev point-in : Start → Point
  point-in none = point (pos 0) (pos 0) (pos 0)
  point-in (at s) = s

  abbrev is_none : Start → Bool
  is_none none = true
  is_none (at s) = false

  none-not-at : (s : Point) → none ≡ at s → ⊥
  none-not-at s e = true≢false (ap is_none e)

  module _ (rules : List Constraint) where
    -- none exactly where no pair is allowed
    pub none-exactly : (start_of t floors rules ≡ none) ↔ Infeasible (system floors rules)
    none-exactly = (
      go (walk t floors f rules).state (walk-stands t good floors f rules).stands,
      back (walk t floors f rules).state (walk-stands t good floors f rules).stands,
    )
      where
        go : (x : State) → Stands t good floors f rules x → start_of t floors rules ≡ none → Infeasible (system floors rules)
        go (Ended p c) o e = over-infeasible t good floors f rules p c o
        go (Going s rays b) standing e = absurd (none-not-at s (sym e ∙ sym (state_starts t good floors f rules (Going s rays b) standing)))

        back : (x : State) → Stands t good floors f rules x → Infeasible (system floors rules) → start_of t floors rules ≡ none
        back (Ended p c) o h = sym (state_starts t good floors f rules (Ended p c) o)
        back (Going s rays b) standing h = absurd (h s standing.start.feasible)

    -- else the allowed pair that is first by the tie, reduced
    pub at_first : (s : Point) → start_of t floors rules ≡ at s → FirstPoint t good floors f rules s
    at_first s = go (walk t floors f rules).state (walk-stands t good floors f rules).stands
      where
        go : (x : State) → Stands t good floors f rules x → start_of t floors rules ≡ at s → FirstPoint t good floors f rules s
        go (Ended p c) o e = absurd (none-not-at s (state_starts t good floors f rules (Ended p c) o ∙ e))
        go (Going u rays b) standing e =
            subst (FirstPoint t good floors f rules) (ap point-in (state_starts t good floors f rules (Going u rays b) standing ∙ e))
            (record {
              feasible = standing.start.feasible;
              first = standing.start.greatest;
              reduced = vertex-lowest
                  (system floors rules) u standing.start.vertex;
            })

  -- the pair of an unlimited outcome is the start pair
  pub unbounded_start :
      (rules : List Constraint) (s : Point) (d : Ray) →
      defined.outcome t floors f rules ≡ outcome.Unbounded s d →
      start_of t floors rules ≡ at s
  unbounded_start rules s d = go (allowed_vertices (system floors rules)) (lawful_rays (system floors rules) f)
    where
      go : (vs : List Point) (ds : List Ray) → decide t f vs ds ≡ outcome.Unbounded s d → first_of t vs ≡ at s
      go [] ds e = absurd (true≢false (sym (ap is_unbounded e)))
      go (v ∷ vs) [] e = absurd (true≢false (sym (ap is_unbounded e)))
      go (v ∷ vs) (x ∷ ds) e = ap (λ o. at (point_of o)) e
        where
          point_of : Outcome → Point
          point_of outcome.Infeasible = s
          point_of (outcome.Unbounded u x) = u
          point_of (outcome.Optimal u) = u

  -- never more than there are rules
  restarts-from : (done rest : List Constraint) → restarts_from t floors done rest ≤ length rest
  restarts-from done [] = omega arith
  restarts-from done (h ∷ rest) = omega (arith, at_most_one (is_lost (start_of t floors done) h), restarts-from (done ++ (h ∷ [])) rest)
    where
      at_most_one : (u : Bool) → one_if u ≤ 1
      at_most_one true = omega arith
      at_most_one false = omega arith

  pub restarts-at-most : (rules : List Constraint) → restarts t floors rules ≤ length rules
  restarts-at-most rules = restarts-from [] rules
