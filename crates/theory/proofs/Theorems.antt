-- The theorems that docs/PROMISES.md cites, for every tie that serves, every floors, objective and list of constraints, over integers of
-- any size.
use Rattle.std.specs.Prelude.{Option, Some}
use mathlib.Core.Path.{◌≡◌, refl, sym, ◌∙◌, ap, ap₂, subst}
use mathlib.Core.List.Memᴰ
use mathlib.Core.List.{List, [], ◌∷◌, ◌++◌, append-nil, append_assoc}
use mathlib.Core.Bool.{Bool, true, false, true≢false}
use mathlib.Core.Logic.{inl, inr, ◌↔◌}
use Prim.Native.Nat.{ℕ, suc, min, ◌+◌, ◌≤◌, ◌<◌}
use native.Mathlib.Omega.{arith}
use lib.Dec.{T}
use lib.ListN.{length, take, drop, length-append, length-take, take-append-drop}
use lib.IntN.{ℤ, pos, ◌+ℤ◌, ◌-ℤ◌, ◌*ℤ◌, +ℤ_invr}
use lib.Signed.{clash_ℤ}
use Rattle.ints.specs.Order.{◌≤ᶻ◌, ◌<ᶻ◌}
use Rattle.ints.specs.Gcd.{gcd2, Reduced2}
use Rattle.ints.proofs.Ring.{◌⊕◌, ◌⊖◌, ◌⊗◌, ⊝◌, ◌≐◌}
use Rattle.ints.proofs.Order.{nn_neg, neg_nn, nn_cancel, pos-cancel, le_of_eq}
use Rattle.ints.proofs.Divides.{pos_of_lt}
use Rattle.ints.proofs.Gcd.{gcd2-pos}
use Rattle.ints.proofs.Reduced.{reduce2_first, reduce2_second, reduce2_reduced}
use Rattle.lp.specs.declared.Constraint.{Constraint}
use Rattle.lp.specs.declared.Functional.{Functional}
use Rattle.lp.specs.declared.Floors.{Floors}
use Rattle.lp.specs.declared.Point.{Point}
use Rattle.lp.specs.declared.Ray.{Ray}
use Rattle.lp.specs.declared.Tie.{Tie}
use Rattle.lp.specs.declared.Certificate.{Certificate}
use Rattle.lp.specs.declared.Outcome.{Outcome}
use Rattle.lp.specs.declared.Outcome.TheVariants as outcome
use Rattle.lp.specs.Program.{point, ray, Feasible, gain, along, rise, between, system}
use Rattle.lp.specs.Textbook.{Infeasible, Possible, NoTop, Top, Unbounded, Bounded}
use Rattle.lp.specs.Outcome.{lawful, cross, reduce_ray, tie_order, gain_order}
use Rattle.lp.specs.Outcome as defined
use Rattle.lp.specs.Prefixes.{one_if, is_infeasible, is_unbounded, is_broken, moves_from, open_from, place_from, moves, opens, place}
use Rattle.lp.specs.Certificate.{named}
use Rattle.model.specs.declared.State.{State}
use Rattle.model.specs.declared.State.TheVariants.{Ended, Going}
use Rattle.model.specs.Step.{begin, walk, said, place_of, gaining, is_open, opening as first-best}
use Rattle.theory.proofs.Solver.{equal, nn_by, pos-by, C, F, R, P, Z, riseᵖ, alongᵖ, crossᵖ, gainᵖ, betweenᵖ}
use Rattle.theory.proofs.Direction.{AtMost, ray_path, times}
use Rattle.theory.proofs.Lexicographic.{Up}
use Rattle.theory.proofs.Cone.{Candidate, Flattest}
use Rattle.theory.proofs.Reduction.{LowestTerms}
use Rattle.theory.proofs.Vertex.{vertex-lowest}
use Rattle.theory.proofs.Ties.{GoodTie}
use Rattle.theory.proofs.Enumeration.{lawful_of, lawful-recedes, lawful-gains}
use Rattle.theory.proofs.Conflict.{Certified}
use Rattle.theory.proofs.Farkas.{refutation_excludes}
use Rattle.theory.proofs.Walk.{Stands, state_says, open_by_state}
use Rattle.theory.proofs.Place.{walk-place}
use Rattle.theory.proofs.Begin.{standing_at_first}
use Rattle.theory.proofs.Meaning.{Means, MeansUnbounded, MeansOptimal, outcome-means, walk-stands, system-members}
use Rattle.theory.proofs.Tops.{ray_no_top, gains-at-most, peak-top, top_or_not}

module _ (t : Tie) (good : GoodTie t) (floors : Floors) (f : Functional) where
  abbrev planned : List Constraint → Outcome
  planned rules = defined.outcome t floors f rules

  -- ---- 1. the outcome is the textbook's

  means_unbounded : (S : List Constraint) (s : Point) (d : Ray) → Means t f S (outcome.Unbounded s d) → Unbounded S f
  means_unbounded S s d m =
      record {
        possible = (s, m.start.feasible);
        no_top = ray_no_top S f s m.along-ray m.start.feasible m.flattest.recedes m.flattest.gains;
      }

  means-bounded : (S : List Constraint) (v : Point) → Means t f S (outcome.Optimal v) → Bounded S f
  means-bounded S v m =
      record {
        possible = (v, m.peak.feasible);
        top = peak-top S f v m.peak.feasible (λ w h. gains-at-most f t v w (m.peak.greatest w h));
      }

  module _ (rules : List Constraint) where
    abbrev S : List Constraint
    S = system floors rules

    -- what the defined outcome is, with what it means
    by-outcome :
        {Q : Type 0} →
        (planned rules ≡ outcome.Infeasible → Infeasible S → Q) →
        ((s : Point) (d : Ray) → planned rules ≡ outcome.Unbounded s d → Unbounded S f → Q) →
        ((v : Point) → planned rules ≡ outcome.Optimal v → Bounded S f → Q) →
        Q
    by-outcome {Q} i u b = go (planned rules) refl (outcome-means t good floors f rules)
      where
        go : (o : Outcome) → planned rules ≡ o → Means t f S o → Q
        go outcome.Infeasible e m = i e m
        go (outcome.Unbounded s d) e m = u s d e (means_unbounded S s d m)
        go (outcome.Optimal v) e m = b v e (means-bounded S v m)

    pub infeasible-exactly : (planned rules ≡ outcome.Infeasible) ↔ Infeasible S
    infeasible-exactly = (
      (λ e. subst (Means t f S) e (outcome-means t good floors f rules)),
      (λ none. by-outcome (λ e m. e) (λ s d e m. absurd (none m.possible.0 m.possible.1))
          (λ v e m. absurd (none m.possible.0 m.possible.1))),
    )

    pub unbounded_exactly : ((s : Point) × (d : Ray) × (planned rules ≡ outcome.Unbounded s d)) ↔ Unbounded S f
    unbounded_exactly = (
      (λ x. means_unbounded S x.0 x.1 (subst (Means t f S) x.2 (outcome-means t good floors f rules))),
      (λ u. by-outcome (λ e none. absurd (none u.possible.0 u.possible.1)) (λ s d e m. (s, d, e))
          (λ v e m. absurd (top_or_not S f u.no_top m.top))),
    )

    pub optimal_exactly : ((v : Point) × (planned rules ≡ outcome.Optimal v)) ↔ Bounded S f
    optimal_exactly = (
      (λ x. means-bounded S x.0 (subst (Means t f S) x.1 (outcome-means t good floors f rules))),
      (λ b. by-outcome (λ e none. absurd (none b.possible.0 b.possible.1))
          (λ s d e m. absurd (top_or_not S f m.no_top b.top)) (λ v e m. (v, e))),
    )

    -- gains that do not lack a top have one
    pub top_otherwise : Possible S → (NoTop S f → ⊥) → Top S f
    top_otherwise (v, h) some =
        by-outcome (λ e none. absurd (none v h)) (λ s d e m. absurd (some m.no_top)) (λ w e m. m.top)

    -- ---- 2. the point and the ray

    -- the optimum is feasible, no feasible point gains more, among those that gain as much it is first by the tie, and it is reduced
    pub record BestPoint (v : Point) : Type 0 where
      pub feasible : Feasible S v
      pub no_more : (w : Point) → Feasible S w → gain f w *ℤ v.d ≤ᶻ gain f v *ℤ w.d
      pub tie-first :
          (w : Point) →
          Feasible S w →
          gain f w *ℤ v.d ≡ gain f v *ℤ w.d →
          AtMost (Up (tie_order t)) w v
      pub reduced : LowestTerms v

    pub optimum-best : (v : Point) → planned rules ≡ outcome.Optimal v → BestPoint v
    optimum-best v e =
        record {
          feasible = m.peak.feasible;
          no_more = λ w h. gains-at-most f t v w (m.peak.greatest w h);
          tie-first = λ w h q. tied w q (m.peak.greatest w h);
          reduced = vertex-lowest S v m.peak.vertex;
        }
      where
        m : MeansOptimal t f S v
        m = subst (Means t f S) e (outcome-means t good floors f rules)

        tied : (w : Point) → gain f w *ℤ v.d ≡ gain f v *ℤ w.d → Up (gain_order f t) (between w v) → AtMost (Up (tie_order t)) w v
        tied w q (inl more) =
            clash_ℤ more
            (le_of_eq (equal (F ∷ P ∷ P ∷ []) (λ f v w. alongᵖ f (betweenᵖ w v) ≐ gainᵖ f v ⊗ w.d ⊖ gainᵖ f w ⊗ v.d) refl f v w
            ∙ ap (λ z. gain f v *ℤ w.d -ℤ z) q ∙ +ℤ_invr (gain f v *ℤ w.d)))
        tied w q (inr h) = h.1

    -- the start point is feasible and first by the tie, and reduced
    pub record FirstPoint (s : Point) : Type 0 where
      pub feasible : Feasible S s
      pub first : (w : Point) → Feasible S w → AtMost (Up (tie_order t)) w s
      pub reduced : LowestTerms s

    -- the ray is lawful, it is one of document 01's candidates divided by its greatest common divisor, and no lawful candidate has a
    -- smaller slope
    pub record FlattestRay (d : Ray) : Type 0 where
      pub lawful-ray : T (lawful S f d)
      pub from-candidate : (e : Ray) × Candidate S e × T (lawful S f e) × (d ≡ reduce_ray e)
      pub flattest : (e : Ray) → Candidate S e → T (lawful S f e) → pos 0 ≤ᶻ cross d e
      pub divided : Reduced2 d.dx d.dy

    pub start_first : (s : Point) (d : Ray) → planned rules ≡ outcome.Unbounded s d → FirstPoint s
    start_first s d e =
        record { feasible = m.start.feasible; first = m.start.greatest; reduced = vertex-lowest S s m.start.vertex }
      where
        m : MeansUnbounded t f S s d
        m = subst (Means t f S) e (outcome-means t good floors f rules)

    pub ray-flattest : (s : Point) (d : Ray) → planned rules ≡ outcome.Unbounded s d → FlattestRay d
    ray-flattest s d e =
        subst FlattestRay (sym m.divided)
        (record {
          lawful-ray = lawful_of S f low (λ r i. recedes r (flat.recedes r i)) gains;
          from-candidate = (ρ, flat.candidate, lawful_of S f ρ flat.recedes flat.gains, refl);
          flattest =
              λ e c l. nn_cancel g-positive
              (nn_by (Z ∷ R ∷ R ∷ []) (λ g d e. g ⊗ crossᵖ d e ≐ g ⊗ d.dx ⊗ e.dy ⊖ g ⊗ d.dy ⊗ e.dx) refl g low e
              (subst (λ z. pos 0 ≤ᶻ z.dx *ℤ e.dy -ℤ z.dy *ℤ e.dx) (sym whole)
              (flat.flattest e (lawful-recedes S f e l) c (lawful-gains S f e l))));
          divided = reduce2_reduced ρ.dx ρ.dy g-pos;
        })
      where
        m : MeansUnbounded t f S s d
        m = subst (Means t f S) e (outcome-means t good floors f rules)

        ρ : Ray
        ρ = m.along-ray

        flat : Flattest S f ρ
        flat = m.flattest

        low : Ray
        low = reduce_ray ρ

        g-pos : 0 < gcd2 ρ.dx ρ.dy
        g-pos = gcd2-pos ρ.dx ρ.dy (λ a b. clash_ℤ flat.forward.size (le_of_eq (ap₂ (λ x y. x +ℤ y) a b)))

        g : ℤ
        g = pos (gcd2 ρ.dx ρ.dy)

        g-positive : pos 0 <ᶻ g
        g-positive = pos_of_lt g-pos

        whole : times g low ≡ ρ
        whole = ray_path (reduce2_first ρ.dx ρ.dy) (reduce2_second ρ.dx ρ.dy)

        recedes : (r : Constraint) → rise r ρ ≤ᶻ pos 0 → rise r low ≤ᶻ pos 0
        recedes r h =
            nn_neg (nn_cancel g-positive
            (nn_by (Z ∷ C ∷ R ∷ []) (λ g r d. g ⊗ ⊝ riseᵖ r d ≐ ⊝ (r.a ⊗ (g ⊗ d.dx) ⊕ r.b ⊗ (g ⊗ d.dy))) refl g r low
            (neg_nn (subst (λ z. rise r z ≤ᶻ pos 0) (sym whole) h))))

        gains : pos 0 <ᶻ along f low
        gains =
            pos-cancel g-positive (pos-by (Z ∷ F ∷ R ∷ []) (λ g f d. g ⊗ alongᵖ f d ≐ f.p ⊗ (g ⊗ d.dx) ⊕ f.q ⊗ (g ⊗ d.dy)) refl g f
            low (subst (λ z. pos 0 <ᶻ along f z) (sym whole) flat.gains))

  -- ---- 3. the place, and its certificate

  -- before the place no prefix is infeasible
  before-place :
      (done mid rest : List Constraint) →
      length done + length mid < place_from t floors f done (mid ++ rest) →
      is_infeasible (planned (done ++ mid)) ≡ false
  before-place done [] rest h =
      subst (λ l. is_infeasible (planned l) ≡ false) (sym (append-nil done)) (go (is_infeasible (planned done)) refl rest h)
    where
      not-here : length done + 0 < length done → ⊥
      not-here k = omega arith

      go :
          (b : Bool) →
          is_infeasible (planned done) ≡ b →
          (rest : List Constraint) →
          length done + 0 < place_from t floors f done rest →
          is_infeasible (planned done) ≡ false
      go false e rest k = e
      go true e [] k = absurd (not-here (subst (λ n. length done + 0 < n) (ap (λ b. elim b [ true ↦ length done | false ↦ 0 ]) e) k))
      go true e (x ∷ rest) k =
          absurd (not-here (subst (λ n. length done + 0 < n)
          (ap (λ b. elim b [ true ↦ length done | false ↦ place_from t floors f (done ++ (x ∷ [])) rest ]) e) k))
  before-place done (x ∷ mid) rest h =
      subst (λ l. is_infeasible (planned l) ≡ false) (append_assoc done (x ∷ []) mid)
      (before-place (done ++ (x ∷ [])) mid rest (go (is_infeasible (planned done)) refl h))
    where
      later : length done + suc (length mid) < length done → ⊥
      later k = omega arith

      shift : (n : ℕ) → length done + suc (length mid) < n → length (done ++ (x ∷ [])) + length mid < n
      shift n k = omega (arith, length-append done (x ∷ []))

      go :
          (b : Bool) →
          is_infeasible (planned done) ≡ b →
          length done + suc (length mid) < place_from t floors f done (x ∷ (mid ++ rest)) →
          length (done ++ (x ∷ [])) + length mid < place_from t floors f (done ++ (x ∷ [])) (mid ++ rest)
      go true e k =
          absurd (later (subst (λ n. length done + suc (length mid) < n)
          (ap (λ b. elim b [ true ↦ length done | false ↦ place_from t floors f (done ++ (x ∷ [])) (mid ++ rest) ]) e) k))
      go false e k =
          shift (place_from t floors f (done ++ (x ∷ [])) (mid ++ rest))
          (subst (λ n. length done + suc (length mid) < n)
          (ap (λ b. elim b [ true ↦ length done | false ↦ place_from t floors f (done ++ (x ∷ [])) (mid ++ rest) ]) e) k)

  possible_of : (l : List Constraint) → is_infeasible (planned l) ≡ false → Possible (system floors l)
  possible_of l e =
      by-outcome l (λ q none. absurd (true≢false (sym (ap is_infeasible q) ∙ e))) (λ s d q m. m.possible) (λ v q m. m.possible)

  -- the place of an infeasible system: its first `place` constraints are infeasible, no fewer are, and a certificate over them exists
  pub record Placed (rules : List Constraint) (k : ℕ) : Type 0 where
    pub within : k ≤ length rules
    pub infeasible : Infeasible (system floors (take k rules))
    pub least : (j : ℕ) → j < k → Possible (system floors (take j rules))
    pub witness : Certificate
    pub certified : Certified (system floors (take k rules)) witness

  pub place-least :
      (rules : List Constraint) →
      Infeasible (system floors rules) →
      Placed rules (place t floors f rules)
  place-least rules none = go (walk t floors f rules).state refl (walk-stands t good floors f rules).stands
    where
      at_place : place_of (walk t floors f rules).state ≡ place t floors f rules
      at_place = walk-place t good floors f [] rules (begin floors f) _ _ _ refl (standing_at_first floors t good f)

      least : (j : ℕ) → j < place t floors f rules → j ≤ length rules → Possible (system floors (take j rules))
      least j h w =
          possible_of (take j rules)
          (before-place [] (take j rules) (drop j rules)
          (subst (λ l. 0 + length (take j rules) < place_from t floors f [] l) (sym (take-append-drop j rules))
          (shorter (length (take j rules)) (length-take j rules))))
        where
          shorter : (n : ℕ) → n ≡ min j (length rules) → 0 + n < place t floors f rules
          shorter n e = omega arith

      go : (x : State) → (walk t floors f rules).state ≡ x → Stands t good floors f rules x → Placed rules (place t floors f rules)
      go (Ended p c) e o = subst (Placed rules) (sym (ap place_of e) ∙ at_place)
          (record {
            within = o.within;
            infeasible = refutation_excludes (system floors (take p rules)) (named c) o.certified.refutes;
            least = λ j h. least j (subst (λ n. j < n) (sym (ap place_of e) ∙ at_place) h) (below j h o.within);
            witness = c;
            certified = o.certified;
          })
        where
          below : (j : ℕ) → j < p → p ≤ length rules → j ≤ length rules
          below j h w = omega arith
      go (Going s rays b) e standing = absurd (none s standing.start.feasible)

  -- ---- 5. bounds of the counts

  one_if_bound : (b : Bool) → one_if b ≤ 1
  one_if_bound true = omega arith
  one_if_bound false = omega arith

  from_moves : (done rest : List Constraint) → moves_from t floors f done rest ≤ length rest
  from_moves done [] = omega arith
  from_moves done (h ∷ rest) = omega (arith, one_if_bound (is_broken (planned done) h), from_moves (done ++ (h ∷ [])) rest)

  open-from : (done rest : List Constraint) → open_from t floors f done rest ≤ length rest + 1
  open-from done [] = omega (arith, one_if_bound (is_unbounded (planned done)))
  open-from done (h ∷ rest) = omega (arith, one_if_bound (is_unbounded (planned done)), open-from (done ++ (h ∷ [])) rest)

  pub moves-at-most : (rules : List Constraint) → moves t floors f rules ≤ length rules
  moves-at-most rules = from_moves [] rules

  pub open_at-most : (rules : List Constraint) → opens t floors f rules ≤ length rules + 1
  open_at-most rules = open-from [] rules

  -- after an infeasible prefix every longer one is infeasible
  pub infeasible_persists :
      (done rest : List Constraint) →
      Infeasible (system floors done) →
      Infeasible (system floors (done ++ rest))
  infeasible_persists done rest none v h =
      none v
      (record {
        proper = h.proper;
        kept = λ r i. h.kept r (system-members t good floors f done (done ++ rest) (λ r i. Memᴰ.append_left rest i) r i);
      })

  -- ---- 6. the walk is the definition

  pub record WalkIsDefined (rules : List Constraint) : Type 0 where
    pub outcome_defined : said f (walk t floors f rules).state ≡ planned rules
    pub place_defined : place_of (walk t floors f rules).state ≡ place t floors f rules
    pub moves_defined : (walk t floors f rules).moves ≡ moves t floors f rules
    pub open_defined : (walk t floors f rules).opened ≡ opens t floors f rules

  pub walk-is_defined : (rules : List Constraint) → WalkIsDefined rules
  walk-is_defined rules =
      record {
        outcome_defined = state_says t good floors f rules (walk t floors f rules).state (walk-stands t good floors f rules).stands;
        place_defined = walk-place t good floors f [] rules (begin floors f) _ _ _ refl (standing_at_first floors t good f);
        moves_defined = none (walk t floors f rules).moves (moves_from t floors f [] rules) (walk-stands t good floors f rules).moved;
        open_defined =
            cancel (one_if (is_unbounded (planned []))) (walk t floors f rules).opened (begin floors f).opened
            (open_from t floors f [] rules) opening (walk-stands t good floors f rules).opening;
      }
    where
      none : (m n : ℕ) → m ≡ 0 + n → m ≡ n
      none m n e = omega arith

      corner : Point
      corner = point floors.lx floors.ly (pos 1)

      axes : Option (Ray × Ray)
      axes = Some (ray (pos 1) (pos 0), ray (pos 0) (pos 1))

      corner-best : Option Point
      corner-best = first-best f corner axes (gaining f axes)

      first : (n : ℕ) → 0 + n ≡ n
      first n = omega arith

      opening : (begin floors f).opened ≡ one_if (is_unbounded (planned []))
      opening =
          first (one_if (is_open corner-best))
          ∙ ap one_if (sym (open_by_state t good floors f (system floors []) corner axes corner-best
          (standing_at_first floors t good f).optimum)
          ∙ ap is_unbounded (state_says t good floors f [] (Going corner axes corner-best) (standing_at_first floors t good f)))

      cancel : (a m b n : ℕ) → b ≡ a → a + m ≡ b + n → m ≡ n
      cancel a m b n e q = omega arith
