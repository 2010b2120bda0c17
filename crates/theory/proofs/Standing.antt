-- What the walk holds after each prefix, while feasible points are left: the start point is the peak of the tie's order, the cone spans
-- the rays, and the optimum is the peak of the gains' order, or some ray gains. One more constraint keeps that so, or yields a
-- certificate.
use Rattle.std.specs.Prelude.{Option, None, Some, Ok}
use mathlib.Core.Path.{◌≡◌, refl, subst}
use mathlib.Core.List.{List, [], ◌∷◌, ◌++◌}
use mathlib.Core.Bool.{Bool, true, false, not}
use mathlib.Core.Logic.{◌⊎◌, inl, inr}
use lib.Dec.{T}
use lib.ListN.{length}
use lib.IntN.{pos}
use lib.Signed.{le_z_yes, clash_ℤ}
use Rattle.ints.specs.Order.{◌≤ᶻ◌, ◌<ᶻ◌}
use Rattle.ints.proofs.Ring.{◌⊕◌, ◌⊖◌, ◌⊗◌, ⊝◌, ◌≐◌, con}
use Rattle.ints.proofs.Order.{nn_nat, pos_nn, neg_nn, pos_neg, pos-mul, le_or_lt, le_z_no}
use Rattle.lp.specs.declared.Constraint.{Constraint}
use Rattle.lp.specs.declared.Functional.{Functional}
use Rattle.lp.specs.declared.Point.{Point}
use Rattle.lp.specs.declared.Ray.{Ray}
use Rattle.lp.specs.declared.Tie.{Tie}
use Rattle.lp.specs.Program.{point, slack, Keeps, along, rise}
use Rattle.lp.specs.Outcome.{keeps, tie_order, gain_order}
use Rattle.model.specs.Step.{restart, narrow, gaining, tightest_point, reopened, improved}
use Rattle.theory.proofs.Solver.{nn_by, pos-by, C, P, R, F, riseᵖ, alongᵖ}
use Rattle.theory.proofs.Extension.{Extends, extended, for-extended}
use Rattle.theory.proofs.Direction.{Greatest}
use Rattle.theory.proofs.Lexicographic.{Up}
use Rattle.theory.proofs.Cone.{Recedes, Quadrant, Spans, narrow-spans, Flattest, Gains, gaining-gains}
use Rattle.theory.proofs.Ties.{GoodTie, gain-upward, tie-falls, gain-falls}
use Rattle.theory.proofs.Peak.{Peak, Falls, peak-stays, peak-moves}
use Rattle.theory.proofs.Restart.{Restarted, restart-sound}

abbrev pub BestStands : Tie → Functional → List Constraint → Option (Ray × Ray) → Option Point → Type 0
BestStands t f S rays None = (d : Ray) × (gaining f rays ≡ Some d)
BestStands t f S rays (Some v) = Peak (Up (gain_order f t)) S v × (gaining f rays ≡ None)

pub record Standing (t : Tie) (f : Functional) (S : List Constraint) (s : Point)
    (rays : Option (Ray × Ray)) (b : Option Point) : Type 0 where
  pub quadrant : Quadrant S
  pub start : Peak (Up (tie_order t)) S s
  pub spans : Spans S rays
  pub optimum : BestStands t f S rays b

-- what the gaining ray says, at each of its two values
pub gains-along :
    (S : List Constraint) (f : Functional) (rays : Option (Ray × Ray)) →
    Quadrant S →
    Spans S rays →
    (d : Ray) →
    gaining f rays ≡ Some d →
    Flattest S f d
gains-along S f rays q s d e = subst (Gains S f) e (gaining-gains S f q rays s)

pub gains-nowhere :
    (S : List Constraint) (f : Functional) (rays : Option (Ray × Ray)) →
    Quadrant S →
    Spans S rays →
    gaining f rays ≡ None →
    (d : Ray) →
    Recedes S d →
    along f d ≤ᶻ pos 0
gains-nowhere S f rays q s e = subst (Gains S f) e (gaining-gains S f q rays s)

-- ---- a ray as a point with denominator 0

module _ (S : List Constraint) (f : Functional) (t : Tie) (d : Ray) where
  abbrev far : Point
  far = point d.dx d.dy (pos 0)

  far-keeps : (r : Constraint) → rise r d ≤ᶻ pos 0 → Keeps r far
  far-keeps r h = nn_by (C ∷ R ∷ []) (λ r d. r.c ⊗ con (pos 0) ⊖ (r.a ⊗ d.dx ⊕ r.b ⊗ d.dy) ≐ ⊝ riseᵖ r d) refl r d (neg_nn h)

  far-breaks : (r : Constraint) → pos 0 <ᶻ rise r d → slack r far <ᶻ pos 0
  far-breaks r h =
      pos_neg (pos-by (C ∷ R ∷ []) (λ r d. ⊝ (r.c ⊗ con (pos 0) ⊖ (r.a ⊗ d.dx ⊕ r.b ⊗ d.dy)) ≐ riseᵖ r d) refl r d h)

  -- a ray that gains is above every point
  far-greatest : pos 0 <ᶻ along f d → Greatest (Up (gain_order f t)) S far
  far-greatest g w h =
      inl
      (pos-by (F ∷ P ∷ R ∷ []) (λ f w d. f.p ⊗ (d.dx ⊗ w.d ⊖ w.x ⊗ con (pos 0)) ⊕ f.q ⊗ (d.dy ⊗ w.d ⊖ w.y ⊗ con (pos 0))
      ≐ w.d ⊗ alongᵖ f d) refl f w d
      (pos-mul h.proper g))

-- ---- one more constraint

module _ (t : Tie) (good : GoodTie t) (f : Functional) (S : List Constraint) (h : Constraint)
    (s : Point) (rays : Option (Ray × Ray)) (b : Option Point)
    (standing : Standing t f S s rays b) where
  abbrev S' : List Constraint
  S' = S ++ (h ∷ [])

  ext : Extends S h S'
  ext = extended S h

  abbrev rays' : Option (Ray × Ray)
  rays' = narrow h rays

  recedes-old : (d : Ray) → Recedes S' d → Recedes S d
  recedes-old d r c i = r c (ext.old c i)

  quadrant' : Quadrant S'
  quadrant' d r = standing.quadrant d (recedes-old d r)

  spans' : Spans S' rays'
  spans' = narrow-spans S S' h ext standing.quadrant rays standing.spans

  pub tie_falls' : Falls (Up (tie_order t)) S'
  tie_falls' d r = tie-falls t good d (quadrant' d r).0 (quadrant' d r).1

  gain_falls' : gaining f rays' ≡ None → Falls (Up (gain_order f t)) S'
  gain_falls' e d r =
      gain-falls t good f d (quadrant' d r).0 (quadrant' d r).1 (gains-nowhere S' f rays' quadrant' spans' e d r)

  -- the start point is kept, moves, or is lost
  pub start-step : Restarted t S' (elim (keeps h s) [ true ↦ Ok s | false ↦ restart t S (length S) h ])
  start-step = go (keeps h s) (λ u. le_z_yes u) (λ u. le_z_no u)
    where
      go :
          (k : Bool) →
          (T k → Keeps h s) →
          (T (not k) → slack h s <ᶻ pos 0) →
          Restarted t S' (elim k [ true ↦ Ok s | false ↦ restart t S (length S) h ])
      go true y n = peak-stays S S' h ext (Up (tie_order t)) s standing.start (y tt)
      go false y n = restart-sound t good S h s standing.start (n tt) tie_falls'

  -- with a feasible point of the longer system at hand, the optimum follows
  module _ (s' : Point) (start' : Peak (Up (tie_order t)) S' s') where
    -- from unbounded to optimal: the old gaining ray is cut off by h
    closing :
        (d : Ray) →
        gaining f rays ≡ Some d →
        gaining f rays' ≡ None →
        Peak (Up (gain_order f t)) S' (tightest_point (gain_order f t) S h)
    closing d e e' =
        peak-moves S S' h ext (gain_order f t) (gain-upward t good f) (far S f t d) (nn_nat 0)
        (λ r i. far-keeps S f t d r (flat.recedes r i)) (far-greatest S f t d flat.gains) (far-breaks S f t d h cut) (gain_falls' e')
        s' start'.feasible
      where
        flat : Flattest S f d
        flat = gains-along S f rays standing.quadrant standing.spans d e

        cut : pos 0 <ᶻ rise h d
        cut = go (le_or_lt (rise h d) (pos 0))
          where
            go : (rise h d ≤ᶻ pos 0) ⊎ (pos 0 <ᶻ rise h d) → pos 0 <ᶻ rise h d
            go (inl z) =
                clash_ℤ flat.gains (gains-nowhere S' f rays' quadrant' spans' e' d
                (for-extended S S' h ext (λ r. rise r d ≤ᶻ pos 0) flat.recedes z))
            go (inr p) = p

    open_step :
        (d : Ray) →
        gaining f rays ≡ Some d →
        (g : Option Ray) →
        gaining f rays' ≡ g →
        BestStands t f S' rays' (reopened (gain_order f t) S h g)
    open_step d e (Some d') e' = (d', e')
    open_step d e None e' = (closing d e e', e')

    -- a bounded system stays bounded
    still-nowhere : gaining f rays ≡ None → (g : Option Ray) → gaining f rays' ≡ g → gaining f rays' ≡ None
    still-nowhere e (Some d) e' =
        clash_ℤ flat.gains (gains-nowhere S f rays standing.quadrant standing.spans e d (recedes-old d flat.recedes))
      where
        flat : Flattest S' f d
        flat = gains-along S' f rays' quadrant' spans' d e'
    still-nowhere e None e' = e'

    bounded-step :
        (v : Point) →
        Peak (Up (gain_order f t)) S v →
        gaining f rays ≡ None →
        BestStands t f S' rays' (elim (keeps h v) [ true ↦ Some v | false ↦ Some (tightest_point (gain_order f t) S h) ])
    bounded-step v peak e = go (keeps h v) (λ u. le_z_yes u) (λ u. le_z_no u)
      where
        nowhere : gaining f rays' ≡ None
        nowhere = still-nowhere e (gaining f rays') refl

        go :
            (k : Bool) →
            (T k → Keeps h v) →
            (T (not k) → slack h v <ᶻ pos 0) →
            BestStands t f S' rays' (elim k [ true ↦ Some v | false ↦ Some (tightest_point (gain_order f t) S h) ])
        go true y n = (peak-stays S S' h ext (Up (gain_order f t)) v peak (y tt), nowhere)
        go false y n = (
          peak-moves S S' h ext (gain_order f t) (gain-upward t good f) v (pos_nn peak.feasible.proper) peak.feasible.kept
              peak.greatest (n tt) (gain_falls' nowhere) s' start'.feasible,
          nowhere,
        )

    best-step : (b : Option Point) → BestStands t f S rays b → BestStands t f S' rays' (improved (gain_order f t) f S h rays' b)
    best-step None (d, e) = open_step d e (gaining f rays') refl
    best-step (Some v) (peak, e) = bounded-step v peak e

    pub standing_step : Standing t f S' s' rays' (improved (gain_order f t) f S h rays' b)
    standing_step = record { quadrant = quadrant'; start = start'; spans = spans'; optimum = best-step b standing.optimum }
