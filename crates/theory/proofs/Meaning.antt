-- What an outcome means, apart from any algorithm: a peak, a flattest ray, or no point at all. It holds of one outcome only, it depends
-- only on which constraints are in the system, and the defined outcome has it.
use Rattle.std.specs.Prelude.{Option, None, Some}
use mathlib.Core.Path.{◌≡◌, refl, sym, ◌∙◌, ap, ap₂, subst}
use mathlib.Core.List.Memᴰ
use mathlib.Core.List.{List, [], ◌∷◌, Memᴰ}
use mathlib.Core.Bool.{Bool, true, false, ◌&&◌}
use mathlib.Core.Logic.{⊎_elim}
use Prim.Native.Nat.{ℕ, ◌+◌, ◌<◌}
use native.Mathlib.Omega.{arith}
use lib.Dec.{T}
use lib.IntN.{ℤ, pos}
use lib.Signed.{le_z, le_z_yes, ≤ℤ_refl, clash_ℤ}
use Rattle.ints.specs.Order.{◌≤ᶻ◌}
use Rattle.ints.proofs.Order.{antisymmetric}
use Rattle.lp.specs.declared.Constraint.{Constraint}
use Rattle.lp.specs.declared.Functional.{Functional}
use Rattle.lp.specs.declared.Floors.{Floors}
use Rattle.lp.specs.declared.Point.{Point}
use Rattle.lp.specs.declared.Ray.{Ray}
use Rattle.lp.specs.declared.Tie.{Tie}
use Rattle.lp.specs.declared.Outcome.{Outcome}
use Rattle.lp.specs.declared.Outcome.TheVariants as outcome
use Rattle.lp.specs.Program.{Feasible, along, floor_x, floor_y, system}
use Rattle.lp.specs.Textbook.{Infeasible}
use Rattle.lp.specs.Outcome.{reduce_ray, tie_order, gain_order}
use Rattle.lp.specs.Outcome as defined
use Rattle.lp.specs.Prefixes.{one_if}
use Rattle.lp.specs.Document.{same, count, AlikeInRules}
use Rattle.model.specs.declared.State.{State}
use Rattle.model.specs.declared.State.TheVariants.{Ended, Going}
use Rattle.model.specs.Step.{begin, walk, said, said_ray}
use Rattle.theory.proofs.Lists.{and_left, and_right, and_both, for-members}
use Rattle.theory.proofs.Direction.{Upward, at-most-both}
use Rattle.theory.proofs.Lexicographic.{Up}
use Rattle.theory.proofs.Cone.{Recedes, Candidate, Flattest}
use Rattle.theory.proofs.Slopes.{same-slope}
use Rattle.theory.proofs.Reduction.{lowest-unique}
use Rattle.theory.proofs.Vertex.{vertex-grows, vertex-lowest}
use Rattle.theory.proofs.Ties.{GoodTie, tie-upward, gain-upward}
use Rattle.theory.proofs.Peak.{Peak}
use Rattle.theory.proofs.Standing.{Standing, BestStands, gains-along, gains-nowhere}
use Rattle.theory.proofs.Begin.{standing_at_first}
use Rattle.theory.proofs.Walk.{Stands, state_says, over-infeasible, Agrees, walk-agrees}

-- no ray gains
abbrev pub NoGain : List Constraint → Functional → Type 0
NoGain S f = (d : Ray) → Recedes S d → along f d ≤ᶻ pos 0

pub record MeansUnbounded (t : Tie) (f : Functional) (S : List Constraint) (s : Point) (d : Ray) : Type 0 where
  pub start : Peak (Up (tie_order t)) S s
  pub along-ray : Ray
  pub flattest : Flattest S f along-ray
  pub divided : d ≡ reduce_ray along-ray

pub record MeansOptimal (t : Tie) (f : Functional) (S : List Constraint) (v : Point) : Type 0 where
  pub peak : Peak (Up (gain_order f t)) S v
  pub no_gain : NoGain S f

abbrev pub Means : Tie → Functional → List Constraint → Outcome → Type 0
Means t f S outcome.Infeasible = Infeasible S
Means t f S (outcome.Unbounded s d) = MeansUnbounded t f S s d
Means t f S (outcome.Optimal v) = MeansOptimal t f S v

-- ---- it fixes the outcome

module _ (t : Tie) (good : GoodTie t) (f : Functional) (S : List Constraint) where
  -- a system has one peak in an order
  pub peak-unique :
      (fs : List Functional) →
      Upward (Up fs) →
      (v w : Point) →
      Peak (Up fs) S v →
      Peak (Up fs) S w →
      v ≡ w
  peak-unique fs O v w p q =
      lowest-unique v w p.feasible.proper q.feasible.proper (vertex-lowest S v p.vertex) (vertex-lowest S w q.vertex)
      (at-most-both (Up fs) O v w (q.greatest v p.feasible) (p.greatest w q.feasible))

  -- and one flattest ray, up to a factor
  pub flattest-unique : (d e : Ray) → Flattest S f d → Flattest S f e → reduce_ray d ≡ reduce_ray e
  flattest-unique d e p q =
      same-slope d e p.forward q.forward (p.flattest e q.recedes q.candidate q.gains)
      (q.flattest d p.recedes p.candidate p.gains)

  pub meaning_unique : (o p : Outcome) → Means t f S o → Means t f S p → o ≡ p
  meaning_unique outcome.Infeasible outcome.Infeasible m n = refl
  meaning_unique outcome.Infeasible (outcome.Unbounded s d) m n = absurd (m s n.start.feasible)
  meaning_unique outcome.Infeasible (outcome.Optimal v) m n = absurd (m v n.peak.feasible)
  meaning_unique (outcome.Unbounded s d) outcome.Infeasible m n = absurd (n s m.start.feasible)
  meaning_unique (outcome.Unbounded s d) (outcome.Unbounded u e) m n =
      ap₂ (λ x y. outcome.Unbounded x y) (peak-unique (tie_order t) (tie-upward t good) s u m.start n.start)
      (m.divided ∙ flattest-unique m.along-ray n.along-ray m.flattest n.flattest ∙ sym n.divided)
  meaning_unique (outcome.Unbounded s d) (outcome.Optimal v) m n =
      clash_ℤ m.flattest.gains (n.no_gain m.along-ray m.flattest.recedes)
  meaning_unique (outcome.Optimal v) outcome.Infeasible m n = absurd (n v m.peak.feasible)
  meaning_unique (outcome.Optimal v) (outcome.Unbounded u e) m n =
      clash_ℤ n.flattest.gains (m.no_gain n.along-ray n.flattest.recedes)
  meaning_unique (outcome.Optimal v) (outcome.Optimal w) m n =
      ap (λ x. outcome.Optimal x) (peak-unique (gain_order f t) (gain-upward t good f) v w m.peak n.peak)

-- ---- it depends only on which constraints there are

module _ (S S' : List Constraint) (to : (r : Constraint) → Memᴰ r S → Memᴰ r S')
    (from : (r : Constraint) → Memᴰ r S' → Memᴰ r S) where
  feasible-to : (v : Point) → Feasible S v → Feasible S' v
  feasible-to v h = record { proper = h.proper; kept = λ r i. h.kept r (from r i) }

  feasible-from : (v : Point) → Feasible S' v → Feasible S v
  feasible-from v h = record { proper = h.proper; kept = λ r i. h.kept r (to r i) }

  recedes-to : (d : Ray) → Recedes S d → Recedes S' d
  recedes-to d h r i = h r (from r i)

  recedes-from : (d : Ray) → Recedes S' d → Recedes S d
  recedes-from d h r i = h r (to r i)

  peak-to : (fs : List Functional) (v : Point) → Peak (Up fs) S v → Peak (Up fs) S' v
  peak-to fs v p =
      record {
        feasible = feasible-to v p.feasible;
        greatest = λ w h. p.greatest w (feasible-from w h);
        vertex = vertex-grows S S' to
            v p.vertex;
      }

  candidate-to : (d : Ray) → Candidate S d → Candidate S' d
  candidate-to d (r, i, e) = (r, to r i, e)

  candidate-from : (d : Ray) → Candidate S' d → Candidate S d
  candidate-from d (r, i, e) = (r, from r i, e)

  flattest-to : (f : Functional) (d : Ray) → Flattest S f d → Flattest S' f d
  flattest-to f d x =
      record {
        recedes = recedes-to d x.recedes;
        forward = x.forward;
        gains = x.gains;
        candidate = candidate-to d x.candidate;
        flattest = λ e r c g. x.flattest e (recedes-from e r) (candidate-from e c) g;
      }

  pub meaning_members : (t : Tie) (f : Functional) (o : Outcome) → Means t f S o → Means t f S' o
  meaning_members t f outcome.Infeasible m = λ v h. m v (feasible-from v h)
  meaning_members t f (outcome.Unbounded s d) m =
      record {
        start = peak-to (tie_order t) s m.start;
        along-ray = m.along-ray;
        flattest = flattest-to f m.along-ray m.flattest;
        divided = m.divided;
      }
  meaning_members t f (outcome.Optimal v) m =
      record { peak = peak-to (gain_order f t) v m.peak; no_gain = λ d r. m.no_gain d (recedes-from d r) }

-- ---- the defined outcome has it

module _ (t : Tie) (good : GoodTie t) (floors : Floors) (f : Functional) where
  standing_means :
      (S : List Constraint) (s : Point) (rays : Option (Ray × Ray)) (b : Option Point) →
      Standing t f S s rays b →
      Means t f S (said f (Going s rays b))
  standing_means S s rays None standing = go standing.optimum
    where
      go : BestStands t f S rays None → Means t f S (said f (Going s rays None))
      go (d, e) =
          subst (λ g. Means t f S (said_ray s g)) (sym e)
          (record {
            start = standing.start;
            along-ray = d;
            flattest = gains-along S f rays standing.quadrant standing.spans d e;
            divided = refl;
          })
  standing_means S s rays (Some v) standing =
      record { peak = standing.optimum.0; no_gain = gains-nowhere S f rays standing.quadrant standing.spans standing.optimum.1 }

  state_means : (rules : List Constraint) (x : State) → Stands t good floors f rules x → Means t f (system floors rules) (said f x)
  state_means rules (Ended p c) o = over-infeasible t good floors f rules p c o
  state_means rules (Going s rays b) standing = standing_means (system floors rules) s rays b standing

  -- the walk's last state
  pub walk-stands : (rules : List Constraint) → Agrees t good floors f [] rules (begin floors f) (walk t floors f rules)
  walk-stands rules = walk-agrees t good floors f [] rules (begin floors f) (standing_at_first floors t good f)

  pub outcome-means : (rules : List Constraint) → Means t f (system floors rules) (defined.outcome t floors f rules)
  outcome-means rules =
      subst (Means t f (system floors rules))
      (state_says t good floors f rules (walk t floors f rules).state (walk-stands rules).stands)
      (state_means rules (walk t floors f rules).state (walk-stands rules).stands)

  -- ---- so order and repetition do not matter

  pub system-members :
      (l m : List Constraint) →
      ((r : Constraint) → Memᴰ r l → Memᴰ r m) →
      (r : Constraint) →
      Memᴰ r (system floors l) →
      Memᴰ r (system floors m)
  system-members l m to =
      for-members (λ r. Memᴰ r (system floors m)) (floor_x floors) (floor_y floors ∷ l) (Memᴰ.head refl)
      (for-members (λ r. Memᴰ r (system floors m)) (floor_y floors) l (Memᴰ.tail (Memᴰ.head refl))
      (λ r i. Memᴰ.tail (Memᴰ.tail (to r i))))

  pub outcome-by-members :
      (l m : List Constraint) →
      ((r : Constraint) → Memᴰ r l → Memᴰ r m) →
      ((r : Constraint) → Memᴰ r m → Memᴰ r l) →
      defined.outcome t floors f l ≡ defined.outcome t floors f m
  outcome-by-members l m to from =
      meaning_unique t good f (system floors m) (defined.outcome t floors f l) (defined.outcome t floors f m)
      (meaning_members (system floors l) (system floors m) (system-members l m to) (system-members m l from) t f
      (defined.outcome t floors f l) (outcome-means l))
      (outcome-means m)

-- what is counted is there, and what is there is counted
constraint_path : {r s : Constraint} → r.a ≡ s.a → r.b ≡ s.b → r.c ≡ s.c → r ≡ s
constraint_path p q u = λ i. record { a = p i; b = q i; c = u i }

abbrev same_constraint : Constraint → Constraint → Bool
same_constraint r s = same r.a s.a && same r.b s.b && same r.c s.c

same-equal : (y z : ℤ) → T (same y z) → y ≡ z
same-equal y z t = antisymmetric (le_z_yes (and_left (le_z y z) (le_z z y) t)) (le_z_yes (and_right (le_z y z) (le_z z y) t))

same_self : (y : ℤ) → T (same y y)
same_self y = and_both (le_z y y) (le_z y y) (≤ℤ_refl y).le (≤ℤ_refl y).le

counted-member : (r : Constraint) (l : List Constraint) → 0 < count r l → Memᴰ r l
counted-member r [] h = absurd (none h)
  where
    none : 0 < 0 → ⊥
    none h = omega arith
counted-member r (s ∷ l) h = go (same_constraint r s) refl h (counted-member r l)
  where
    equal-at : T (same_constraint r s) → r ≡ s
    equal-at t =
        constraint_path (same-equal r.a s.a
        (and_left (same r.a s.a) (same r.b s.b) (and_left (same r.a s.a && same r.b s.b) (same r.c s.c) t)))
        (same-equal r.b s.b
        (and_right (same r.a s.a) (same r.b s.b)
        (and_left (same r.a s.a && same r.b s.b) (same r.c s.c) t)))
        (same-equal r.c s.c (and_right (same r.a s.a && same r.b s.b) (same r.c s.c) t))

    zero-plus : (m : ℕ) → 0 < 0 + m → 0 < m
    zero-plus m h = omega arith

    go : (b : Bool) → same_constraint r s ≡ b → 0 < one_if b + count r l → (0 < count r l → Memᴰ r l) → Memᴰ r (s ∷ l)
    go true e k f = Memᴰ.head (equal-at (subst T (sym e) tt))
    go false e k f = Memᴰ.tail (f (zero-plus (count r l) k))

member-counted : (r : Constraint) (l : List Constraint) → Memᴰ r l → 0 < count r l
member-counted r [] i = absurd (Memᴰ.not-nil i)
member-counted r (s ∷ l) i =
    ⊎_elim here (λ j. more (one_if (same_constraint r s)) (count r l) (member-counted r l j)) (Memᴰ.cases_cons i)
  where
    more : (m n : ℕ) → 0 < n → 0 < m + n
    more m n h = omega arith

    first : (b : Bool) → T b → 0 < one_if b + count r l
    first true t = omega arith
    first false t = absurd t

    here : r ≡ s → 0 < one_if (same_constraint r s) + count r l
    here e =
        first (same_constraint r s)
        (subst (λ x. T (same_constraint r x)) e
        (and_both (same r.a r.a && same r.b r.b) (same r.c r.c)
        (and_both (same r.a r.a) (same r.b r.b) (same_self r.a) (same_self r.b)) (same_self r.c)))

-- what is alike in rules has the same members
pub alike_members : (l m : List Constraint) → AlikeInRules l m → (r : Constraint) → Memᴰ r l → Memᴰ r m
alike_members l m alike r i = counted-member r m (subst (λ n. 0 < n) (alike r) (member-counted r l i))

-- two systems with the same floors and, for each (a, b, c), the same count of it, have the same outcome, point and ray
pub outcome-order-free :
    (t : Tie) →
    GoodTie t →
    (floors : Floors) (f : Functional) (l m : List Constraint) →
    AlikeInRules l m →
    defined.outcome t floors f l ≡ defined.outcome t floors f m
outcome-order-free t good floors f l m alike =
    outcome-by-members t good floors f l m (alike_members l m alike) (alike_members m l (λ r. sym (alike r)))
