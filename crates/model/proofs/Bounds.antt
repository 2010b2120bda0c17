-- The walk stays within document 01's bounds: `walk-small`, for every list of lawful rules and so for every prefix of a chain. A meeting
-- point of lawful constraints is within them as it is made, and reducing makes nothing larger. `slack-small` then says that no sum of a·X
-- + b·Y − c·D leaves 64 bits.
use Rattle.std.specs.Prelude.{Option, None, Some, Result, Ok, Err}
use mathlib.Core.Path.{◌≡◌, refl}
use mathlib.Core.List.{List, [], ◌∷◌, ◌++◌, Memᴰ}
use mathlib.Core.Bool.{Bool, true, false, not, ◌&&◌}
use Prim.Native.Nat.{ℕ, suc, ◌+◌, ◌≤◌}
use native.Mathlib.Omega.{arith}
use native.Mathlib.Nat.{zero-add, add-zero}
use lib.ListN.{length}
use lib.Dec.{T}
use lib.IntN.{pos, neg_ℤ, ◌+ℤ◌, ◌*ℤ◌}
use lib.Signed.{le_z, lt_z, lt_z_yes}
use mir.Syntax.{w64}
use mir.Val.{SFits}
use Rattle.ints.specs.Order.{◌<ᶻ◌}
use Rattle.ints.specs.Within.{Within}
use Rattle.ints.specs.Gcd.{gcd2, gcd3}
use Rattle.ints.proofs.Machine.{within-fits, within-add, within-sub, within-mul, within_neg, within_quot, within-numeral, weaken}
use Rattle.ints.proofs.Reduced.{reduce-pos}
use Rattle.lp.specs.declared.Constraint.{Constraint}
use Rattle.lp.specs.declared.Functional.{Functional}
use Rattle.lp.specs.declared.Floors.{Floors}
use Rattle.lp.specs.declared.Tie.{Tie}
use Rattle.lp.specs.declared.Point.{Point}
use Rattle.lp.specs.declared.Ray.{Ray}
use Rattle.lp.specs.Program.{point, ray, slack, along, rise, floor_x, floor_y, system}
use Rattle.lp.specs.Outcome.{det, meet, keeps, above, reduce, reduce_ray, tie_order, gain_order}
use Rattle.lp.specs.Certificate.{is_zero}
use Rattle.lp.specs.Prefixes.{one_if}
use Rattle.lp.specs.Document.{tie, zero_floors}
use Rattle.lp.specs.declared.Certificate.{Certificate}
use Rattle.model.specs.declared.Met.{Met}
use Rattle.model.specs.declared.State.{State}
use Rattle.model.specs.declared.State.TheVariants.{Ended, Going}
use Rattle.model.specs.declared.Walk.{Walk}
use Rattle.model.specs.Scan.{met, facing, direction, tighter, tightest, first_broken}
use Rattle.model.specs.Step.{alone, line_weight, conflict, checked, resettled, restart, narrowed, narrow, gaining, found_point}
use Rattle.model.specs.Step.{tightest_point, reopened, improved, is_open, breaks, going, settled, stepped, step, opening, begin}
use Rattle.model.specs.Step.{walk_from, walk, said, said_ray}
use Rattle.model.specs.Bounds.{SmallPoint, SmallRay, SmallCertificate, SmallFound, SmallBroken, SmallRestart, SmallCone, SmallGain}
use Rattle.model.specs.Bounds.{SmallBest, SmallState, SmallOutcome, SmallWalk}
use Rattle.lp.specs.Range.{SmallConstraint, SmallSystem, SmallTie, SmallFloors}

-- ---- systems, and the floors

pub floorX-small : {f : Floors} → SmallFloors f → SmallConstraint (floor_x f)
floorX-small h = record { a_small = within-numeral tt; b-small = within-numeral tt; c-small = weaken tt (within_neg h.lx_small) }

pub floorY-small : {f : Floors} → SmallFloors f → SmallConstraint (floor_y f)
floorY-small h = record { a_small = within-numeral tt; b-small = within-numeral tt; c-small = weaken tt (within_neg h.ly_small) }

pub small-system :
    (S : List Constraint) →
    ((r : Constraint) → Memᴰ r S → SmallConstraint r) →
    SmallSystem S
small-system [] h = tt
small-system (r ∷ S) h = (h r (Memᴰ.head refl), small-system S (λ s m. h s (Memᴰ.tail m)))

-- document 01's own tie and floors
pub tie-small : SmallTie tie
tie-small =
    record {
      first_small = record { p-small = within-numeral tt; q-small = within-numeral tt };
      second-small = record { p-small = within-numeral tt; q-small = within-numeral tt };
    }

pub zero_floors-small : SmallFloors zero_floors
zero_floors-small = record { lx_small = within-numeral tt; ly_small = within-numeral tt }

-- ---- determinants, meeting points, reduced points

pub det-small : {r s : Constraint} → SmallConstraint r → SmallConstraint s → Within 2147352578 (det r s)
det-small h k = within-sub (within-mul h.a_small k.b-small) (within-mul k.a_small h.b-small)

pub meet-small :
    {r s : Constraint} →
    SmallConstraint r →
    SmallConstraint s →
    pos 0 <ᶻ det r s →
    SmallPoint (meet r s)
meet-small h k t =
    record {
      x-small = within-sub (within-mul h.c-small k.b-small) (within-mul k.c-small h.b-small);
      y-small = within-sub (within-mul h.a_small k.c-small) (within-mul k.a_small h.c-small);
      d_small = det-small h k;
      d-proper = t;
    }

pub reduce-small : {v : Point} → SmallPoint v → SmallPoint (reduce v)
reduce-small {v} h =
    record {
      x-small = within_quot (pos (gcd3 v.x v.y v.d)) h.x-small;
      y-small = within_quot (pos (gcd3 v.x v.y v.d)) h.y-small;
      d_small = within_quot (pos (gcd3 v.x v.y v.d)) h.d_small;
      d-proper = reduce-pos v.x v.y v.d h.d-proper;
    }

pub reduce_ray-small : {d : Ray} → SmallRay d → SmallRay (reduce_ray d)
reduce_ray-small {d} h =
    record {
      dx-small = within_quot (pos (gcd2 d.dx d.dy)) h.dx-small;
      dy-small = within_quot (pos (gcd2 d.dx d.dy))
          h.dy-small;
    }

-- document 01: the largest sum in a·X + b·Y − c·D stays below 2^63
module _ {r : Constraint} {v : Point} (h : SmallConstraint r) (k : SmallPoint v) where
  pub left-small : Within 4294705156000000000 (r.a *ℤ v.x +ℤ r.b *ℤ v.y)
  left-small = weaken tt (within-add (within-mul h.a_small k.x-small) (within-mul h.b-small k.y-small))

  pub right-small : Within 2147352578000000000 (r.c *ℤ v.d)
  right-small = within-mul h.c-small k.d_small

  pub slack-small : Within 6442057734000000000 (slack r v)
  slack-small = within-sub right-small left-small

  pub slack-fits : SFits w64 (slack r v)
  slack-fits = within-fits slack-small tt

-- ---- the scans

pub facing-small : (side : Bool) {h : Constraint} → SmallConstraint h → SmallConstraint (facing side h)
facing-small true s = s
facing-small false s = record { a_small = within_neg s.a_small; b-small = within_neg s.b-small; c-small = within_neg s.c-small }

pub direction-small : {l : Constraint} → SmallConstraint l → SmallRay (direction l)
direction-small s = record { dx-small = s.b-small; dy-small = within_neg s.a_small }

pub opposite-small : {l : Constraint} → SmallConstraint l → SmallRay (ray (neg_ℤ l.b) l.a)
opposite-small s = record { dx-small = within_neg s.b-small; dy-small = s.a_small }

module _ {l : Constraint} (sl : SmallConstraint l) where
  pub tighter-small :
      (i : ℕ) {m : Constraint} →
      SmallConstraint m →
      (f : Option Met) →
      SmallFound f →
      SmallFound (tighter l i m f)
  tighter-small i {m} sm None sf = go (lt_z (pos 0) (det m l)) lt_z_yes
    where
      go : (t : Bool) → (T t → pos 0 <ᶻ det m l) → SmallFound (elim t [ true ↦ Some (met i m (meet m l)) | false ↦ None ])
      go true h = (sm, meet-small sm sl (h tt))
      go false h = tt
  tighter-small i {m} sm (Some found) sf = go (lt_z (pos 0) (det m l)) lt_z_yes (keeps m found.point)
    where
      go :
          (t : Bool) →
          (T t → pos 0 <ᶻ det m l) →
          (u : Bool) →
          SmallFound (elim t [ true ↦ elim u [ true ↦ Some found | false ↦ Some (met i m (meet m l)) ] | false ↦ Some found ])
      go true h true = sf
      go true h false = (sm, meet-small sm sl (h tt))
      go false h u = sf

  pub tightest-small :
      (i : ℕ) (S : List Constraint) →
      SmallSystem S →
      (f : Option Met) →
      SmallFound f →
      SmallFound (tightest l i S f)
  tightest-small i [] ss f sf = sf
  tightest-small i (m ∷ S) ss f sf = tightest-small (suc i) S ss.1 (tighter l i m f) (tighter-small i ss.0 f sf)

pub first_broken-small :
    (v : Point) (i : ℕ) (S : List Constraint) →
    SmallSystem S →
    SmallBroken (first_broken v i S)
first_broken-small v i [] ss = tt
first_broken-small v i (m ∷ S) ss = go (keeps m v) (first_broken-small v (suc i) S ss.1)
  where
    go :
        (t : Bool) →
        SmallBroken (first_broken v (suc i) S) →
        SmallBroken (elim t [ true ↦ first_broken v (suc i) S | false ↦ Some (i, m) ])
    go true h = h
    go false h = ss.0

-- ---- the start point

pub alone-small : (n : ℕ) → SmallCertificate (alone n)
alone-small n = record { first_small = within-numeral tt; second-small = within-numeral tt; third-small = within-numeral tt }

line_weight-small : (side : Bool) {k m : Constraint} → SmallConstraint k → SmallConstraint m → Within 2147352578 (line_weight side k m)
line_weight-small true sk sm = det-small sm sk
line_weight-small false sk sm = det-small sk sm

pub conflict-small :
    (side : Bool) (n : ℕ) {h : Constraint} (j : ℕ) {k : Constraint} (i : ℕ) {m : Constraint} →
    SmallConstraint h →
    SmallConstraint k →
    SmallConstraint m →
    SmallCertificate (conflict side n h j k i m)
conflict-small side n j i sh sk sm =
    record {
      first_small = line_weight-small side sk sm;
      second-small = det-small (facing-small side sh) sm;
      third-small = det-small sk (facing-small side sh);
    }

module _ (S : List Constraint) (ss : SmallSystem S) {h : Constraint} (sh : SmallConstraint h) where
  along-line : (side : Bool) → SmallFound (tightest (facing side h) 0 S None)
  along-line side = tightest-small (facing-small side sh) 0 S ss None tt

  resettled-small : (side : Bool) (n : ℕ) (f : Option Met) → SmallFound f → SmallRestart (resettled S side n h f)
  resettled-small side n None sf = alone-small n
  resettled-small side n (Some found) sf = go (first_broken found.point 0 S) (first_broken-small found.point 0 S ss)
    where
      go : (b : Option (ℕ × Constraint)) → SmallBroken b → SmallRestart (checked side n h found.index found.entry found.point b)
      go None sb = reduce-small sf.1
      go (Some (i, m)) sb = conflict-small side n found.index i sh sf.0 sb

  pub restart-small : (t : Tie) (n : ℕ) → SmallRestart (restart t S n h)
  restart-small t n = go (is_zero h.a && is_zero h.b) (above (tie_order t) (direction h))
    where
      go :
          (z side : Bool) →
          SmallRestart (elim z [ true ↦ Err (alone n) | false ↦ resettled S side n h (tightest (facing side h) 0 S None) ])
      go true side = alone-small n
      go false side = resettled-small side n (tightest (facing side h) 0 S None) (along-line side)

  -- ---- the optimum

  pub tightest_point-small : (fs : List Functional) → SmallPoint (tightest_point fs S h)
  tightest_point-small fs = go (tightest (facing (above fs (direction h)) h) 0 S None) (along-line (above fs (direction h)))
    where
      go : (f : Option Met) → SmallFound f → SmallPoint (found_point f)
      go None sf =
          record { x-small = within-numeral tt; y-small = within-numeral tt; d_small = within-numeral tt; d-proper = lt_z_yes tt }
      go (Some found) sf = reduce-small sf.1

  pub improved-small :
      (fs : List Functional) (f : Functional) (rays : Option (Ray × Ray)) (b : Option Point) →
      SmallBest b →
      SmallBest (improved fs f S h rays b)
  improved-small fs f rays None sb = go (gaining f rays)
    where
      go : (g : Option Ray) → SmallBest (reopened fs S h g)
      go (Some d) = tt
      go None = tightest_point-small fs
  improved-small fs f rays (Some v) sb = go (keeps h v)
    where
      go : (t : Bool) → SmallBest (elim t [ true ↦ Some v | false ↦ Some (tightest_point fs S h) ])
      go true = sb
      go false = tightest_point-small fs

-- ---- the cone of rays

pub narrow-small :
    {h : Constraint} →
    SmallConstraint h →
    (rays : Option (Ray × Ray)) →
    SmallCone rays →
    SmallCone (narrow h rays)
narrow-small sh None sc = tt
narrow-small {h} sh (Some (lo, hi)) sc = go (le_z (rise h lo) (pos 0)) (le_z (rise h hi) (pos 0))
  where
    go : (t u : Bool) → SmallCone (narrowed h lo hi t u)
    go true true = sc
    go true false = (sc.0, direction-small sh)
    go false true = (opposite-small sh, sc.1)
    go false false = tt

pub gaining-small : (f : Functional) (rays : Option (Ray × Ray)) → SmallCone rays → SmallGain (gaining f rays)
gaining-small f None sc = tt
gaining-small f (Some (lo, hi)) sc = go (lt_z (pos 0) (along f lo)) (lt_z (pos 0) (along f hi))
  where
    go : (t u : Bool) → SmallGain (elim t [ true ↦ Some lo | false ↦ elim u [ true ↦ Some hi | false ↦ None ] ])
    go true u = sc.0
    go false true = sc.1
    go false false = tt

pub said-small : (f : Functional) (x : State) → SmallState x → SmallOutcome (said f x)
said-small f (Ended p k) h = tt
said-small f (Going s rays None) h = go (gaining f rays) (gaining-small f rays h.1)
  where
    go : (g : Option Ray) → SmallGain g → SmallOutcome (said_ray s g)
    go (Some d) k = (h.0, reduce_ray-small k)
    go None k = h.0
said-small f (Going s rays (Some v)) h = h.2

-- ---- the walk

one_if_small : (t : Bool) → one_if t ≤ 1
one_if_small true = omega arith
one_if_small false = omega arith

one_more : (t : Bool) {m n : ℕ} → m ≤ n → m + one_if t ≤ suc n
one_more t h = omega (arith, one_if_small t)

module _ (t : Tie) (f : Functional) (S : List Constraint) (ss : SmallSystem S) (n : ℕ) {h : Constraint} (sh : SmallConstraint h) where
  pub step_small : (k : ℕ) (w : Walk) → SmallWalk k w → SmallWalk (suc k) (step t f S n h w)
  step_small k w sw = from w.state sw.state_small
    where
      later :
          (s : State) (sst : SmallState s) (b : Option Point) (u : Bool) →
          SmallWalk (suc k)
          (record { state = s; moves = w.moves + one_if (breaks h b); opened = w.opened; restarts = w.restarts + one_if u })
      later s sst b u =
          record {
            state_small = sst;
            moves-small = one_more (breaks h b) sw.moves-small;
            opened-small = omega (arith, sw.opened-small);
            restarts-small = one_more u sw.restarts-small;
          }

      settle :
          (rays : Option (Ray × Ray)) →
          SmallCone rays →
          (b : Option Point) →
          SmallBest b →
          (u : Bool) (r : Result Point Certificate) →
          SmallRestart r →
          SmallWalk (suc k) (settled t f S n h rays b w.moves w.opened (w.restarts + one_if u) r)
      settle rays sc b sb u (Ok s) sr =
          record {
            state_small = (sr, narrow-small sh rays sc, improved-small S ss sh (gain_order f t) f (narrow h rays) b sb);
            moves-small = one_more (breaks h b) sw.moves-small;
            opened-small = one_more (is_open (improved (gain_order f t) f S h (narrow h rays) b)) sw.opened-small;
            restarts-small = one_more u sw.restarts-small;
          }
      settle rays sc b sb u (Err c) sr = later (Ended _ c) sr b u

      restarted : (s : Point) → SmallPoint s → (u : Bool) → SmallRestart (elim u [ true ↦ Ok s | false ↦ restart t S n h ])
      restarted s sp true = sp
      restarted s sp false = restart-small S ss sh t n

      from : (s : State) → SmallState s → SmallWalk (suc k) (stepped t f S n h w.moves w.opened w.restarts s)
      from (Ended p c) sst =
          record {
            state_small = sst;
            moves-small = omega (arith, sw.moves-small);
            opened-small = omega (arith, sw.opened-small);
            restarts-small = omega (arith, sw.restarts-small);
          }
      from (Going s rays b) sst =
          settle rays sst.1 b sst.2 (not (keeps h s)) (elim (keeps h s) [ true ↦ Ok s | false ↦ restart t S n h ])
          (restarted s sst.0 (keeps h s))

pub corner-small :
    {floors : Floors} →
    SmallFloors floors →
    SmallPoint (point floors.lx floors.ly (pos 1))
corner-small h =
    record { x-small = weaken tt h.lx_small; y-small = weaken tt h.ly_small; d_small = within-numeral tt; d-proper = lt_z_yes tt }

pub axes-small : SmallCone (Some (ray (pos 1) (pos 0), ray (pos 0) (pos 1)))
axes-small = (
  record { dx-small = within-numeral tt; dy-small = within-numeral tt },
  record { dx-small = within-numeral tt; dy-small = within-numeral tt },
)

pub begin-small : (floors : Floors) → SmallFloors floors → (f : Functional) → SmallWalk 0 (begin floors f)
begin-small floors h f = go (gaining f (Some (ray (pos 1) (pos 0), ray (pos 0) (pos 1))))
  where
    go :
        (g : Option Ray) →
        SmallWalk 0 (going (point floors.lx floors.ly (pos 1)) (Some (ray (pos 1) (pos 0), ray (pos 0) (pos 1)))
        (opening f (point floors.lx floors.ly (pos 1)) (Some (ray (pos 1) (pos 0), ray (pos 0) (pos 1))) g) 0 0 0)
    go (Some d) =
        record {
          state_small = (corner-small h, axes-small, tt);
          moves-small = omega arith;
          opened-small = omega arith;
          restarts-small = omega arith;
        }
    go None =
        record {
          state_small = (corner-small h, axes-small, corner-small h);
          moves-small = omega arith;
          opened-small = omega arith;
          restarts-small = omega arith;
        }

pub small_append :
    (S : List Constraint) →
    SmallSystem S →
    {h : Constraint} →
    SmallConstraint h →
    SmallSystem (S ++ (h ∷ []))
small_append [] ss sh = (sh, tt)
small_append (r ∷ S) ss sh = (ss.0, small_append S ss.1 sh)

pub walk_from-small :
    (t : Tie) (f : Functional) (S : List Constraint) →
    SmallSystem S →
    (n : ℕ) (rest : List Constraint) →
    SmallSystem rest →
    (k : ℕ) (w : Walk) →
    SmallWalk k w →
    SmallWalk (length rest + k) (walk_from t f S n rest w)
walk_from-small t f S ss n [] sr k w sw = rw zero-add sw
walk_from-small t f S ss n (h ∷ rest) sr k w sw =
    rw (shift k (length rest))
    (walk_from-small t f (S ++ (h ∷ [])) (small_append S ss sr.0) (suc n) rest sr.1 (suc k) (step t f S n h w)
    (step_small t f S ss n sr.0 k w sw))
  where
    shift : (k m : ℕ) → suc m + k ≡ m + suc k
    shift k m = omega arith

-- document 01's bounds, with moves and restarts at most n and open at most n + 1, for every chain of lawful rules
pub walk-small :
    (t : Tie) (floors : Floors) →
    SmallFloors floors →
    (f : Functional) (rules : List Constraint) →
    SmallSystem rules →
    SmallWalk (length rules) (walk t floors f rules)
walk-small t floors h f rules sr =
    rw (← add-zero (length rules))
    (walk_from-small t f (system floors []) (floorX-small h, (floorY-small h, tt)) 2 rules sr 0 (begin floors f) (begin-small floors h f))
