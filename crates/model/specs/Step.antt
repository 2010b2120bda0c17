-- The step: what the walk holds after one more constraint h. S is the system so far, n its length, and so h's index. At most three passes
-- over S are made, none where nothing is broken, and one where gains come to have a top.
use Rattle.std.specs.Prelude.{List, [], ◌∷◌, ◌++◌, Option, None, Some, Result, Ok, Err}
use Rattle.std.specs.Prelude.{Bool, true, false, not, ◌&&◌, ℕ, suc, ◌+◌, ◌-◌, ℤ, pos}
use Rattle.lp.specs.declared.Constraint.{Constraint}
use Rattle.lp.specs.declared.Functional.{Functional}
use Rattle.lp.specs.declared.Floors.{Floors}
use Rattle.lp.specs.declared.Tie.{Tie}
use Rattle.lp.specs.declared.Point.{Point}
use Rattle.lp.specs.declared.Ray.{Ray}
use Rattle.lp.specs.declared.Certificate.{Certificate}
use Rattle.lp.specs.declared.Outcome.{Outcome}
use Rattle.lp.specs.declared.Outcome.TheVariants.{Infeasible, Unbounded, Optimal}
use Rattle.lp.specs.Program.{point, ray, system}
use Rattle.lp.specs.Outcome.{above, det, keeps, reduce, reduce_ray, tie_order, gain_order}
use Rattle.lp.specs.Certificate.{certificate, is_zero}
use Rattle.lp.specs.Prefixes.{one_if}
use Rattle.lp.specs.Start.{Start, none, at}
pub use Rattle.exact.specs.Cone.{narrowed, narrow, gaining}
use Rattle.model.specs.declared.Met.{Met}
use Rattle.model.specs.declared.State.{State}
use Rattle.model.specs.declared.State.TheVariants.{Ended, Going}
use Rattle.model.specs.declared.Walk.{Walk}
use Rattle.model.specs.Scan.{facing, direction, tightest, first_broken}

-- ---- certificates

-- 0 ≤ c with c below 0 needs no other entry
abbrev pub alone : ℕ → Certificate
alone n = certificate n (pos 1) 0 (pos 0) 0 (pos 0)

-- the weight of h, whose line is walked as it stands or turned round
abbrev pub line_weight : Bool → Constraint → Constraint → ℤ
line_weight true k m = det m k
line_weight false k m = det k m

-- h at index n, k at j, which meets its line first, and m at i, which that point breaks
abbrev pub conflict : Bool → ℕ → Constraint → ℕ → Constraint → ℕ → Constraint → Certificate
conflict side n h j k i m = certificate n (line_weight side k m) j (det (facing side h) m) i (det k (facing side h))

-- ---- the start point

abbrev pub checked : Bool → ℕ → Constraint → ℕ → Constraint → Point → Option (ℕ × Constraint) → Result Point Certificate
checked side n h j k p None = Ok (reduce p)
checked side n h j k p (Some (i, m)) = Err (conflict side n h j k i m)

-- nothing found: that never comes where the tie falls along every ray
abbrev pub resettled : List Constraint → Bool → ℕ → Constraint → Option Met → Result Point Certificate
resettled S side n h None = Err (alone n)
resettled S side n h (Some found) = checked side n h found.index found.entry found.point (first_broken found.point 0 S)

abbrev pub restart : Tie → List Constraint → ℕ → Constraint → Result Point Certificate
restart t S n h =
    elim (is_zero h.a && is_zero h.b) [
      | true ↦ Err (alone n)
      | false ↦ let side = above (tie_order t) (direction h) in resettled S side n h (tightest (facing side h) 0 S None)
    ]

-- ---- the optimum

abbrev pub found_point : Option Met → Point
found_point None = point (pos 0) (pos 0) (pos 1)
found_point (Some found) = reduce found.point

abbrev pub tightest_point : List Functional → List Constraint → Constraint → Point
tightest_point fs S h = found_point (tightest (facing (above fs (direction h)) h) 0 S None)

-- an unbounded system stays so while some ray gains
abbrev pub reopened : List Functional → List Constraint → Constraint → Option Ray → Option Point
reopened fs S h (Some d) = None
reopened fs S h None = Some (tightest_point fs S h)

abbrev pub improved : List Functional → Functional → List Constraint → Constraint → Option (Ray × Ray) → Option Point → Option Point
improved fs f S h rays None = reopened fs S h (gaining f rays)
improved fs f S h rays (Some v) = elim (keeps h v) [ true ↦ Some v | false ↦ Some (tightest_point fs S h) ]

-- ---- the walk

abbrev pub is_open : Option Point → Bool
is_open None = true
is_open (Some v) = false

abbrev pub breaks : Constraint → Option Point → Bool
breaks h None = false
breaks h (Some v) = elim (keeps h v) [ true ↦ false | false ↦ true ]

abbrev pub going : Point → Option (Ray × Ray) → Option Point → ℕ → ℕ → ℕ → Walk
going s rays b moves opened restarts =
    record { state = Going s rays b; moves = moves; opened = opened + one_if (is_open b); restarts = restarts }

-- with the start point kept, moved or lost
abbrev pub settled :
    Tie → Functional → List Constraint → ℕ → Constraint → Option (Ray × Ray) → Option Point → ℕ → ℕ → ℕ → Result Point Certificate → Walk
settled t f S n h rays b moves opened restarts (Ok s) =
    let wedge = narrow h rays in going s wedge (improved (gain_order f t) f S h wedge b) (moves + one_if (breaks h b)) opened restarts
settled t f S n h rays b moves opened restarts (Err c) =
    record { state = Ended (n - 1) c; moves = moves + one_if (breaks h b); opened = opened; restarts = restarts }

-- one more, if the start point s does not keep h
abbrev pub recounted : ℕ → Constraint → Point → ℕ
recounted restarts h s = restarts + one_if (not (keeps h s))

abbrev pub stepped : Tie → Functional → List Constraint → ℕ → Constraint → ℕ → ℕ → ℕ → State → Walk
stepped t f S n h moves opened restarts (Ended p c) = record { state = Ended p c; moves = moves; opened = opened; restarts = restarts }
stepped t f S n h moves opened restarts (Going s rays b) =
    settled t f S n h rays b moves opened (recounted restarts h s) (elim (keeps h s) [ true ↦ Ok s | false ↦ restart t S n h ])

abbrev pub step : Tie → Functional → List Constraint → ℕ → Constraint → Walk → Walk
step t f S n h w = stepped t f S n h w.moves w.opened w.restarts w.state

-- before the first rule: the floors' corner, and the two axes
abbrev pub opening : Functional → Point → Option (Ray × Ray) → Option Ray → Option Point
opening f s rays (Some d) = None
opening f s rays None = Some s

abbrev pub begin : Floors → Functional → Walk
begin floors f =
    let s = point floors.lx floors.ly (pos 1) in
    let rays = Some (ray (pos 1) (pos 0), ray (pos 0) (pos 1)) in
    going s rays (opening f s rays (gaining f rays)) 0 0 0

abbrev pub walk_from : Tie → Functional → List Constraint → ℕ → List Constraint → Walk → Walk
walk_from t f S n [] w = w
walk_from t f S n (h ∷ rest) w = walk_from t f (S ++ (h ∷ [])) (suc n) rest (step t f S n h w)

abbrev pub walk : Tie → Floors → Functional → List Constraint → Walk
walk t floors f rules = walk_from t f (system floors []) 2 rules (begin floors f)

-- ---- what the walk says

abbrev pub said_ray : Point → Option Ray → Outcome
said_ray s (Some d) = Unbounded s (reduce_ray d)
said_ray s None = Optimal s

abbrev pub said : Functional → State → Outcome
said f (Ended p c) = Infeasible
said f (Going s rays None) = said_ray s (gaining f rays)
said f (Going s rays (Some v)) = Optimal v

-- where the walk ended, or 0
abbrev pub place_of : State → ℕ
place_of (Ended p c) = p
place_of (Going s rays b) = 0

-- the start point that the walk holds, or none
abbrev pub start_held : State → Start
start_held (Ended p c) = none
start_held (Going s rays b) = at s
