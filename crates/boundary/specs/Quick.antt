-- The walk with the ring carried along. Where h cuts the ring, its new edge lies between two corners, and the point that the walk looks
-- for on the line of h is one of them: the one in the direction in which the line is walked. So no pass over the entries is made. Where
-- the edge has no such end in a point, the walk's own passes are made: then h leaves no pair or gains nothing, which happens once, or
-- never.
use Rattle.std.specs.Prelude.{List, [], ◌∷◌, ◌++◌, true, false, ℕ, suc, ◌+◌, ◌-◌, pos, length, Option, None, Some, Result, Ok, Err}
use Rattle.std.specs.Int.Signed.{lt_z}
use Rattle.lp.specs.declared.Constraint.{Constraint}
use Rattle.lp.specs.declared.Functional.{Functional}
use Rattle.lp.specs.declared.Floors.{Floors}
use Rattle.lp.specs.declared.Tie.{Tie}
use Rattle.lp.specs.declared.Point.{Point}
use Rattle.lp.specs.Program.{system}
use Rattle.lp.specs.Outcome.{above, meet, keeps, reduce, tie_order, gain_order}
use Rattle.lp.specs.Prefixes.{one_if}
use Rattle.lp.specs.declared.Ray.{Ray}
use Rattle.lp.specs.declared.Certificate.{Certificate}
use Rattle.model.specs.declared.State.{State}
use Rattle.model.specs.declared.State.TheVariants.{Ended, Going}
use Rattle.model.specs.declared.Walk.{Walk}
use Rattle.model.specs.Scan.{direction}
use Rattle.model.specs.Step.{tightest_point, restart, narrow, gaining, going, breaks, recounted, begin}
use Rattle.boundary.specs.Size.{size}
use Rattle.boundary.specs.Ring.{keeps_at, sought, front, closed, insert, triangle}

-- ---- the ends of the new edge

pub data End : Type 0 where
  nowhere : End
  at : Point → End

-- in lowest terms, if it is a point
abbrev pub proper : Point → End
proper v = elim (lt_z (pos 0) v.d) [ true ↦ at (reduce v) | false ↦ nowhere ]

-- the edge of h lies between those of k and e
abbrev pub end_of : List Functional → Constraint → Constraint → Constraint → End
end_of fs h k e = elim (above fs (direction h)) [ true ↦ proper (meet k h) | false ↦ proper (meet h e) ]

abbrev pub last_of : Constraint → List Constraint → Constraint
last_of p [] = p
last_of p (q ∷ l) = last_of q l

-- of a ring that begins with h
abbrev pub end_in : List Functional → Constraint → List Constraint → End
end_in fs h [] = nowhere
end_in fs h (g ∷ []) = nowhere
end_in fs h (g ∷ e ∷ l) = end_of fs h (last_of e l) e

-- the ring turned to the place of h
abbrev pub placed : Constraint → Constraint → List Constraint → List Constraint
placed D h [] = []
placed D h (k ∷ l) = sought D h (length (k ∷ l)) k l

-- the end that h gets in the ring, if it cuts it
abbrev pub new_end : List Functional → Constraint → List Constraint → End
new_end fs h [] = nowhere
new_end fs h (k ∷ []) = nowhere
new_end fs h (k ∷ e ∷ l) = elim (keeps_at h k e) [ true ↦ nowhere | false ↦ end_in fs h (closed h (front h e (l ++ (k ∷ [])))) ]

-- ---- the step, with the end in the place of a pass

abbrev pub restart_at : Tie → List Constraint → ℕ → Constraint → End → Result Point Certificate
restart_at t S n h (at v) = Ok v
restart_at t S n h nowhere = restart t S n h

abbrev pub point_at : List Functional → List Constraint → Constraint → End → Point
point_at fs S h (at v) = v
point_at fs S h nowhere = tightest_point fs S h

abbrev pub reopened_to : Point → Option Ray → Option Point
reopened_to p (Some d) = None
reopened_to p None = Some p

abbrev pub improved_to : Point → Functional → Constraint → Option (Ray × Ray) → Option Point → Option Point
improved_to p f h rays None = reopened_to p (gaining f rays)
improved_to p f h rays (Some v) = elim (keeps h v) [ true ↦ Some v | false ↦ Some p ]

abbrev pub settled_to :
    Point → Functional → ℕ → Constraint → Option (Ray × Ray) → Option Point → ℕ → ℕ → ℕ → Result Point Certificate → Walk
settled_to p f n h rays b moves opened restarts (Ok s) =
    let wedge = narrow h rays in going s wedge (improved_to p f h wedge b) (moves + one_if (breaks h b)) opened restarts
settled_to p f n h rays b moves opened restarts (Err c) =
    record { state = Ended (n - 1) c; moves = moves + one_if (breaks h b); opened = opened; restarts = restarts }

abbrev pub stepped_to : Result Point Certificate → Point → Functional → ℕ → Constraint → ℕ → ℕ → ℕ → State → Walk
stepped_to r p f n h moves opened restarts (Ended q c) = record { state = Ended q c; moves = moves; opened = opened; restarts = restarts }
stepped_to r p f n h moves opened restarts (Going s rays b) =
    settled_to p f n h rays b moves opened (recounted restarts h s) (elim (keeps h s) [ true ↦ Ok s | false ↦ r ])

-- m is the ring turned to the place of h
abbrev pub quick_step : Tie → Functional → List Constraint → ℕ → Constraint → List Constraint → Walk → Walk
quick_step t f S n h m w =
    stepped_to (restart_at t S n h (new_end (tie_order t) h m)) (point_at (gain_order f t) S h (new_end (gain_order f t) h m)) f n h w.moves
    w.opened w.restarts w.state

abbrev pub quick_walk_from : Tie → Functional → Constraint → List Constraint → ℕ → List Constraint → List Constraint → Walk → Walk
quick_walk_from t f D S n [] ring w = w
quick_walk_from t f D S n (h ∷ rest) ring w =
    quick_walk_from t f D (S ++ (h ∷ [])) (suc n) rest (insert D h ring) (quick_step t f S n h (placed D h ring) w)

abbrev pub quick_walk : Tie → Floors → Functional → List Constraint → Walk
quick_walk t floors f rules = quick_walk_from t f (size floors) (system floors []) 2 rules (triangle floors) (begin floors f)
