-- Corners as points in a run of numbers, three to a point; the first of them in an order; and what an objective is answered by a list of
-- corners and the rays of the region. That this is what a plan would give is a theorem (proofs/Planned.antt).
use Rattle.std.specs.Prelude.{ℕ, zero, suc, ◌+◌, ◌*◌, true, false, List, [], ◌∷◌, ◌++◌, get_or, ℤ, pos, Option, None, Some}
use Rattle.lp.specs.declared.Functional.{Functional}
use Rattle.lp.specs.declared.Point.{Point}
use Rattle.lp.specs.Program.{point}
use Rattle.lp.specs.Outcome.{pick, better, tie_order, gain_order}
use Rattle.lp.specs.Document.{tie}
use Rattle.lp.specs.declared.Ray.{Ray}
use Rattle.model.specs.Step.{gaining}
use Rattle.offering.specs.declared.offers.Offer.{Offer}
use Rattle.offering.specs.declared.offers.Offer.TheVariants.{Best, Unlimited, Impossible}
use Rattle.offering.specs.Offers.{offer_bytes}

abbrev pub point_at : List ℤ → ℕ → Point
point_at l k = point (get_or l (3 * k) (pos 0)) (get_or l (3 * k + 1) (pos 0)) (get_or l (3 * k + 2) (pos 0))

-- n points from place k on
abbrev pub points_from : List ℤ → ℕ → ℕ → List Point
points_from l k zero = []
points_from l k (suc n) = point_at l k ∷ points_from l (suc k) n

abbrev pub nowhere : Point
nowhere = point (pos 0) (pos 0) (pos 0)

-- w if it goes before v
abbrev pub chosen_of : List Functional → Point → Point → Point
chosen_of fs w v = elim (better fs w v) [ true ↦ w | false ↦ v ]

-- the first of some points, if there are any
abbrev pub first_by : List Functional → List Point → Point
first_by fs [] = nowhere
first_by fs (v ∷ vs) = pick (better fs) v vs

-- with the start pair and the best pair at hand
abbrev pub offer_along : Option Ray → Point → Point → Offer
offer_along (Some d) start best = Unlimited start
offer_along None start best = Best best

abbrev pub offer_in : Option (Ray × Ray) → List Point → Functional → Offer
offer_in rays [] f = Impossible
offer_in rays (v ∷ vs) f = offer_along (gaining f rays) (first_by (tie_order tie) (v ∷ vs)) (first_by (gain_order f tie) (v ∷ vs))

-- the answers' bytes, where each objective is answered so
unfoldable pub answers_by : (Functional → Offer) → List Functional → List ℕ
answers_by answer [] = []
answers_by answer (f ∷ fs) = offer_bytes (answer f) ++ answers_by answer fs
