-- The step of the incremental method (the lemma on the optimal vertex of source documents 001 and 002): v is the greatest point of S and
-- breaks h, so the greatest point of S and h is the tightest point on the line of h. v may be a ray, which is how an unbounded system
-- becomes bounded.
use mathlib.Core.Path.{◌≡◌}
use mathlib.Core.List.{List, Memᴰ}
use mathlib.Core.Logic.{◌⊎◌, inl, inr}
use mathlib.Core.Bool.{Bool}
use lib.IntN.{pos}
use Rattle.ints.specs.Order.{◌≤ᶻ◌, ◌<ᶻ◌}
use Rattle.ints.proofs.Order.{nn_zero, pos_nn, le_or_lt}
use Rattle.lp.specs.declared.Constraint.{Constraint}
use Rattle.lp.specs.declared.Point.{Point}
use Rattle.lp.specs.declared.Ray.{Ray}
use Rattle.lp.specs.Program.{slack, Keeps, Feasible}
use Rattle.lp.specs.Outcome.{det, meet}
use Rattle.model.specs.Scan.{facing, direction}
use Rattle.theory.proofs.Direction.{Upward, AtMost, Greatest, at-most_trans}
use Rattle.theory.proofs.Crossing.{crossing, crossing-proper, crossing-keeps, crossing_on, crossing-above}
use Rattle.theory.proofs.Line.{on_line, off-line, meet-on-second, before-meeting, kept-at-meeting}

-- k is met first along the line of l, among the constraints of S that are met at all
pub record Tight (S : List Constraint) (l k : Constraint) : Type 0 where
  pub member : Memᴰ k S
  pub crosses : pos 0 <ᶻ det k l
  pub tightest : (m : Constraint) → Memᴰ m S → pos 0 <ᶻ det m l → Keeps m (meet k l)

module _ (Up : Ray → Type 0) (O : Upward Up) (S : List Constraint) (h : Constraint) (v : Point) (v-proper : pos 0 ≤ᶻ v.d)
    (v-keeps : (r : Constraint) → Memᴰ r S → Keeps r v) (v-greatest : Greatest Up S v) (v-breaks : slack h v <ᶻ pos 0) (side : Bool)
    (k : Constraint) (up : Up (direction (facing side h))) (tight : Tight S (facing side h) k) where
  abbrev l : Constraint
  l = facing side h

  module _ (w : Point) (w-feasible : Feasible S w) (w-keeps : Keeps h w) where
    abbrev z : Point
    z = crossing h v w

    z-proper : pos 0 <ᶻ z.d
    z-proper = crossing-proper h v w v-breaks w-keeps v-proper w-feasible.proper

    z-on : slack l z ≡ pos 0
    z-on = on_line side h z (crossing_on h v w v-breaks w-keeps)

    z-keeps : (r : Constraint) → Memᴰ r S → Keeps r z
    z-keeps r i = crossing-keeps h v w v-breaks w-keeps r (v-keeps r i) (w-feasible.kept r i)

    -- no feasible point is above the tightest one
    pub step-below : AtMost Up w (meet k l)
    step-below =
        at-most_trans Up O w z (meet k l) (pos_nn w-feasible.proper) z-proper (pos_nn tight.crosses)
        (crossing-above h v w v-breaks w-keeps Up O (v-greatest w w-feasible))
        (before-meeting Up O k l z up z-on (z-keeps k tight.member))

    -- and if there is a feasible point at all, the tightest one is feasible
    pub step_keeps : (m : Constraint) → Memᴰ m S → Keeps m (meet k l)
    step_keeps m i = go (le_or_lt (det m l) (pos 0))
      where
        go : (det m l ≤ᶻ pos 0) ⊎ (pos 0 <ᶻ det m l) → Keeps m (meet k l)
        go (inl away) = kept-at-meeting m k l z z-proper z-on tight.crosses away (z-keeps k tight.member) (z-keeps m i)
        go (inr met) = tight.tightest m i met

  -- the tightest point is on the line of h, so it keeps h
  pub step-on : Keeps h (meet k l)
  step-on = nn_zero (off-line side h (meet k l) (meet-on-second k l))
