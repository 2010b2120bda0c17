-- The corners of a region (request 110): what a corner is, in the request's own words, and the list of a system's corners, by enumeration
-- and nothing else: smaller x first, then smaller y, none twice. This order is the request's own, whatever the tie is.
use Rattle.std.specs.Prelude.{◌≡◌, Bool, true, false, ◌&&◌, T, ℤ, pos, negsuc, ◌*ℤ◌}
use mathlib.Core.List.{List, [], ◌∷◌, Memᴰ}
use Rattle.std.specs.Int.Signed.{lt_z}
use Rattle.ints.specs.Gcd.{Reduced}
use Rattle.lp.specs.declared.Constraint.{Constraint}
use Rattle.lp.specs.declared.Floors.{Floors}
use Rattle.lp.specs.declared.Point.{Point}
use Rattle.lp.specs.Program.{constraint, point, slack, Feasible, system}
use Rattle.lp.specs.Outcome.{keep, every, vertices, allowed}
use Rattle.lp.specs.Document.{zero_floors, same_point}

-- ---- what a corner is

-- request 110: an allowed pair at which two rules or floors (a, b), (a', b') with a·b' ≠ a'·b hold with equality; in lowest terms, as
-- every pair is
pub record Corner (S : List Constraint) (v : Point) : Type 0 where
  pub feasible : Feasible S v
  pub one : Constraint
  pub other : Constraint
  pub one-member : Memᴰ one S
  pub other-member : Memᴰ other S
  pub not_parallel : one.a *ℤ other.b ≡ other.a *ℤ one.b → ⊥
  pub one-tight : slack one v ≡ pos 0
  pub other-tight : slack other v ≡ pos 0
  pub lowest : Reduced v.x v.y v.d

-- ---- the order of the list

-- x/d is less than x'/d', where d and d' are positive
abbrev pub less : ℤ → ℤ → ℤ → ℤ → Bool
less x d x' d' = lt_z (x *ℤ d') (x' *ℤ d)

-- smaller x first, and then smaller y
abbrev pub before : Point → Point → Bool
before v w =
    elim (less v.x v.d w.x w.d) [
      | true ↦ true
      | false ↦ elim (less w.x w.d v.x v.d) [ true ↦ false | false ↦ less v.y v.d w.y w.d ]
    ]

-- each point comes before all those after it: so none stands twice
abbrev pub Rising : List Point → Type 0
Rising [] = Unit {0}
Rising (v ∷ l) = T (every (before v) l) × Rising l

-- a point put into its place in a rising list, unless it stands there already
abbrev pub placed : Point → List Point → List Point
placed v [] = v ∷ []
placed v (w ∷ l) =
    elim (before v w) [ true ↦ v ∷ w ∷ l | false ↦ elim (before w v) [ true ↦ w ∷ placed v l | false ↦ w ∷ l ] ]

abbrev pub arranged : List Point → List Point
arranged [] = []
arranged (v ∷ l) = placed v (arranged l)

-- ---- the list

abbrev pub corners_in : List Constraint → List Point
corners_in S = arranged (keep (allowed S) (vertices S))

abbrev pub corners_of : Floors → List Constraint → List Point
corners_of floors rules = corners_in (system floors rules)

-- ---- examples: the rules and the corners of their region

pub record Region : Type 0 where
  pub rules : List Constraint
  pub corners : List Point

abbrev pub same_points : List Point → List Point → Bool
same_points [] [] = true
same_points [] (w ∷ m) = false
same_points (v ∷ l) [] = false
same_points (v ∷ l) (w ∷ m) = same_point v w && same_points l m

abbrev region : List Constraint → List Point → Region
region rules corners = record { rules = rules; corners = corners }

abbrev origin : Point
origin = point (pos 0) (pos 0) (pos 1)

abbrev pub regions : List Region
regions =
    -- the quadrant
    region [] (origin ∷ [])
    -- the class example: four corners, two with x = 0
    ∷ region (constraint (pos 1) (pos 2) (pos 8) ∷ constraint (pos 3) (pos 1) (pos 9) ∷ [])
    (origin ∷ point (pos 0) (pos 4) (pos 1) ∷ point (pos 2) (pos 3) (pos 1) ∷ point (pos 3) (pos 0) (pos 1) ∷ [])
    -- a corner in lowest terms: 7/5, 7/5 lies between 0 and 7/3
    ∷ region (constraint (pos 2) (pos 3) (pos 7) ∷ constraint (pos 3) (pos 2) (pos 7) ∷ [])
    (origin ∷ point (pos 0) (pos 7) (pos 3) ∷ point (pos 7) (pos 7) (pos 5) ∷ point (pos 7) (pos 0) (pos 3) ∷ [])
    -- a strip without end: the parallel lines x − y ≤ 2 and y − x ≤ 1 have no corner in common
    ∷ region (constraint (pos 1) (negsuc 0) (pos 2) ∷ constraint (negsuc 0) (pos 1) (pos 1) ∷ [])
    (origin ∷ point (pos 0) (pos 1) (pos 1) ∷ point (pos 2) (pos 0) (pos 1) ∷ [])
    -- many lines through the origin, one of them twice, and a rule without a direction: one corner
    ∷ region (constraint (pos 1) (negsuc 0) (pos 0) ∷ constraint (negsuc 0) (pos 1) (pos 0) ∷ constraint (pos 1) (pos 1) (pos 0)
    ∷ constraint (pos 1) (pos 1) (pos 0) ∷ constraint (pos 0) (pos 0) (pos 0) ∷ [])
    (origin ∷ [])
    -- a segment: x + y ≤ 3 and x + y ≥ 3
    ∷ region (constraint (pos 1) (pos 1) (pos 3) ∷ constraint (negsuc 0) (negsuc 0) (negsuc 2) ∷ [])
    (point (pos 0) (pos 3) (pos 1) ∷ point (pos 3) (pos 0) (pos 1) ∷ [])
    -- impossible
    ∷ region (constraint (pos 1) (pos 0) (negsuc 0) ∷ []) []
    ∷ []

abbrev pub cornered : Region → Bool
cornered g = same_points (corners_of zero_floors g.rules) g.corners
