-- The region's boundary as a ring: a list of constraints, its edges, counter-clockwise; the last is followed by the first. Neighbours p
-- and q meet in a corner, `meet p q`, which may lie on the horizon. The list begins at any edge. The empty list says that nothing is
-- left.
--
-- A constraint h enters between neighbours k and e around which the normals turn from k to h and from h to e: its place. If the corner
-- there keeps h, so does all that the ring allows. Otherwise the edges on both sides whose outer corner is broken too are dropped, and h
-- is put in their stead.
use Rattle.std.specs.Prelude.{List, [], ◌∷◌, ◌++◌, Bool, true, false, ◌&&◌, ℕ, zero, suc, length, pos}
use Rattle.std.specs.Int.Signed.{le_z, lt_z}
use Rattle.lp.specs.declared.Constraint.{Constraint}
use Rattle.lp.specs.declared.Floors.{Floors}
use Rattle.lp.specs.declared.Point.{Point}
use Rattle.lp.specs.Program.{floor_x, floor_y}
use Rattle.lp.specs.Outcome.{det, meet, reduce, keeps}
use Rattle.boundary.specs.Size.{size, horizon, turn}

-- ---- the place of h

abbrev pub at_place : Constraint → Constraint → Constraint → Constraint → Bool
at_place D h k e = le_z (pos 0) (turn D k h) && le_z (pos 0) (turn D h e)

-- the ring turned until it begins with the edge before h's place, n steps at most
abbrev pub sought : Constraint → Constraint → ℕ → Constraint → List Constraint → List Constraint
sought D h zero k l = k ∷ l
sought D h (suc n) k [] = k ∷ []
sought D h (suc n) k (e ∷ l) = elim (at_place D h k e) [ true ↦ k ∷ e ∷ l | false ↦ sought D h n e (l ++ (k ∷ [])) ]

-- ---- what h leaves of a row of edges

abbrev pub keeps_at : Constraint → Constraint → Constraint → Bool
keeps_at h p q = keeps h (meet p q)

-- without the edges at its front whose later corner is broken
abbrev pub front : Constraint → Constraint → List Constraint → List Constraint
front h p [] = p ∷ []
front h p (q ∷ l) = elim (keeps_at h p q) [ true ↦ p ∷ q ∷ l | false ↦ front h q l ]

-- p before a row that begins with q, where `kept` says whether their corner is; q alone is dropped if not
abbrev pub joined : Constraint → Bool → List Constraint → List Constraint
joined p kept [] = p ∷ []
joined p true (q ∷ l) = p ∷ q ∷ l
joined p false (q ∷ []) = p ∷ []
joined p false (q ∷ r ∷ l) = p ∷ q ∷ r ∷ l

-- without the edges at its back whose earlier corner is broken
abbrev pub back : Constraint → Constraint → List Constraint → List Constraint
back h p [] = p ∷ []
back h p (q ∷ l) = joined p (keeps_at h p q) (back h q l)

-- ---- h enters

-- a row of one edge has no corner left
abbrev pub closed : Constraint → List Constraint → List Constraint
closed h [] = []
closed h (p ∷ []) = []
closed h (p ∷ q ∷ l) = h ∷ back h p (q ∷ l)

-- the ring begins with the edge before h's place
abbrev pub entered : Constraint → List Constraint → List Constraint
entered h [] = []
entered h (k ∷ []) = []
entered h (k ∷ e ∷ l) = elim (keeps_at h k e) [ true ↦ k ∷ e ∷ l | false ↦ closed h (front h e (l ++ (k ∷ []))) ]

abbrev pub insert : Constraint → Constraint → List Constraint → List Constraint
insert D h [] = []
insert D h (k ∷ l) = entered h (sought D h (length (k ∷ l)) k l)

-- ---- the ring of a system: the triangle of the floors and the horizon, and each rule in turn

abbrev pub triangle : Floors → List Constraint
triangle f = floor_y f ∷ horizon ∷ floor_x f ∷ []

abbrev pub grown_from : Constraint → List Constraint → List Constraint → List Constraint
grown_from D l [] = l
grown_from D l (h ∷ rules) = grown_from D (insert D h l) rules

abbrev pub grown : Floors → List Constraint → List Constraint
grown f rules = grown_from (size f) (triangle f) rules

-- ---- its corners: where neighbours meet in a point, which has a denominator above 0

abbrev pub listed : Constraint → Constraint → List Point → List Point
listed p q vs = elim (lt_z (pos 0) (det p q)) [ true ↦ reduce (meet p q) ∷ vs | false ↦ vs ]

-- from p on, up to the corner with the ring's first edge
abbrev pub corners_from : Constraint → Constraint → List Constraint → List Point
corners_from first p [] = listed p first []
corners_from first p (q ∷ l) = listed p q (corners_from first q l)

abbrev pub corners : List Constraint → List Point
corners [] = []
corners (k ∷ l) = corners_from k k l
