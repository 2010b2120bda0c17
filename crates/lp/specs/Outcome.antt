-- The outcome of a system, by enumeration and nothing else: every vertex, every candidate for a ray, and the first of those that qualify.
-- It is slow; it is there to be read, and for every promise to be equal to.
use Rattle.std.specs.Prelude.{List, [], ◌∷◌, ◌++◌, Bool, true, false, ◌&&◌, ℤ, pos, neg_ℤ, ◌-ℤ◌, ◌*ℤ◌, nat_abs}
use Rattle.std.specs.Int.Signed.{le_z, lt_z, quot_z}
use Rattle.ints.specs.Gcd.{gcd, gcd3}
use Rattle.lp.specs.declared.Constraint.{Constraint}
use Rattle.lp.specs.declared.Functional.{Functional}
use Rattle.lp.specs.declared.Floors.{Floors}
use Rattle.lp.specs.declared.Tie.{Tie}
use Rattle.lp.specs.declared.Point.{Point}
use Rattle.lp.specs.declared.Ray.{Ray}
use Rattle.lp.specs.declared.Outcome.{Outcome}
use Rattle.lp.specs.declared.Outcome.TheVariants.{Infeasible, Unbounded, Optimal}
use Rattle.lp.specs.Program.{point, ray, slack, along, rise, between, system}

-- ---- lists

module _ {A : Type 0} where
  abbrev pub keep : (A → Bool) → List A → List A
  keep test [] = []
  keep test (x ∷ l) = elim (test x) [ true ↦ x ∷ keep test l | false ↦ keep test l ]

  abbrev pub every : (A → Bool) → List A → Bool
  every test [] = true
  every test (x ∷ l) = elim (test x) [ true ↦ every test l | false ↦ false ]

  -- the first of x and the list's elements, where `better y x` says that y goes before x
  abbrev pub pick : (A → A → Bool) → A → List A → A
  pick better x [] = x
  pick better x (y ∷ l) = pick better (elim (better y x) [ true ↦ y | false ↦ x ]) l

-- ---- vertices

abbrev pub det : Constraint → Constraint → ℤ
det r s = r.a *ℤ s.b -ℤ s.a *ℤ r.b

-- where the lines of r and s meet, if det r s is not 0
abbrev pub meet : Constraint → Constraint → Point
meet r s = point (r.c *ℤ s.b -ℤ s.c *ℤ r.b) (r.a *ℤ s.c -ℤ s.a *ℤ r.c) (det r s)

abbrev pub reduce : Point → Point
reduce v =
    let g = pos (gcd3 v.x v.y v.d) in
    point (quot_z v.x g) (quot_z v.y g) (quot_z v.d g)

-- of two lines that cross, one order has a positive determinant: each vertex is made once
abbrev pub meetings : Constraint → List Constraint → List Point
meetings r [] = []
meetings r (s ∷ l) = elim (lt_z (pos 0) (det r s)) [ true ↦ reduce (meet r s) ∷ meetings r l | false ↦ meetings r l ]

abbrev pub vertices_of : List Constraint → List Constraint → List Point
vertices_of S [] = []
vertices_of S (r ∷ l) = meetings r S ++ vertices_of S l

abbrev pub vertices : List Constraint → List Point
vertices S = vertices_of S S

abbrev pub keeps : Constraint → Point → Bool
keeps r v = le_z (pos 0) (slack r v)

abbrev pub allowed : List Constraint → Point → Bool
allowed S v = every (λ r. keeps r v) S

-- ---- the order of points: functionals compared in turn, the greater value first

abbrev pub above : List Functional → Ray → Bool
above [] d = false
above (f ∷ fs) d =
    elim (lt_z (pos 0) (along f d)) [ true ↦ true | false ↦ elim (lt_z (along f d) (pos 0)) [ true ↦ false | false ↦ above fs d ] ]

abbrev pub better : List Functional → Point → Point → Bool
better fs w v = above fs (between v w)

-- ---- rays

-- document 01's candidates: (b, −a) and (−b, a) of each rule. The floors' own are (1, 0) and (0, 1), with their opposites
abbrev pub candidates : List Constraint → List Ray
candidates [] = []
candidates (r ∷ l) = ray r.b (neg_ℤ r.a) ∷ ray (neg_ℤ r.b) r.a ∷ candidates l

-- a lawful direction: no constraint is left along it, and it gains. The floors say that dx and dy are not negative
abbrev pub lawful : List Constraint → Functional → Ray → Bool
lawful S f d = every (λ r. le_z (rise r d) (pos 0)) S && lt_z (pos 0) (along f d)

abbrev pub cross : Ray → Ray → ℤ
cross d e = d.dx *ℤ e.dy -ℤ d.dy *ℤ e.dx

-- d has the smaller slope
abbrev pub flatter : Ray → Ray → Bool
flatter d e = lt_z (pos 0) (cross d e)

abbrev pub reduce_ray : Ray → Ray
reduce_ray d =
    let g = pos (gcd (nat_abs d.dx) (nat_abs d.dy)) in
    ray (quot_z d.dx g) (quot_z d.dy g)

-- ---- the outcome

abbrev pub tie_order : Tie → List Functional
tie_order t = t.first ∷ t.second ∷ []

abbrev pub gain_order : Functional → Tie → List Functional
gain_order f t = f ∷ tie_order t

-- with the allowed vertices and the lawful candidates at hand: the start pair is the first by the tie alone
abbrev pub decide : Tie → Functional → List Point → List Ray → Outcome
decide t f [] rays = Infeasible
decide t f (v ∷ vs) [] = Optimal (pick (better (gain_order f t)) v vs)
decide t f (v ∷ vs) (d ∷ ds) = Unbounded (pick (better (tie_order t)) v vs) (reduce_ray (pick flatter d ds))

abbrev pub outcome_of : Tie → Functional → List Constraint → Outcome
outcome_of t f S = decide t f (keep (allowed S) (vertices S)) (keep (lawful S f) (candidates S))

abbrev pub outcome : Tie → Floors → Functional → List Constraint → Outcome
outcome t floors f rules = outcome_of t f (system floors rules)
