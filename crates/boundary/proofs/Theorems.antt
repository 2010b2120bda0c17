-- The theorems about the ring of a system, for every floors and every list of rules, over integers of any size.
use mathlib.Core.Path.{◌≡◌, refl}
use mathlib.Core.List.Memᴰ
use mathlib.Core.List.{List, [], ◌∷◌, Memᴰ}
use mathlib.Core.Logic.{◌↔◌}
use Rattle.lp.specs.declared.Constraint.{Constraint}
use Rattle.lp.specs.declared.Floors.{Floors}
use Rattle.lp.specs.declared.Point.{Point}
use Rattle.lp.specs.Program.{system}
use Rattle.lp.specs.Textbook.{Infeasible}
use Rattle.theory.proofs.Lists.{for-members}
use Rattle.theory.proofs.Enumeration.{allowed_vertices}
use Rattle.boundary.specs.Size.{size, horizon}
use Rattle.boundary.specs.Ring.{grown, corners}
use Rattle.boundary.proofs.Corner.{Corner}
use Rattle.boundary.proofs.Ways.{all-at, way_all, way_map}
use Rattle.boundary.proofs.Boundary.{Boundary}
use Rattle.boundary.proofs.Insert.{Encloses}
use Rattle.boundary.proofs.Grown.{framed, grown_encloses}
use Rattle.boundary.proofs.Corners.{corners-exactly, no_corner_exactly}

-- ---- a ring depends on its system by the members alone

module _ (D : Constraint) (S S' : List Constraint) (to : (r : Constraint) → Memᴰ r S → Memᴰ r S')
    (from : (r : Constraint) → Memᴰ r S' → Memᴰ r S) where
  pub encloses_members : (l : List Constraint) → Encloses D S l → Encloses D S' l
  encloses_members [] e = λ v sized kept. e v sized (λ r i. kept r (to r i))
  encloses_members (k ∷ l) e =
      record { edges = way_map (Corner D S) (Corner D S') moved k l k e.edges; distinct = e.distinct }
    where
      moved : (p q : Constraint) → Corner D S p q → Corner D S' p q
      moved p q c =
          record { first = to p c.first; second = to q c.second; turns = c.turns; kept = λ r i. c.kept r (from r i) }

module _ (f : Floors) where
  framed-members :
      (l m : List Constraint) →
      ((r : Constraint) → Memᴰ r l → Memᴰ r m) →
      (r : Constraint) →
      Memᴰ r (framed f l) →
      Memᴰ r (framed f m)
  framed-members l m to =
      for-members (λ r. Memᴰ r (framed f m)) horizon (system f l) (Memᴰ.head refl)
      (for-members (λ r. Memᴰ r (framed f m)) _ _ (Memᴰ.tail (Memᴰ.head refl))
      (for-members (λ r. Memᴰ r (framed f m)) _ l (Memᴰ.tail (Memᴰ.tail (Memᴰ.head refl)))
      (λ r i. Memᴰ.tail (Memᴰ.tail (Memᴰ.tail (to r i))))))

  -- the rules may enter the ring in any order, and more than once
  pub any_order :
      (rules order : List Constraint) →
      ((r : Constraint) → Memᴰ r rules → Memᴰ r order) →
      ((r : Constraint) → Memᴰ r order → Memᴰ r rules) →
      Encloses (size f) (framed f rules) (grown f order)
  any_order rules order to from =
      encloses_members (size f) (framed f order) (framed f rules) (framed-members order rules from) (framed-members rules order to)
      (grown f order) (grown_encloses f order)

  module _ (rules order : List Constraint) (to : (r : Constraint) → Memᴰ r rules → Memᴰ r order)
      (from : (r : Constraint) → Memᴰ r order → Memᴰ r rules) where
    -- a point is a corner of the ring exactly when it is a feasible vertex of the system
    pub ring-corners : (v : Point) → Memᴰ v (corners (grown f order)) ↔ Memᴰ v (allowed_vertices (system f rules))
    ring-corners = corners-exactly f rules (grown f order) (any_order rules order to from)

    -- the ring has no corner exactly when the system is infeasible
    pub ring-infeasible : (corners (grown f order) ≡ []) ↔ Infeasible (system f rules)
    ring-infeasible = no_corner_exactly f rules (grown f order) (any_order rules order to from)

  -- every edge of the ring is a rule, a floor or the horizon
  pub ring-edges : (rules : List Constraint) (r : Constraint) → Memᴰ r (grown f rules) → Memᴰ r (framed f rules)
  ring-edges rules = go (grown f rules) (grown_encloses f rules)
    where
      S : List Constraint
      S = framed f rules

      first : (k : Constraint) (l : List Constraint) → Boundary (size f) S k l → Memᴰ k S
      first k [] b = b.edges.first
      first k (e ∷ l) b = b.edges.0.first

      go : (l : List Constraint) → Encloses (size f) S l → (r : Constraint) → Memᴰ r l → Memᴰ r S
      go [] e = λ r i. absurd (Memᴰ.not-nil i)
      go (k ∷ l) b =
          for-members (λ r. Memᴰ r S) k l (first k l b)
          (all-at (λ r. Memᴰ r S) l (way_all (Corner (size f) S) (λ r. Memᴰ r S) (λ p q c. c.second) k l k b.edges))
