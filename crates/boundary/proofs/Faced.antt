-- A ring need not be turned by the model's search. Where two neighbours anywhere in it are at the place of h and their corner keeps h,
-- the ring stays as it is. Where the place of h is that of the last edge and the first, and their corner is broken, the ring is cut as it
-- stands.
use mathlib.Core.Path.{◌≡◌, sym, subst}
use mathlib.Core.List.{List, [], ◌∷◌, ◌++◌}
use mathlib.Core.Bool.{true, false}
use lib.Dec.{T}
use lib.IntN.{pos}
use lib.Signed.{le_z, le_z_yes}
use Rattle.ints.proofs.Order.{pos_nn}
use Rattle.lp.specs.declared.Constraint.{Constraint}
use Rattle.lp.specs.Outcome.{meet}
use Rattle.theory.proofs.Lists.{and_left, and_right}
use Rattle.theory.proofs.Extension.{extended}
use Rattle.boundary.specs.Size.{turn}
use Rattle.boundary.specs.Ring.{at_place, keeps_at, front, closed}
use Rattle.boundary.proofs.Corner.{KeepsAt, Corner, redundant}
use Rattle.boundary.proofs.Ways.{way_map}
use Rattle.boundary.proofs.Place.{AtPlace}
use Rattle.boundary.proofs.Boundary.{Boundary, rotated}
use Rattle.boundary.proofs.Insert.{Encloses, wider, entered_encloses}

module _ (D : Constraint) (S : List Constraint) (h k e : Constraint) (placed : at_place D h k e ≡ true) where
  tested : AtPlace D h k e
  tested =
      record {
        from_first = le_z_yes (and_left (le_z (pos 0) (turn D k h)) (le_z (pos 0) (turn D h e)) (subst T (sym placed) tt));
        to-second = le_z_yes (and_right (le_z (pos 0) (turn D k h)) (le_z (pos 0) (turn D h e)) (subst T (sym placed) tt));
      }

  -- k and e are neighbours in the ring
  pub stays_at :
      Corner D S k e →
      keeps_at h k e ≡ true →
      (p : Constraint) (l : List Constraint) →
      Boundary D S p l →
      Boundary D (S ++ (h ∷ [])) p l
  stays_at here kept p l b =
      record { edges = way_map (Corner D S) (Corner D (S ++ (h ∷ []))) still p l p b.edges; distinct = b.distinct }
    where
      keeps_here : KeepsAt h k e
      keeps_here = le_z_yes (subst T (sym kept) tt)

      still : (x y : Constraint) → Corner D S x y → Corner D (S ++ (h ∷ [])) x y
      still x y c =
          wider D S (S ++ (h ∷ [])) h (extended S h) x y c
          (redundant D h k e here.turns (meet x y) (c.kept k here.first) (c.kept e here.second) (pos_nn c.turns)
          tested.from_first tested.to-second keeps_here)

  -- the ring begins with e and ends with k
  pub cut_encloses :
      keeps_at h k e ≡ false →
      (l : List Constraint) →
      Boundary D S e (l ++ (k ∷ [])) →
      Encloses D (S ++ (h ∷ [])) (closed h (front h e (l ++ (k ∷ []))))
  cut_encloses broken l b =
      subst
      (λ t. Encloses D (S ++ (h ∷ [])) (elim t [ true ↦ k ∷ e ∷ l | false ↦ closed h (front h e (l ++ (k ∷ []))) ]))
      broken (entered_encloses D S (S ++ (h ∷ [])) h (extended S h) (k ∷ e ∷ l) (tested, rotated D S e l k [] b))
