-- A boundary of S: a ring of edges whose neighbours meet in corners, no two of them on one line. It may be turned to begin at any of its
-- edges, and the model's search turns it to the place of h.
use mathlib.Core.Path.{◌≡◌, refl, sym, subst}
use mathlib.Core.List.{List, [], ◌∷◌, ◌++◌, append_assoc}
use mathlib.Core.Bool.{Bool, true, false}
use mathlib.Core.Logic.{◌⊎◌, inl, inr}
use Prim.Native.Nat.{suc}
use lib.Dec.{T}
use lib.ListN.{length}
use lib.IntN.{pos}
use lib.Signed.{le_z, le_z_yes, clash_ℤ}
use Rattle.ints.proofs.Order.{le_of_eq}
use Rattle.lp.specs.declared.Constraint.{Constraint}
use Rattle.theory.proofs.Lists.{and_left, and_right, and_both}
use Rattle.theory.proofs.Line.{meet-on-second}
use Rattle.boundary.specs.Size.{turn}
use Rattle.boundary.specs.Ring.{at_place, sought}
use Rattle.boundary.proofs.Identities.{turn-self}
use Rattle.boundary.proofs.Corner.{Corner, Apart, apart-sym}
use Rattle.boundary.proofs.Ways.{Way, Some, All, Pairwise, way_map, way_all, all_map, way_turned, pairwise_turned}
use Rattle.boundary.proofs.Ways.{way_rotated, pairwise_rotated}
use Rattle.boundary.proofs.Place.{Turns, AtPlace, place}

pub record Boundary (D : Constraint) (S : List Constraint) (k : Constraint) (l : List Constraint) : Type 0 where
  pub edges : Way (Corner D S) k l k
  pub distinct : Pairwise (Apart D) (k ∷ l)

module _ (D : Constraint) (S : List Constraint) where
  -- the ring may begin with its second edge
  pub turned : (k e : Constraint) (l : List Constraint) → Boundary D S k (e ∷ l) → Boundary D S e (l ++ (k ∷ []))
  turned k e l b =
      record {
        edges = way_turned (Corner D S) k e l b.edges;
        distinct = pairwise_turned (Apart D) (apart-sym D) k e l b.distinct;
      }

  -- or with any of its edges
  pub rotated :
      (k : Constraint) (l : List Constraint) (e : Constraint) (m : List Constraint) →
      Boundary D S k (l ++ (e ∷ m)) →
      Boundary D S e (m ++ (k ∷ l))
  rotated k l e m b =
      record {
        edges = way_rotated (Corner D S) k l e m b.edges;
        distinct = pairwise_rotated (Apart D) (apart-sym D) (k ∷ l) (e ∷ m) b.distinct;
      }

  -- no constraint stands in it twice
  pub edges-differ : (k : Constraint) (l : List Constraint) → Boundary D S k l → Pairwise (λ p q. p ≡ q → ⊥) (k ∷ l)
  edges-differ k l b = go (k ∷ l) b.distinct (before_last k l b.edges, before-each k l b.edges)
    where
      -- each edge has one before it, from which it turns
      Met : Constraint → Type 0
      Met q = (t : Constraint) × Turns D t q

      before-each : (p : Constraint) (l : List Constraint) → Way (Corner D S) p l k → All Met l
      before-each p l w = way_all (Corner D S) Met (λ x y c. (x, c.turns)) p l k w

      before_last : (p : Constraint) (l : List Constraint) → Way (Corner D S) p l k → Met k
      before_last p [] w = (p, w.turns)
      before_last p (q ∷ l) w = before_last q l w.1

      differs : (p q : Constraint) → Met p → Apart D p q → p ≡ q → ⊥
      differs p q (t, turns) a e =
          subst (λ z. Apart D p z) (sym e) a t turns turns (turn-self D p) (meet-on-second t p)

      go : (l : List Constraint) → Pairwise (Apart D) l → All Met l → Pairwise (λ p q. p ≡ q → ⊥) l
      go [] d m = tt
      go (p ∷ l) d m = (all_map (Apart D p) (λ q. p ≡ q → ⊥) (λ q. differs p q m.0) l d.0, go l d.1 m.1)

  -- every direction has its place
  pub boundary_place : (h k : Constraint) (l : List Constraint) → Boundary D S k l → Some (AtPlace D h) k l k
  boundary_place h k l b = place D h k l (way_map (Corner D S) (Turns D) (λ p q c. c.turns) k l k b.edges)

  -- ---- the search for the place

  -- the ring begins with the edge before the place of h
  abbrev pub Placed : Constraint → List Constraint → Type 0
  Placed h [] = ⊥
  Placed h (k ∷ []) = ⊥
  Placed h (k ∷ e ∷ l) = AtPlace D h k e × Boundary D S k (e ∷ l)

  module _ (h : Constraint) where
    tested : (k e : Constraint) → T (at_place D h k e) → AtPlace D h k e
    tested k e t =
        record {
          from_first = le_z_yes (and_left (le_z (pos 0) (turn D k h)) (le_z (pos 0) (turn D h e)) t);
          to-second = le_z_yes (and_right (le_z (pos 0) (turn D k h)) (le_z (pos 0) (turn D h e)) t);
        }

    passes : (k e : Constraint) → AtPlace D h k e → T (at_place D h k e)
    passes k e p = and_both (le_z (pos 0) (turn D k h)) (le_z (pos 0) (turn D h e)) p.from_first.le p.to-second.le

    -- one step: the place is here, or it is further on
    step :
        (k e : Constraint) (l further : List Constraint) →
        Boundary D S k (e ∷ l) →
        ((T (at_place D h k e) → ⊥) → Placed h further) →
        (b : Bool) →
        at_place D h k e ≡ b →
        Placed h (elim b [ true ↦ k ∷ e ∷ l | false ↦ further ])
    step k e l further b on true t = (tested k e (subst T (sym t) tt), b)
    step k e l further b on false t = on (λ s. subst T t s)

    -- l is yet to be looked at, up to its corner with first; m was looked at
    seek :
        (k : Constraint) (l : List Constraint) (first : Constraint) (m : List Constraint) →
        Boundary D S k (l ++ (first ∷ m)) →
        Some (AtPlace D h) k l first →
        Placed h (sought D h (suc (length l)) k (l ++ (first ∷ m)))
    seek k [] first m b s =
        step k first m (sought D h 0 first (m ++ (k ∷ []))) b (λ never. absurd (never (passes k first s))) (at_place D h k first) refl
    seek k (e ∷ l) first m b s =
        step k e (l ++ (first ∷ m)) (sought D h (suc (length l)) e ((l ++ (first ∷ m)) ++ (k ∷ []))) b
        (λ never. subst (λ r. Placed h (sought D h (suc (length l)) e r)) (sym associated)
        (seek e l first (m ++ (k ∷ [])) (subst (Boundary D S e) associated (turned k e (l ++ (first ∷ m)) b)) (further never s)))
        (at_place D h k e) refl
      where
        associated : (l ++ (first ∷ m)) ++ (k ∷ []) ≡ l ++ (first ∷ m ++ (k ∷ []))
        associated = append_assoc l (first ∷ m) (k ∷ [])

        further : (T (at_place D h k e) → ⊥) → AtPlace D h k e ⊎ Some (AtPlace D h) e l first → Some (AtPlace D h) e l first
        further never (inl p) = absurd (never (passes k e p))
        further never (inr t) = t

    pub sought-placed :
        (k : Constraint) (l : List Constraint) →
        Boundary D S k l →
        Placed h (sought D h (suc (length l)) k l)
    sought-placed k [] b = clash_ℤ b.edges.turns (le_of_eq (turn-self D k))
    sought-placed k (e ∷ l) b =
        step k e l (sought D h (suc (length l)) e (l ++ (k ∷ []))) b (λ never. seek e l k [] (turned k e l b)
        (further never (boundary_place h k (e ∷ l) b)))
        (at_place D h k e) refl
      where
        further : (T (at_place D h k e) → ⊥) → AtPlace D h k e ⊎ Some (AtPlace D h) e l k → Some (AtPlace D h) e l k
        further never (inl p) = absurd (never (passes k e p))
        further never (inr t) = t
