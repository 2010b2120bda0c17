-- A constraint enters a boundary. S' is S with h. Where the corner at the place of h keeps h, every corner does, and the boundary stays.
-- Where it is broken, the edges that are dropped from the front and from the back leave a row whose corners all keep h, since the line
-- of h goes into the region over one edge alone; with h in front it is a boundary of S'. If all corners are broken, h is broken by all.
use mathlib.Core.Path.{◌≡◌, refl, sym, ap, subst}
use mathlib.Core.List.{List, [], ◌∷◌, ◌++◌, Memᴰ}
use mathlib.Core.Bool.{Bool, true, false, not}
use lib.Dec.{T}
use lib.ListN.{length}
use Prim.Native.Nat.{suc}
use lib.IntN.{pos}
use lib.Signed.{le_z_yes, clash_ℤ}
use Rattle.ints.specs.Order.{◌≤ᶻ◌, ◌<ᶻ◌}
use Rattle.ints.proofs.Order.{nn_zero, pos_nn, le_z_no, nn_neg}
use Rattle.lp.specs.declared.Constraint.{Constraint}
use Rattle.lp.specs.declared.Point.{Point}
use Rattle.lp.specs.Program.{slack, Keeps}
use Rattle.lp.specs.Outcome.{meet}
use Rattle.model.specs.Scan.{reversed}
use Rattle.theory.proofs.Line.{meet-on-first, meet-on-second}
use Rattle.theory.proofs.Extension.{Extends, for-extended}
use Rattle.boundary.specs.Ring.{keeps_at, front, joined, back, closed, entered, insert, sought}
use Rattle.boundary.proofs.Corner.{KeepsAt, BreaksAt, Corner, Apart, Entry, one_entry, broken-apart, redundant, broken-by-all}
use Rattle.boundary.proofs.Corner.{entering-turns, entering-keeps, leaving-turns, leaving-keeps}
use Rattle.boundary.proofs.Ways.{Way, Last, All, Pairwise, way_map, way_both, some_way, way_all, all_map, last_on}
use Rattle.boundary.proofs.Place.{AtPlace, turn-reversed, reversed-turn}
use Rattle.boundary.proofs.Boundary.{Boundary, Placed, turned, boundary_place, sought-placed}

module _ (D : Constraint) (S S' : List Constraint) (h : Constraint) (ext : Extends S h S') where
  -- ---- corners of the larger system

  pub wider : (p q : Constraint) → Corner D S p q → KeepsAt h p q → Corner D S' p q
  wider p q c k =
      record {
        first = ext.old p c.first;
        second = ext.old q c.second;
        turns = c.turns;
        kept = for-extended S S' h ext (λ r. KeepsAt r p q) c.kept k;
      }

  module _ (o p q : Constraint) (c : Corner D S o p) (n : Corner D S p q) where
    pub corner-entering : BreaksAt h o p → KeepsAt h p q → Corner D S' h p
    corner-entering b k =
        record {
          first = ext.new;
          second = ext.old p c.second;
          turns = entering-turns D h o p q c.turns n.turns (c.kept q n.second) b k;
          kept = for-extended S S' h ext (λ r. KeepsAt r h p)
              (λ r i. entering-keeps D h o p q c.turns n.turns (c.kept q n.second) b k r (c.kept r i) (n.kept r i))
              (nn_zero (meet-on-first h p));
        }

    pub corner-leaving : KeepsAt h o p → BreaksAt h p q → Corner D S' p h
    corner-leaving k b =
        record {
          first = ext.old p c.second;
          second = ext.new;
          turns = leaving-turns D h o p q c.turns n.turns (c.kept q n.second) k b;
          kept = for-extended S S' h ext (λ r. KeepsAt r p h)
              (λ r i. leaving-keeps D h o p q c.turns n.turns (c.kept q n.second) k b r (c.kept r i) (n.kept r i))
              (nn_zero (meet-on-second p h));
        }

  -- ---- a constraint that changes nothing

  pub boundary_stays :
      (k e : Constraint) (l : List Constraint) →
      Placed D S h (k ∷ e ∷ l) →
      KeepsAt h k e →
      Boundary D S' k (e ∷ l)
  boundary_stays k e l (p, b) kept =
      record {
        edges = way_map (Corner D S) (Corner D S') still k (e ∷ l) k b.edges;
        distinct = b.distinct;
      }
    where
      here : Corner D S k e
      here = b.edges.0

      still : (x y : Constraint) → Corner D S x y → Corner D S' x y
      still x y c =
          wider x y c
          (redundant D h k e here.turns (meet x y) (c.kept k here.first) (c.kept e here.second) (pos_nn c.turns)
          p.from_first p.to-second kept)

  -- ---- the row that is left: its front

  pub record Opened (p q : Constraint) (l : List Constraint) (e : Constraint) : Type 0 where
    pub before : Constraint
    pub corner : Corner D S before p
    pub broken : BreaksAt h before p
    pub kept : KeepsAt h p q
    pub edges : Way (Corner D S) p (q ∷ l) e
    pub last : Last (BreaksAt h) p (q ∷ l) e
    pub distinct : Pairwise (Apart D) (p ∷ q ∷ l)

  -- what is left of the row p ∷ l: all its corners are broken, or it begins where h enters
  abbrev Fronted : Constraint → List Constraint → Constraint → List Constraint → Type 0
  Fronted p l e [] = ⊥
  Fronted p l e (x ∷ []) = Way (BreaksAt h) p l e
  Fronted p l e (x ∷ y ∷ m) = Opened x y m e

  front-opens :
      (o p : Constraint) (l : List Constraint) (e : Constraint) →
      Corner D S o p →
      BreaksAt h o p →
      Way (Corner D S) p l e →
      Last (BreaksAt h) p l e →
      Pairwise (Apart D) (p ∷ l) →
      Fronted p l e (front h p l)
  front-opens o p [] e c b w last d = last
  front-opens o p (q ∷ l) e c b w last d =
      go (keeps_at h p q) (λ t. le_z_yes t) (λ t. le_z_no t) (λ k. front-opens p q l e w.0 k w.1 last d.1)
    where
      later : BreaksAt h p q → (m : List Constraint) → Fronted q l e m → Fronted p (q ∷ l) e m
      later k [] f = f
      later k (x ∷ []) f = (k, f)
      later k (x ∷ y ∷ m) f = f

      go :
          (t : Bool) →
          (T t → KeepsAt h p q) →
          (T (not t) → BreaksAt h p q) →
          (BreaksAt h p q → Fronted q l e (front h q l)) →
          Fronted p (q ∷ l) e (elim t [ true ↦ p ∷ q ∷ l | false ↦ front h q l ])
      go true yes-kept not-kept f =
          record { before = o; corner = c; broken = b; kept = yes-kept tt; edges = w; last = last; distinct = d }
      go false yes-kept not-kept f = later (not-kept tt) (front h q l) (f (not-kept tt))

  -- ---- the row that is left: its back

  -- after p, the edges as long as corners keep h
  abbrev rest : Constraint → List Constraint → List Constraint
  rest p [] = []
  rest p (q ∷ l) = elim (keeps_at h p q) [ true ↦ q ∷ rest q l | false ↦ [] ]

  -- over no edge of l does the line of h go in
  abbrev NoEntry : List Constraint → Type 0
  NoEntry l = All (λ q. Entry D S h q → ⊥) l

  -- after a broken corner every corner is broken
  all_dropped :
      (o p : Constraint) (l : List Constraint) (e : Constraint) →
      Corner D S o p →
      BreaksAt h o p →
      Way (Corner D S) p l e →
      NoEntry (p ∷ l) →
      back h p l ≡ p ∷ []
  all_dropped o p [] e c b w none = refl
  all_dropped o p (q ∷ l) e c b w none =
      go (keeps_at h p q) (λ t. le_z_yes t) (λ t. le_z_no t) (λ k. all_dropped p q l e w.0 k w.1 none.1)
    where
      go :
          (t : Bool) →
          (T t → KeepsAt h p q) →
          (T (not t) → BreaksAt h p q) →
          (BreaksAt h p q → back h q l ≡ q ∷ []) →
          joined p t (back h q l) ≡ p ∷ []
      go true yes-kept not-kept f =
          absurd (none.0 (record { before = o; after = q; corner = c; corner-after = w.0; broken = b; kept = yes-kept tt }))
      go false yes-kept not-kept f = ap (joined p false) (f (not-kept tt))

  -- so that dropping from the back leaves what taking from the front takes
  back-rest :
      (p : Constraint) (l : List Constraint) (e : Constraint) →
      Way (Corner D S) p l e →
      NoEntry l →
      back h p l ≡ p ∷ rest p l
  back-rest p [] e w none = refl
  back-rest p (q ∷ l) e w none =
      go (keeps_at h p q) (λ t. le_z_no t) (back-rest q l e w.1 none.1) (λ k. all_dropped p q l e w.0 k w.1 none)
    where
      go :
          (t : Bool) →
          (T (not t) → BreaksAt h p q) →
          back h q l ≡ q ∷ rest q l →
          (BreaksAt h p q → back h q l ≡ q ∷ []) →
          joined p t (back h q l) ≡ p ∷ elim t [ true ↦ q ∷ rest q l | false ↦ [] ]
      go true not-kept taken dropped = ap (joined p true) taken
      go false not-kept taken dropped = ap (joined p false) (dropped (not-kept tt))

  -- the way along the rest comes to h
  rest_way :
      (o p : Constraint) (l : List Constraint) (e : Constraint) →
      Corner D S o p →
      KeepsAt h o p →
      Way (Corner D S) p l e →
      Last (BreaksAt h) p l e →
      Way (Corner D S') p (rest p l) h
  rest_way o p [] e c k w last = corner-leaving o p e c w k last
  rest_way o p (q ∷ l) e c k w last =
      go (keeps_at h p q) (λ t. le_z_yes t) (λ t. le_z_no t) (λ n. rest_way p q l e w.0 n w.1 last)
    where
      go :
          (t : Bool) →
          (T t → KeepsAt h p q) →
          (T (not t) → BreaksAt h p q) →
          (KeepsAt h p q → Way (Corner D S') q (rest q l) h) →
          Way (Corner D S') p (elim t [ true ↦ q ∷ rest q l | false ↦ [] ]) h
      go true yes-kept not-kept f = (wider p q w.0 (yes-kept tt), f (yes-kept tt))
      go false yes-kept not-kept f = corner-leaving o p q c w.0 k (not-kept tt)

  all_rest : (P : Constraint → Type 0) (p : Constraint) (l : List Constraint) → All P l → All P (rest p l)
  all_rest P p [] a = tt
  all_rest P p (q ∷ l) a = go (keeps_at h p q) (all_rest P q l a.1)
    where
      go : (t : Bool) → All P (rest q l) → All P (elim t [ true ↦ q ∷ rest q l | false ↦ [] ])
      go true f = (a.0, f)
      go false f = tt

  pairwise_rest : (R : Constraint → Constraint → Type 0) (p : Constraint) (l : List Constraint) → Pairwise R l → Pairwise R (rest p l)
  pairwise_rest R p [] d = tt
  pairwise_rest R p (q ∷ l) d = go (keeps_at h p q) (all_rest (R q) q l d.0) (pairwise_rest R q l d.1)
    where
      go : (t : Bool) → All (R q) (rest q l) → Pairwise R (rest q l) → Pairwise R (elim t [ true ↦ q ∷ rest q l | false ↦ [] ])
      go true a f = (a, f)
      go false a f = tt

  -- ---- the boundary of the larger system

  -- v is the corner that h cuts off
  cut_boundary :
      (p q : Constraint) (l : List Constraint) (e : Constraint) (v : Point) →
      slack h v <ᶻ pos 0 →
      ((r : Constraint) → Memᴰ r S → Keeps r v) →
      Opened p q l e →
      Boundary D S' h (back h p (q ∷ l))
  cut_boundary p q l e v broken kept o =
      subst (Boundary D S' h) (sym (back-rest p (q ∷ l) e o.edges none)) cut
    where
      enters : Entry D S h p
      enters =
          record { before = o.before; after = q; corner = o.corner; corner-after = o.edges.0; broken = o.broken; kept = o.kept }

      none : NoEntry (q ∷ l)
      none = all_map (Apart D p) (λ x. Entry D S h x → ⊥) (λ x a other. one_entry D S h p x enters other a) (q ∷ l) o.distinct.0

      edge : Corner D S' h p
      edge = corner-entering o.before p q o.corner o.edges.0 o.broken o.kept

      -- the first corner is kept
      along : (t : Bool) → (T (not t) → BreaksAt h p q) → Way (Corner D S') p (elim t [ true ↦ q ∷ rest q l | false ↦ [] ]) h
      along true not-kept = (wider p q o.edges.0 o.kept, rest_way p q l e o.edges.0 o.kept o.edges.1 o.last)
      along false not-kept = clash_ℤ (not-kept tt) o.kept

      apart : (x : Constraint) → Memᴰ x S → Apart D h x
      apart x i = broken-apart D h x v broken (kept x i)

      cut : Boundary D S' h (p ∷ rest p (q ∷ l))
      cut =
          record {
            edges = (edge, along (keeps_at h p q) (λ t. le_z_no t));
            distinct = (
              (
                apart p o.corner.second,
                all_rest (Apart D h) p (q ∷ l)
                    (all_map (λ x. Memᴰ x S) (Apart D h) apart (q ∷ l)
                    (way_all (Corner D S) (λ x. Memᴰ x S) (λ x y c. c.second) p (q ∷ l) e o.edges)),
              ),
              (all_rest (Apart D p) p (q ∷ l) o.distinct.0, pairwise_rest (Apart D) p (q ∷ l) o.distinct.1),
            );
          }

  -- every corner is broken, so h is broken by all
  pub nothing_left :
      (e : Constraint) (l : List Constraint) →
      Boundary D S e l →
      Way (BreaksAt h) e l e →
      (v : Point) →
      pos 0 <ᶻ slack D v →
      ((r : Constraint) → Memᴰ r S → Keeps r v) →
      slack h v <ᶻ pos 0
  nothing_left e l b broken v sized kept =
      go
      (some_way (λ x y. Corner D S x y × BreaksAt h x y) (AtPlace D (reversed h)) e l e
      (way_both (Corner D S) (BreaksAt h) e l e b.edges broken) (boundary_place D S (reversed h) e l b))
    where
      go : (x : Constraint) × (y : Constraint) × (Corner D S x y × BreaksAt h x y) × AtPlace D (reversed h) x y → slack h v <ᶻ pos 0
      go (x, y, c, p) =
          broken-by-all D h x y c.0.turns v (kept x c.0.first) (kept y c.0.second) sized
          (nn_neg (subst (λ z. pos 0 ≤ᶻ z) (turn-reversed D h x) p.from_first))
          (nn_neg (subst (λ z. pos 0 ≤ᶻ z) (reversed-turn D h y) p.to-second)) c.1

-- ---- the ring of a system: a boundary, or nothing is left

abbrev pub Encloses : Constraint → List Constraint → List Constraint → Type 0
Encloses D S [] = (v : Point) → pos 0 <ᶻ slack D v → ((r : Constraint) → Memᴰ r S → Keeps r v) → ⊥
Encloses D S (k ∷ l) = Boundary D S k l

module _ (D : Constraint) (S S' : List Constraint) (h : Constraint) (ext : Extends S h S') where
  pub entered_encloses : (m : List Constraint) → Placed D S h m → Encloses D S' (entered h m)
  entered_encloses [] p = absurd p
  entered_encloses (k ∷ []) p = absurd p
  entered_encloses (k ∷ e ∷ l) p = go (keeps_at h k e) (λ t. le_z_yes t) (λ t. le_z_no t)
    where
      ring : Boundary D S e (l ++ (k ∷ []))
      ring = turned D S k e l p.1

      here : Corner D S k e
      here = p.1.edges.0

      cut :
          BreaksAt h k e →
          (m : List Constraint) →
          Fronted D S S' h ext e (l ++ (k ∷ [])) e m →
          Encloses D S' (closed h m)
      cut b [] f = absurd f
      cut b (x ∷ []) f =
          λ v sized kept.
          clash_ℤ (nothing_left D S S' h ext e (l ++ (k ∷ [])) ring f v sized (λ r i. kept r (ext.old r i))) (kept h ext.new)
      cut b (x ∷ y ∷ m) f = cut_boundary D S S' h ext x y m e (meet k e) b here.kept f

      go :
          (t : Bool) →
          (T t → KeepsAt h k e) →
          (T (not t) → BreaksAt h k e) →
          Encloses D S' (elim t [ true ↦ k ∷ e ∷ l | false ↦ closed h (front h e (l ++ (k ∷ []))) ])
      go true yes-kept not-kept = boundary_stays D S S' h ext k e l p (yes-kept tt)
      go false yes-kept not-kept =
          cut (not-kept tt) (front h e (l ++ (k ∷ [])))
          (front-opens D S S' h ext k e (l ++ (k ∷ [])) e here (not-kept tt) ring.edges (last_on (BreaksAt h) e l k e (not-kept tt))
          ring.distinct)

  -- the law of the insertion
  pub insert_encloses : (l : List Constraint) → Encloses D S l → Encloses D S' (insert D h l)
  insert_encloses [] none = λ v sized kept. none v sized (λ r i. kept r (ext.old r i))
  insert_encloses (k ∷ l) b = entered_encloses (sought D h (suc (length l)) k l) (sought-placed D S h k l b)
