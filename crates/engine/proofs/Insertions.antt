-- A constraint h enters the ring. Between the two edges at its place the ring stays where their corner keeps h, and is cut where it is
-- turned until the one is its last and the other its first. The ring encloses the larger system then, whichever system it enclosed.
use Rattle.std.specs.Prelude.{Option, None, Some}
use mathlib.Core.Path.{◌≡◌, refl, sym, ◌∙◌, ap, subst}
use mathlib.Core.List.{List, [], ◌∷◌, ◌++◌}
use mathlib.Core.Bool.{Bool, true, false}
use Prim.Native.Nat.{ℕ, zero, suc, ◌+◌, ◌-◌, ◌<◌}
use native.Mathlib.Omega.{arith}
use borrow.Author.Tests.{ltb-true, ltb-false}
use lib.Dec.{ltb}
use lib.IntN.{ℤ}
use Rattle.lp.specs.declared.Constraint.{Constraint}
use Rattle.lp.specs.declared.Point.{Point}
use Rattle.lp.specs.Outcome.{meet}
use Rattle.boundary.specs.Ring.{at_place, keeps_at, closed}
use Rattle.boundary.proofs.Corner.{Corner}
use Rattle.boundary.proofs.Ways.{Way}
use Rattle.boundary.proofs.Boundary.{Boundary}
use Rattle.boundary.proofs.Insert.{Encloses}
use Rattle.boundary.proofs.Faced.{stays_at, cut_encloses}
use Rattle.boundary.specs.declared.Arc.{Arc}
use Rattle.engine.specs.declared.insert.Held.{Held}
use Rattle.engine.specs.declared.insert.Held.TheVariants as state
use Rattle.exact.specs.Wrapped.{wrapped_point}
use Rattle.exact.proofs.Exact.{meet-exact}
use Rattle.engine.specs.Row.{named, edge, edges, Named, following, is_between, front_row, ring_of, row_by}
use Rattle.engine.specs.Rings.{When, Pair, Faces, Turns, Halving, Sought, Putting, Put, Cut, Standing, Inserting, Inserted}
use Rattle.engine.proofs.Rows.{meet-small, ring-pair}
use Rattle.engine.proofs.Named.{edges-last}
use Rattle.engine.proofs.Places.{place_is, following-is}

-- ---- neighbours in the ring

module _ (R : Constraint → Constraint → Type 0) (e : List ℤ) (run : List ℕ) (t : Constraint) where
  pub way_at :
      (p m q k : ℕ) →
      q ≡ p + k →
      k < m →
      Way R (edge e run p) (edges e run (suc p) m) t →
      R (edge e run q) (edge e run (suc q))
  way_at p zero q k at b w = absurd (never k b)
    where
      never : (k : ℕ) → k < 0 → ⊥
      never k b = omega arith
  way_at p (suc m) q zero at b w = subst (λ (r : ℕ). R (edge e run r) (edge e run (suc r))) here w.0
    where
      here : p ≡ q
      here = omega arith
  way_at p (suc m) q (suc k) at b w = way_at (suc p) m q k (omega arith) (omega arith) w.1

  pub way_end : (p m q : ℕ) → q ≡ p + m → Way R (edge e run p) (edges e run (suc p) m) t → R (edge e run q) t
  way_end p zero q at w = subst (λ (r : ℕ). R (edge e run r) t) here w
    where
      here : p ≡ q
      here = omega arith
  way_end p (suc m) q at w = way_end (suc p) m q (omega arith) w.1

module _ (e : List ℤ) (run : List ℕ) (D : Constraint) (S : List Constraint) (lo n : ℕ) where
  -- an edge and the one that follows it have a corner
  corner-at :
      (k m : ℕ) →
      k < n →
      n ≡ suc m →
      Boundary D S (edge e run lo) (edges e run (suc lo) m) →
      Corner D S (edge e run (lo + k)) (edge e run (lo + following n k))
  corner-at k m inside en ring = go (ltb (k + 1) n) refl
    where
      at : (j : ℕ) → following n k ≡ j → (q : ℕ) → lo + j ≡ q → Corner D S (edge e run (lo + k)) (edge e run q) →
          Corner D S (edge e run (lo + k)) (edge e run (lo + following n k))
      at j ej q eq c = subst (λ (q : ℕ). Corner D S (edge e run (lo + k)) (edge e run q)) (sym (ap (λ (j : ℕ). lo + j) ej ∙ eq)) c

      go : (t : Bool) → ltb (k + 1) n ≡ t → Corner D S (edge e run (lo + k)) (edge e run (lo + following n k))
      go true t =
          at (k + 1) (following-is n k t) (suc (lo + k)) (omega arith)
          (way_at (Corner D S) e run (edge e run lo) lo m (lo + k) k refl (omega (arith, ltb-true (k + 1) n t)) ring.edges)
      go false t =
          at 0 (following-is n k t) lo (omega arith)
          (way_end (Corner D S) e run (edge e run lo) lo m (lo + k) (omega (arith, ltb-false (k + 1) n t)) ring.edges)

-- ---- what is said of a thing, if there is one

-- here is one
pub given : {A : Type 0} (P : A → Type 0) {o : Option A} {x : A} → o ≡ Some x → When P o → P x
given P is h = subst (When P) is h

-- and what follows from it is said too
pub when-so : {A : Type 0} (P Q : A → Type 0) → ((x : A) → P x → Q x) → (o : Option A) → When P o → When Q o
when-so P Q f None h = tt
when-so P Q f (Some x) h = f x h

-- ---- h enters

module _ {e : List ℤ} {run : List ℕ} {D : Constraint} {i : ℕ} {h : Constraint} {was : Held} (s : Inserting e run D i h was)
    {o : Option Arc} (eo : o ≡ ring_of was) {a : Arc} (ea : o ≡ Some a) where
  held : ring_of was ≡ Some a
  held = sym eo ∙ ea

  pub stood : Standing e run a
  stood = given (Standing e run) held s.standing

  -- where its line meets that of the size, worked out with what 64 bits leave: each law below says the same of such a point
  pub met : {w : Point} → w ≡ wrapped_point (meet h D) → w ≡ meet h D
  met em = em ∙ meet-exact (record { first = s.h-small; second = s.size_small })

  pub insert-seeking : {w : Point} → w ≡ meet h D → Halving e run D w a.lo a.n
  insert-seeking em =
      record {
        seeking = record { ring = stood.ring; two = stood.two; w-small = meet-small s.h-small s.size_small em };
        size_small = s.size_small;
      }

  module _ {w : Point} (em : w ≡ meet h D) {p : Option ℕ} (f : When (Sought e run w a.lo a.n) p) {k : ℕ}
      (ek : p ≡ Some k) where
    pub found : Sought e run w a.lo a.n k
    found = given (Sought e run w a.lo a.n) ek f

    placed : at_place D h (edge e run (a.lo + k)) (edge e run (a.lo + following a.n k)) ≡ true
    placed =
        place_is D h (edge e run (a.lo + k)) (edge e run (a.lo + following a.n k))
        ∙ ap (λ (w : Point). is_between w (edge e run (a.lo + k)) (edge e run (a.lo + following a.n k))) (sym em)
        ∙ found.between

    follows : following a.n k < a.n
    follows = go (ltb (k + 1) a.n) refl
      where
        at : (j : ℕ) → following a.n k ≡ j → j < a.n → following a.n k < a.n
        at j ej b = subst (λ (j : ℕ). j < a.n) (sym ej) b

        go : (t : Bool) → ltb (k + 1) a.n ≡ t → following a.n k < a.n
        go true t = at (k + 1) (following-is a.n k t) (ltb-true (k + 1) a.n t)
        go false t = at 0 (following-is a.n k t) (omega (arith, found.inside))

    module _ {q : ℕ} (eq : q ≡ a.lo + following a.n k) where
      pub insert-pair : Pair e run h (a.lo + k) q
      insert-pair =
          subst (λ (q : ℕ). Pair e run h (a.lo + k) q) (sym eq)
          (ring-pair stood.ring s.h-small (a.lo + k) (a.lo + following a.n k) (omega arith) (omega (arith, found.inside)) (omega arith)
          (omega (arith, follows)))

      -- what the corner there keeps or breaks
      pub insert-seen :
          {t : Bool} →
          t ≡ keeps_at h (edge e run (a.lo + k)) (edge e run q) →
          {b : Bool} →
          t ≡ b →
          keeps_at h (edge e run (a.lo + k)) (edge e run (a.lo + following a.n k)) ≡ b
      insert-seen et eb = ap (λ (q : ℕ). keeps_at h (edge e run (a.lo + k)) (edge e run q)) (sym eq) ∙ sym et ∙ eb

    -- the corner there keeps h
    pub insert-same :
        keeps_at h (edge e run (a.lo + k)) (edge e run (a.lo + following a.n k)) ≡ true →
        Inserted e run D i h was (state.Kept a) run
    insert-same keeps =
        record {
          same = refl;
          stands =
              record {
                fits = stood.ring.fits;
                two = stood.two;
                named = λ m below g. given (λ (b : Arc). Named m run b.lo b.n) held g;
                ring = λ S encloses.
                    go S (a.n - 1) (omega (arith, stood.two)) (given (λ (b : Arc). Encloses D S (edges e run b.lo b.n)) held encloses);
              };
          first = tt;
        }
      where
        go :
            (S : List Constraint) (m : ℕ) →
            a.n ≡ suc m →
            Encloses D S (edges e run a.lo a.n) →
            Encloses D (S ++ (h ∷ [])) (edges e run a.lo a.n)
        go S m en b =
            subst (λ (j : ℕ). Encloses D (S ++ (h ∷ [])) (edges e run a.lo j)) (sym en)
            (stays_at D S h (edge e run (a.lo + k)) (edge e run (a.lo + following a.n k)) placed
            (corner-at e run D S a.lo a.n k m found.inside en ring) keeps (edge e run a.lo) (edges e run (suc a.lo) m) ring)
          where
            ring : Boundary D S (edge e run a.lo) (edges e run (suc a.lo) m)
            ring = subst (λ (j : ℕ). Encloses D S (edges e run a.lo j)) en b

    -- the ring is turned to begin behind its place
    module _ {now : List ℕ} {r : Option ℕ} (u : Turns run a.lo a.n k r now) {at : ℕ} (et : r ≡ Some at) where
      t : Faces run a.lo a.n k at now
      t = given (λ (p : ℕ). Faces run a.lo a.n k p now) et u.faces

      pub insert_putting : Putting e now i h at a.n
      insert_putting =
          record {
            cutting =
                record {
                  ring =
                      record {
                        count = stood.ring.count;
                        entries = stood.ring.entries;
                        fits = t.turned.fits;
                        named = t.turned.named stood.ring.count stood.ring.named;
                      };
                  some = omega (arith, stood.two);
                  h-small = s.h-small;
                };
            later = t.later;
            is = s.is;
          }

      -- what was seen at the place is seen at the ends
      seen :
          (R : Constraint → Constraint → Bool) →
          R (edge e now (at + a.n - 1)) (edge e now at) ≡ R (edge e run (a.lo + k)) (edge e run (a.lo + following a.n k))
      seen R = λ j. R (named e (t.last j)) (named e (t.first j))

      -- and its corner broken
      pub insert-cut :
          keeps_at h (edge e run (a.lo + k)) (edge e run (a.lo + following a.n k)) ≡ false →
          {l : Option Arc} {after : List ℕ} →
          Cut e now i h at a.n l after →
          {next : Arc} →
          l ≡ Some next →
          Inserted e run D i h was (state.Cut next) after
      insert-cut broken {l} {after} c {next} is =
          record {
            same = c.same ∙ t.turned.same;
            stands =
                record {
                  fits = put.fits;
                  two = put.two;
                  named = λ m below g. put.named m below (t.turned.named m (given (λ (b : Arc). Named m run b.lo b.n) held g));
                  ring = λ S encloses.
                      subst (Encloses D (S ++ (h ∷ []))) (sym c.row ∙ ap (row_by (named e) after) is)
                      (go S a.n (a.n - 2) (omega (arith, stood.two)) last
                      (t.turned.ring e D S (given (λ (b : Arc). Encloses D S (edges e run b.lo b.n)) held encloses)));
                };
            first = put.first;
          }
        where
          put : Put e now i h at a.n next after
          put = given (λ (b : Arc). Put e now i h at a.n b after) is c.put

          last : at + a.n - 1 ≡ suc at + (a.n - 2)
          last = omega (arith, stood.two)

          go :
              (S : List Constraint) (n m : ℕ) →
              n ≡ suc (suc m) →
              at + a.n - 1 ≡ suc at + m →
              Encloses D S (edges e now at n) →
              Encloses D (S ++ (h ∷ [])) (closed h (front_row h (edges e now at n)))
          go S n m en el b =
              subst (λ (j : ℕ). Encloses D (S ++ (h ∷ [])) (closed h (front_row h (edges e now at j)))) (sym en)
              (subst (λ r. Encloses D (S ++ (h ∷ [])) (closed h (front_row h r))) (sym row)
              (cut_encloses D S h (edge e now (suc at + m)) (edge e now at)
              (subst (λ (p : ℕ). at_place D h (edge e now p) (edge e now at) ≡ true) el (seen (at_place D h) ∙ placed))
              (subst (λ (p : ℕ). keeps_at h (edge e now p) (edge e now at) ≡ false) el (seen (keeps_at h) ∙ broken))
              (edges e now (suc at) m)
              (subst (Encloses D S) row (subst (λ (j : ℕ). Encloses D S (edges e now at j)) en b))))
            where
              row : edges e now at (suc (suc m)) ≡ edge e now at ∷ (edges e now (suc at) m ++ (edge e now (suc at + m) ∷ []))
              row = ap (λ l. edge e now at ∷ l) (edges-last (named e) now (suc at) m)
