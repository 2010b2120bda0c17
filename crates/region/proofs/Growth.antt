-- The rules enter the ring one after the other, from the triangle of the floors and the horizon on.
use Rattle.std.specs.Prelude.{Option, None, Some}
use mathlib.Core.Path.{◌≡◌, refl, sym, ◌∙◌, ap, subst}
use mathlib.Core.List.{List, [], ◌∷◌}
use Prim.Native.Nat.{ℕ, zero, suc, ◌+◌, ◌-◌, ◌≤◌, ◌<◌}
use native.Mathlib.Omega.{arith}
use native.Mathlib.Numerals.{add-one}
use lib.ListN.{length, get_or, set, length-set}
use lib.Seq.{get_or-set_same, get_or-set_other}
use lib.IntN.{ℤ}
use Rattle.lp.specs.declared.Constraint.{Constraint}
use Rattle.lp.specs.declared.Floors.{Floors}
use Rattle.lp.specs.Range.{SmallConstraint}
use Rattle.engine.specs.Entries.{entry}
use Rattle.boundary.specs.Size.{size}
use Rattle.boundary.specs.Ring.{insert, grown_from, triangle}
use Rattle.boundary.proofs.Count.{weigh, grown-weight}
use Rattle.boundary.specs.declared.Arc.{Arc}
use Rattle.engine.specs.Rings.{When}
use Rattle.engine.proofs.Rows.{size_small}
use Rattle.engine.proofs.Insertions.{when-so}
use Rattle.region.specs.Row.{edge, edges, row_of, Named}
use Rattle.region.specs.Asked.{Standing, Inserting, Stands, Inserted, Entering, Ordered, Entered, Growing, Grows, Grown}
use Rattle.region.proofs.Rows.{edges-length}
use Rattle.region.proofs.Cuts.{arc}

-- ---- a rule adds one edge at most

weigh-length : (l : List Constraint) → weigh (λ r. 1) l ≡ length l
weigh-length [] = refl
weigh-length (r ∷ l) = go (weigh-length l)
  where
    go : weigh (λ r. 1) l ≡ length l → 1 + weigh (λ r. 1) l ≡ suc (length l)
    go e = omega arith

insert-length : (D h : Constraint) (l : List Constraint) → length (insert D h l) ≤ length l + 1
insert-length D h l = go (grown-weight (λ r. 1) D l (h ∷ [])) (weigh-length (insert D h l)) (weigh-length l)
  where
    go :
        weigh (λ r. 1) (insert D h l) ≤ 1 + 0 + weigh (λ r. 1) l →
        weigh (λ r. 1) (insert D h l) ≡ length (insert D h l) →
        weigh (λ r. 1) l ≡ length l →
        length (insert D h l) ≤ length l + 1
    go a b c = omega arith

-- ---- the loop

pub record Enter (e : List ℤ) (order before : List ℕ) (D : Constraint) (a : Arc) (now : List ℕ) (o : Option Arc) (i : ℕ) : Type 0 where
  pub inside : i ≤ length order
  pub same : length now ≡ length before
  pub few : length (row_of e now o) ≤ a.n + i
  pub ordered : When (λ (b : Arc). Ordered order before a b now) o
  pub rest :
      grown_from D (row_of e now o) (edges e order i (length order - i))
      ≡ grown_from D (edges e before a.lo a.n) (edges e order 0 (length order))

at-start : (m : ℕ) (order : List ℕ) (n : ℕ) → Named m order 0 n → (i : ℕ) → i < n → get_or order i 0 < m
at-start m order n g i b = subst (λ (j : ℕ). get_or order j 0 < m) none (g i b)
  where
    none : 0 + i ≡ i
    none = omega arith

module _ {e : List ℤ} {order before : List ℕ} {D : Constraint} {a : Arc} (s : Entering e order before D a) where
  pub enter-start : Enter e order before D a before (Some a) 0
  enter-start =
      record {
        inside = omega arith;
        same = refl;
        few = omega (arith, edges-length e before a.lo a.n);
        ordered = record { fits = s.ring.fits; two = s.two; named = λ m g k. k };
        rest = ap (λ (n : ℕ). grown_from D (edges e before a.lo a.n) (edges e order 0 n)) all;
      }
    where
      all : length order - 0 ≡ length order
      all = omega arith

  module _ {now : List ℕ} {o : Option Arc} {i : ℕ} (t : Enter e order before D a now o i) where
    pub enter_inserting : i < length order → Inserting e now D (get_or order i 0) o
    enter_inserting less =
        record {
          count = s.ring.count;
          entries = s.ring.entries;
          below = at-start s.ring.count order (length order) s.ordered i less;
          size_small = s.size_small;
          standing = go o t.few t.ordered;
        }
      where
        go :
            (o : Option Arc) →
            length (row_of e now o) ≤ a.n + i →
            When (λ (b : Arc). Ordered order before a b now) o →
            When (Standing now s.ring.count) o
        go None few u = tt
        go (Some b) few u =
            record {
              fits = u.fits;
              spare = omega (arith, s.room, few, edges-length e now b.lo b.n, t.same);
              two = u.two;
              named = u.named s.ring.count s.ordered s.ring.named;
            }

    pub enter_step :
        i < length order →
        {next : Option Arc} {after : List ℕ} →
        Inserted e now D (get_or order i 0) o next after →
        Enter e order before D a after next (i + 1)
    enter_step less {next} {after} u =
        record {
          inside = omega arith;
          same = u.same ∙ t.same;
          few = fewer (ap length u.row) (insert-length D (edge e order i) (row_of e now o)) t.few;
          ordered =
              when-so (λ (b : Arc). Stands now (get_or order i 0) o b after) (λ (b : Arc). Ordered order before a b after) one next
              u.stands;
          rest =
              (λ j. grown_from D (u.row j) (edges e order (add-one i j) (length order - add-one i j)))
              ∙ sym (ap (λ (n : ℕ). grown_from D (row_of e now o) (edges e order i n)) more)
              ∙ t.rest;
        }
      where
        more : length order - i ≡ suc (length order - suc i)
        more = omega arith

        fewer : {n w v : ℕ} → n ≡ w → w ≤ v + 1 → v ≤ a.n + i → n ≤ a.n + (i + 1)
        fewer x y z = omega arith

        one : (b : Arc) → Stands now (get_or order i 0) o b after → Ordered order before a b after
        one b p =
            record {
              fits = p.fits;
              two = p.two;
              named = λ m g k.
                  p.named m (at-start m order (length order) g i less)
                  (when-so (λ (c : Arc). Ordered order before a c now) (λ (c : Arc). Named m now c.lo c.n) (λ c q. q.named m g k) o
                  t.ordered);
            }

    pub enter-end : length order ≤ i → Entered e order before D a o now
    enter-end over =
        record {
          same = t.same;
          row = sym (ap (λ (n : ℕ). grown_from D (row_of e now o) (edges e order i n)) none) ∙ t.rest;
          ordered = t.ordered;
        }
      where
        none : length order - i ≡ 0
        none = omega arith

-- ---- the triangle

abbrev pub seeded : List ℕ → ℕ → List ℕ
seeded run h = set (set (set run 0 1) 1 h) 2 0

module _ {e : List ℤ} {floors : Floors} {order run : List ℕ} {m : ℕ} (s : Growing e floors order run m) where
  long : 3 ≤ length run
  long = omega (arith, s.room)

  pub seeded-length : length (seeded run (m - 1)) ≡ length run
  seeded-length =
      length-set (set (set run 0 1) 1 (m - 1)) 2 0 ∙ length-set (set run 0 1) 1 (m - 1) ∙ length-set run 0 1

  first : get_or (seeded run (m - 1)) 0 0 ≡ 1
  first =
      get_or-set_other (set (set run 0 1) 1 (m - 1)) 2 0 0 0 (λ c. omega arith)
      ∙ get_or-set_other (set run 0 1) 1 0 (m - 1) 0 (λ c. omega arith)
      ∙ get_or-set_same run 0 1 0 (omega (arith, long))

  second : get_or (seeded run (m - 1)) 1 0 ≡ m - 1
  second =
      get_or-set_other (set (set run 0 1) 1 (m - 1)) 2 1 0 0 (λ c. omega arith)
      ∙ get_or-set_same (set run 0 1) 1 (m - 1) 0 (omega (arith, long, length-set run 0 1))

  third : get_or (seeded run (m - 1)) 2 0 ≡ 0
  third =
      get_or-set_same (set (set run 0 1) 1 (m - 1)) 2 0 0
      (omega (arith, long, length-set run 0 1, length-set (set run 0 1) 1 (m - 1)))

  seeded-row : edges e (seeded run (m - 1)) 0 3 ≡ triangle floors
  seeded-row =
      λ i. (ap (entry e) first ∙ s.second) i ∷ (ap (entry e) second ∙ s.third) i ∷ (ap (entry e) third ∙ s.first) i ∷ []

  seeded-named : Named m (seeded run (m - 1)) 0 3
  seeded-named zero b = omega (arith, first, s.some)
  seeded-named (suc zero) b = omega (arith, second, s.some)
  seeded-named (suc (suc zero)) b = omega (arith, third, s.some)
  seeded-named (suc (suc (suc k))) b = absurd (never k b)
    where
      never : (k : ℕ) → suc (suc (suc k)) < 3 → ⊥
      never k b = omega arith

  pub grow-entering : {D : Constraint} → D ≡ size floors → Entering e order (seeded run (m - 1)) D (arc 0 3)
  grow-entering {D} is =
      record {
        ring =
            record {
              count = m;
              entries = s.entries;
              fits = omega (arith, long, seeded-length);
              named = seeded-named;
            };
        two = omega arith;
        ordered = s.ordered;
        room = omega (arith, s.room, seeded-length);
        size_small = subst SmallConstraint (sym is) (size_small s.floors-small);
      }

  pub grow-grown :
      {D : Constraint} →
      D ≡ size floors →
      {o : Option Arc} {after : List ℕ} →
      Entered e order (seeded run (m - 1)) D (arc 0 3) o after →
      Grown e floors order run m o after
  grow-grown is {o} {after} t =
      record {
        same = t.same ∙ seeded-length;
        row = t.row ∙ λ i. grown_from (is i) (seeded-row i) (edges e order 0 (length order));
        grows = when-so (λ (b : Arc). Ordered order (seeded run (m - 1)) (arc 0 3) b after) (λ (b : Arc). Grows m b after) one o t.ordered;
      }
    where
      one : (b : Arc) → Ordered order (seeded run (m - 1)) (arc 0 3) b after → Grows m b after
      one b p = record { fits = p.fits; two = p.two; named = p.named m s.ordered seeded-named }
