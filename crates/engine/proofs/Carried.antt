-- The ring of the entries so far, from the triangle of the floors and the horizon on, and the walk that carries it along.
use Rattle.std.specs.Prelude.{Option}
use mathlib.Core.Path.{◌≡◌, refl, sym, ◌∙◌, ap, subst}
use mathlib.Core.List.{List, [], ◌∷◌, ◌++◌}
use mathlib.Core.Bool.{Bool, true}
use Prim.Native.Nat.{ℕ, zero, suc, ◌+◌, ◌-◌, ◌/◌, ◌≤◌, ◌<◌}
use native.Mathlib.Omega.{arith}
use native.Mathlib.Numerals.{add-one}
use lib.ListN.{length, get_or, set, length-set}
use lib.Seq.{get_or-set_same, get_or-set_other}
use lib.IntN.{ℤ}
use Rattle.lp.specs.declared.Constraint.{Constraint}
use Rattle.lp.specs.declared.Functional.{Functional}
use Rattle.lp.specs.declared.Floors.{Floors}
use Rattle.lp.specs.declared.Tie.{Tie}
use Rattle.lp.specs.Document.{tie}
use Rattle.lp.specs.Range.{SmallConstraint}
use Rattle.model.specs.declared.Walk.{Walk}
use Rattle.model.specs.Step.{begin, step, walk_from}
use Rattle.boundary.specs.Size.{size, horizon}
use Rattle.boundary.specs.Ring.{triangle}
use Rattle.boundary.proofs.Corner.{Corner}
use Rattle.boundary.proofs.Boundary.{Boundary}
use Rattle.boundary.proofs.Insert.{Encloses}
use Rattle.boundary.proofs.Grown.{triangle_encloses}
use Rattle.boundary.proofs.Ends.{after}
use Rattle.boundary.specs.declared.Arc.{Arc}
use Rattle.engine.specs.declared.insert.Held.{Held}
use Rattle.engine.specs.declared.insert.Held.TheVariants.{Nothing, Kept, Cut}
use Rattle.engine.specs.declared.between.Gap.{Gap}
use Rattle.engine.specs.Entries.{entry, entries}
use Rattle.engine.specs.Sizes.{Entries, Stepping, Walking}
use Rattle.engine.specs.Row.{named, edge, edges, Named, ring_of, cut_of, gap_in, gap_of}
use Rattle.engine.specs.Rings.{When, Standing, Holds, Inserting, Stands, Inserted, Holding, Carries}
use Rattle.engine.specs.Carrying.{Between, Beside, SteppingAt, Growing, Grown, Advancing, Advanced, Carrying}
use Rattle.amounts.specs.Tests.{rule_in_range}
use Rattle.engine.proofs.Rows.{ring-small, size_small}
use Rattle.engine.proofs.Walks.{Walked, entries-grow, stepping, more-taken}
use Rattle.engine.proofs.Drops.{arc}
use Rattle.engine.proofs.Insertions.{when-so, way_at, way_end}

-- ---- one more entry

fewer-entries : {e : List ℤ} {k m : ℕ} → k ≤ m → Entries e m → Entries e k
fewer-entries b h = record { room = omega (arith, h.room); small = λ j c. h.small j (omega arith) }

holding-ring : {e : List ℤ} {run : List ℕ} {D : Constraint} {k : ℕ} → Entries e k → (a : Arc) → Holding e run D k a → Standing e run a
holding-ring {k = k} h a t = record { ring = record { count = k; entries = h; fits = t.fits; named = t.named }; two = t.two }

holding-holds :
    (e : List ℤ) (run : List ℕ) (D : Constraint) (k : ℕ) (was : Held) →
    Carries e run D k was →
    Holds D (horizon ∷ entries e 0 k) e run (ring_of was)
holding-holds e run D k was t =
    when-so (Holding e run D k) (λ (a : Arc). Encloses D (horizon ∷ entries e 0 k) (edges e run a.lo a.n)) (λ a s. s.ring) (ring_of was) t

module _ {e : List ℤ} {run : List ℕ} {D : Constraint} (k : ℕ) {was : Held} (t : Carries e run D k was) where
  pub holding_inserting :
      Entries e (k + 1) →
      SmallConstraint D →
      {h : Constraint} →
      h ≡ entry e k →
      Inserting e run D (k + 1) h was
  holding_inserting h d is =
      record {
        standing = when-so (Holding e run D k) (Standing e run) (holding-ring (fewer-entries (omega arith) h)) (ring_of was) t;
        size_small = d;
        h-small = subst SmallConstraint (sym is) (h.small k (omega arith));
        is = is ∙ ap (named e) (sym (add-one k));
      }

  pub holding-next :
      {h : Constraint} →
      h ≡ entry e k →
      {next : Held} {after : List ℕ} →
      Inserted e run D (k + 1) h was next after →
      Carries e after D (k + 1) next
  holding-next {h} is {next} {after} u =
      when-so (λ (a : Arc). Stands e run D (k + 1) h (ring_of was) a after) (Holding e after D (k + 1)) one (ring_of next) u.stands
    where
      further : {v : ℕ} → v ≤ k → v ≤ k + 1
      further b = omega arith

      names : When (λ (a : Arc). Named (k + 1) run a.lo a.n) (ring_of was)
      names = when-so (Holding e run D k) (λ (a : Arc). Named (k + 1) run a.lo a.n) (λ a s j b. further (s.named j b)) (ring_of was) t

      grown : (horizon ∷ entries e 0 k) ++ (h ∷ []) ≡ horizon ∷ entries e 0 (k + 1)
      grown =
          (λ i. horizon ∷ (entries e 0 k ++ (is i ∷ [])))
          ∙ ap (λ S. horizon ∷ S) (entries-grow e k ∙ ap (entries e 0) (sym (add-one k)))

      one : (a : Arc) → Stands e run D (k + 1) h (ring_of was) a after → Holding e after D (k + 1) a
      one a s =
          record {
            fits = s.fits;
            two = s.two;
            named = s.named (k + 1) (omega arith) names;
            ring =
                subst (λ S. Encloses D S (edges e after a.lo a.n)) grown
                (s.ring (horizon ∷ entries e 0 k) (holding-holds e run D k was t));
          }

-- ---- the triangle

-- at place p
abbrev pub seeded : List ℕ → ℕ → List ℕ
seeded run p = set (set (set run p 2) (p + 1) 0) (p + 2) 1

module _ {e : List ℤ} {run : List ℕ} {D : Constraint} {m : ℕ} (s : Growing e run D m) (p : ℕ) (is : p ≡ length run / 2) where
  pub seeded-length : length (seeded run p) ≡ length run
  seeded-length = length-set (set (set run p 2) (p + 1) 0) (p + 2) 1 ∙ length-set (set run p 2) (p + 1) 0 ∙ length-set run p 2

  pub seeded-room : p + 3 ≤ length run
  seeded-room = omega (arith, s.room)

  first : get_or (seeded run p) p 0 ≡ 2
  first =
      get_or-set_other (set (set run p 2) (p + 1) 0) (p + 2) p 1 0 (λ c. omega arith)
      ∙ get_or-set_other (set run p 2) (p + 1) p 0 0 (λ c. omega arith)
      ∙ get_or-set_same run p 2 0 (omega (arith, seeded-room))

  second : get_or (seeded run p) (p + 1) 0 ≡ 0
  second =
      get_or-set_other (set (set run p 2) (p + 1) 0) (p + 2) (p + 1) 1 0 (λ c. omega arith)
      ∙ get_or-set_same (set run p 2) (p + 1) 0 0 (omega (arith, seeded-room, length-set run p 2))

  third : get_or (seeded run p) (p + 2) 0 ≡ 1
  third =
      get_or-set_same (set (set run p 2) (p + 1) 0) (p + 2) 1 0
      (omega (arith, seeded-room, length-set run p 2, length-set (set run p 2) (p + 1) 0))

  row : edges e (seeded run p) p 3 ≡ triangle s.floors
  row =
      (λ i. edge e (seeded run p) p ∷ edge e (seeded run p) (one i) ∷ edge e (seeded run p) (two i) ∷ [])
      ∙ λ i. (ap (named e) first ∙ s.second) i ∷ ap (named e) second i ∷ (ap (named e) third ∙ s.first) i ∷ []
    where
      one : suc p ≡ p + 1
      one = omega arith

      two : suc (suc p) ≡ p + 2
      two = omega arith

  seeded-named : Named 2 (seeded run p) p 3
  seeded-named zero b = subst (λ (q : ℕ). get_or (seeded run p) q 0 ≤ 2) here (omega (arith, first))
    where
      here : p ≡ p + 0
      here = omega arith
  seeded-named (suc zero) b = omega (arith, second)
  seeded-named (suc (suc zero)) b = omega (arith, third)
  seeded-named (suc (suc (suc k))) b = absurd (never k b)
    where
      never : (k : ℕ) → suc (suc (suc k)) < 3 → ⊥
      never k b = omega arith

  pub grow-start : Holding e (seeded run p) D 2 (arc p 3)
  grow-start =
      record {
        fits = omega (arith, seeded-room, seeded-length);
        two = omega arith;
        named = seeded-named;
        ring =
            subst (λ D. Encloses D (horizon ∷ entries e 0 2) (edges e (seeded run p) p 3)) (sym s.size_is)
            (subst (Encloses (size s.floors) (horizon ∷ entries e 0 2)) (sym row)
            (subst (λ S. Encloses (size s.floors) S (triangle s.floors)) (λ i. horizon ∷ sym s.first i ∷ sym s.second i ∷ [])
            (triangle_encloses s.floors)));
      }

module _ {e : List ℤ} {run : List ℕ} {D : Constraint} {m : ℕ} (s : Growing e run D m) where
  pub grow-size : SmallConstraint D
  grow-size = subst SmallConstraint (sym s.size_is) (size_small s.floors-small)

  pub grow-taken : {k : ℕ} → k < m → Entries e (k + 1)
  grow-taken b = fewer-entries (omega arith) s.entries

  pub grow-end :
      {now : List ℕ} {was : Held} {k : ℕ} →
      Carries e now D k was →
      k ≤ m →
      m ≤ k →
      length now ≡ length run →
      Grown e run D m was now
  grow-end {now} {was} {k} t b c same = record { same = same; holding = subst (λ (j : ℕ). Carries e now D j was) all t }
    where
      all : k ≡ m
      all = omega arith

-- ---- one rule

module _ {f : Functional} {D : Constraint} {e : List ℤ} {run : List ℕ} {i : ℕ} {h : Constraint} {w : Walk} {was : Held}
    (s : Advancing f D e run i h w was) where
  pub advance_inserting : Inserting e run D (i + 1) h was
  advance_inserting = holding_inserting i s.holding s.taken s.size_small s.is

  module _ {next : Held} {now : List ℕ} (u : Inserted e run D (i + 1) h was next now) where
    carries : Carries e now D (i + 1) next
    carries = holding-next i s.holding s.is u

    pub advance-done :
        {r : Walk} →
        r ≡ step tie f (entries e 0 i) i h w →
        Advanced f D e run i h w (record { walk = r; held = next }) now
    advance-done er = record { same = u.same; walk = er; holding = carries }

    pub advance-beside : Beside e now next
    advance-beside = go next carries
      where
        go : (x : Held) → Carries e now D (i + 1) x → Beside e now x
        go Nothing t = tt
        go (Kept a) t = tt
        go (Cut a) t = holding-ring s.taken a t

    -- the last edge of a ring that h has cut, h, and the second
    module _ (a : Arc) (r : Standing e now a) (t : Stands e run D (i + 1) h (ring_of was) a now) (first : edge e now a.lo ≡ h) where
      gap-between : Between e i h (gap_in e now a)
      gap-between =
          record {
            size = D;
            before-small = ring-small r.ring (a.lo + a.n - 1) (omega (arith, r.two)) (omega (arith, r.two));
            behind-small = ring-small r.ring (a.lo + 1) (omega arith) (omega (arith, r.two));
            before =
                subst (Corner D (after (entries e 0 i) h) (edge e now (a.lo + a.n - 1))) first
                (way_end (Corner D (after (entries e 0 i) h)) e now (edge e now a.lo) a.lo (a.n - 1) (a.lo + a.n - 1)
                (omega (arith, r.two)) row.edges);
            behind =
                subst (λ r. Corner D (after (entries e 0 i) h) r (edge e now (a.lo + 1))) first
                (subst (λ (p : ℕ). Corner D (after (entries e 0 i) h) (edge e now a.lo) (edge e now p)) (sym (add-one a.lo))
                (way_at (Corner D (after (entries e 0 i) h)) e now (edge e now a.lo) a.lo (a.n - 1) a.lo 0 none (omega (arith, r.two))
                row.edges));
          }
        where
          some : a.n ≡ suc (a.n - 1)
          some = omega (arith, r.two)

          none : a.lo ≡ a.lo + 0
          none = omega arith

          row : Boundary D (after (entries e 0 i) h) (edge e now a.lo) (edges e now (suc a.lo) (a.n - 1))
          row =
              subst (λ (n : ℕ). Encloses D (after (entries e 0 i) h) (edges e now a.lo n)) some
              (t.ring (horizon ∷ entries e 0 i) (holding-holds e run D i was s.holding))

    advance-between : When (Between e i h) (gap_of e now next)
    advance-between = go next advance-beside u.stands u.first
      where
        go :
            (x : Held) →
            Beside e now x →
            When (λ (a : Arc). Stands e run D (i + 1) h (ring_of was) a now) (ring_of x) →
            When (λ (a : Arc). edge e now a.lo ≡ h) (cut_of x) →
            When (Between e i h) (gap_of e now x)
        go Nothing r t is = tt
        go (Kept a) r t is = tt
        go (Cut a) r t is = gap-between a r t is

    pub advance-stepping : {t : Tie} → t ≡ tie → {g : Option Gap} → g ≡ gap_of e now next → SteppingAt f t e i h w g
    advance-stepping et eg =
        record {
          stepping = subst (λ t. Stepping f t e i h w) (sym et) s.stepping;
          between = subst (When (Between e i h)) (sym eg) advance-between;
        }

-- ---- from entry i on

module _ {f : Functional} {floors : Floors} {l : List ℤ} {n : ℕ} {w : Walk} {i : ℕ} (s : Carrying f floors l n w i) where
  pub carrying-walked : Walked f l n (begin floors f) w i
  carrying-walked =
      record {
        few = omega (arith, s.few);
        inside = s.inside;
        floors-first = s.floors-first;
        taken = s.taken;
        small = s.small;
        rest = s.rest;
        in-range = s.in-range;
      }

  pub carry_growing : {run : List ℕ} → 8 ≤ length run → {D : Constraint} → D ≡ size floors → Growing l run D i
  carry_growing b is =
      record {
        floors = floors;
        floors-small = s.walking.floors-small;
        size_is = is;
        first = s.walking.first;
        second = s.walking.second;
        entries = s.taken;
        two = s.floors-first;
        few = omega (arith, s.few, s.inside);
        room = b;
      }

  -- later, at entry j
  module _ {v : Walk} {j : ℕ} (later : Walked f l n (begin floors f) v j) (b : j < n + 2) {h : Constraint} (e : h ≡ entry l j) {t : Bool}
      (et : t ≡ rule_in_range h) (so : t ≡ true) where
    pub carry_advancing :
        {D : Constraint} →
        D ≡ size floors →
        {run : List ℕ} {was : Held} →
        Carries l run D j was →
        Advancing f D l run j h v was
    carry_advancing is held =
        record {
          stepping = stepping s.walking later b e et so refl;
          is = e;
          few = omega (arith, s.few);
          taken = more-taken s.walking later b e et so;
          size_small = subst SmallConstraint (sym is) (size_small s.walking.floors-small);
          holding = held;
        }

pub walked-carrying :
    {f : Functional} {floors : Floors} {l : List ℤ} {n : ℕ} →
    Walking f floors l n →
    {w₀ w : Walk} {i : ℕ} →
    Walked f l n w₀ w i →
    w₀ ≡ begin floors f →
    n ≤ 8190 →
    Carrying f floors l n w i
walked-carrying {f} {floors} {l} {n} h v e₀ b =
    record {
      walking = h;
      few = b;
      inside = v.inside;
      floors-first = v.floors-first;
      taken = v.taken;
      small = v.small;
      rest = v.rest ∙ ap (walk_from tie f (entries l 0 2) 2 (entries l 2 n)) e₀;
      in-range = v.in-range;
    }

-- a walk that was held at entry i₀ has come to entry i, from wherever it began
abbrev pub Onward : Functional → List ℤ → ℕ → Walk → ℕ → Walk → ℕ → Type 0
Onward f l n w₀ i₀ w i = (begun : Walk) → Walked f l n begun w₀ i₀ → Walked f l n begun w i
