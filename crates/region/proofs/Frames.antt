-- The run with the floors before the rules and the horizon after them; and the promise of `corners` on each of its two ways.
use Rattle.std.specs.Prelude.{Option, None, Some}
use mathlib.Core.Path.{◌≡◌, refl, sym, ◌∙◌, ap, ap₂, subst}
use mathlib.Core.List.{List, [], ◌∷◌}
use mathlib.Core.Bool.{Bool, true, false, cond, ◌&&◌}
use Prim.Native.Nat.{ℕ, zero, suc, ◌+◌, ◌*◌, ◌-◌, ◌≤◌, ◌<◌}
use native.Mathlib.Omega.{arith}
use borrow.Author.Tests.{le-leb, leb-true, ltb-true, ltb-false}
use lib.Dec.{T, leb, ltb}
use lib.ListN.{length, get_or}
use lib.IntN.{ℤ}
use Rattle.lp.specs.declared.Constraint.{Constraint}
use Rattle.lp.specs.declared.Floors.{Floors}
use Rattle.lp.specs.Program.{floor_x, floor_y}
use Rattle.lp.specs.Outcome.{every}
use Rattle.lp.specs.Range.{SmallConstraint}
use Rattle.model.proofs.Bounds.{floorX-small, floorY-small}
use Rattle.engine.specs.Entries.{entry, entries, put_entry}
use Rattle.engine.specs.Sizes.{Entries}
use Rattle.amounts.specs.Tests.{rule_in_range, floors_in_range}
use Rattle.amounts.proofs.Tests.{both, rule-small, floors-small}
use Rattle.engine.proofs.Laid.{put-length, put_same, put_other, laid, laid-length, laid-x, laid-y}
use Rattle.boundary.specs.Size.{horizon}
use Rattle.boundary.specs.Ring.{grown, corners}
use Rattle.boundary.proofs.Count.{edges-at-most}
use Rattle.boundary.specs.declared.Arc.{Arc}
use Rattle.region.specs.Row.{edge, edges, row_of, Named}
use Rattle.region.specs.Listing.{put_points, chosen, is_rule, roomy, taken, framed, corners_of, Lists}
use Rattle.region.specs.Asked.{Framing, Growing, Grows, Grown, Listing, CornersPut}
use Rattle.engine.proofs.Rows.{horizon-small}
use Rattle.engine.proofs.Insertions.{given}
use Rattle.region.proofs.Rows.{edges-length}

-- ---- what stands in the framed run

module _ (f : Floors) (e : List ℤ) (n : ℕ) where
  pub framed-length : length (framed f e n) ≡ length e
  framed-length = put-length (laid f e) (n + 2) horizon ∙ laid-length f e

  pub framed-x : 6 ≤ length e → entry (framed f e n) 0 ≡ floor_x f
  framed-x room = put_other (laid f e) (n + 2) horizon 0 (λ c. omega arith) ∙ laid-x f e room

  pub framed-y : 6 ≤ length e → entry (framed f e n) 1 ≡ floor_y f
  framed-y room = put_other (laid f e) (n + 2) horizon 1 (λ c. omega arith) ∙ laid-y f e room

  pub framed-horizon : 3 * (n + 3) ≤ length e → entry (framed f e n) (n + 2) ≡ horizon
  framed-horizon room = put_same (laid f e) (n + 2) horizon (omega (arith, laid-length f e))

  framed-rule : (k : ℕ) → 2 ≤ k → k < n + 2 → entry (framed f e n) k ≡ entry e k
  framed-rule k a b =
      put_other (laid f e) (n + 2) horizon k (λ c. omega arith)
      ∙ put_other (put_entry e 0 (floor_x f)) 1 (floor_y f) k (λ c. omega arith)
      ∙ put_other e 0 (floor_x f) k (λ c. omega arith)

-- ---- what the tests say of each rule and of each index

every-head : (t u : Bool) → elim t [ true ↦ u | false ↦ false ] ≡ true → (t ≡ true) × (u ≡ true)
every-head true u e = (refl, e)
every-head false u e = absurd (subst T (sym e) tt)

rules-at : (e : List ℤ) (i n j : ℕ) → j < n → every rule_in_range (entries e i n) ≡ true → rule_in_range (entry e (i + j)) ≡ true
rules-at e i zero j b h = absurd (never j b)
  where
    never : (j : ℕ) → j < 0 → ⊥
    never j b = omega arith
rules-at e i (suc n) zero b h =
    subst (λ (k : ℕ). rule_in_range (entry e k) ≡ true) none
    (every-head (rule_in_range (entry e i)) (every rule_in_range (entries e (suc i) n)) h).0
  where
    none : i ≡ i + 0
    none = omega arith
rules-at e i (suc n) (suc j) b h =
    subst (λ (k : ℕ). rule_in_range (entry e k) ≡ true) over
    (rules-at e (suc i) n j (omega arith) (every-head (rule_in_range (entry e i)) (every rule_in_range (entries e (suc i) n)) h).1)
  where
    over : suc i + j ≡ i + suc j
    over = omega arith

named_rule : (n k : ℕ) → is_rule n k ≡ true → (2 ≤ k) × (k < n + 2)
named_rule n k e =
    let b = both (leb 2 k) (ltb (k - 2) n) e in
    (leb-true 2 k b.0, omega (arith, leb-true 2 k b.0, ltb-true (k - 2) n b.1))

order-at : (n : ℕ) (order : List ℕ) → every (is_rule n) order ≡ true → (k : ℕ) → k < length order → is_rule n (get_or order k 0) ≡ true
order-at n [] h k b = absurd (never k b)
  where
    never : (k : ℕ) → k < 0 → ⊥
    never k b = omega arith
order-at n (x ∷ order) h zero b = (every-head (is_rule n x) (every (is_rule n) order) h).0
order-at n (x ∷ order) h (suc k) b = order-at n order (every-head (is_rule n x) (every (is_rule n) order) h).1 k (omega arith)

-- ---- the rules in the order given

edges-tail : (e : List ℤ) (x : ℕ) (order : List ℕ) (p n : ℕ) → edges e (x ∷ order) (suc p) n ≡ edges e order p n
edges-tail e x order p zero = refl
edges-tail e x order p (suc n) = ap (λ l. edge e order p ∷ l) (edges-tail e x order (suc p) n)

edges-chosen : (e : List ℤ) (order : List ℕ) → edges e order 0 (length order) ≡ chosen e order
edges-chosen e [] = refl
edges-chosen e (x ∷ order) = ap (λ l. entry e x ∷ l) (edges-tail e x order 0 (length order) ∙ edges-chosen e order)

chosen-length : (e : List ℤ) (order : List ℕ) → length (chosen e order) ≡ length order
chosen-length e [] = refl
chosen-length e (x ∷ order) = ap suc (chosen-length e order)

pub chosen-framed :
    (f : Floors) (e : List ℤ) (n : ℕ) (order : List ℕ) →
    every (is_rule n) order ≡ true →
    chosen (framed f e n) order ≡ chosen e order
chosen-framed f e n [] h = refl
chosen-framed f e n (x ∷ order) h =
    let t = every-head (is_rule n x) (every (is_rule n) order) h in
    let k = named_rule n x t.0 in
    ap₂ (λ (r : Constraint) (S : List Constraint). r ∷ S) (framed-rule f e n x k.0 k.1) (chosen-framed f e n order t.1)

-- ---- what is taken

pub record Fit (f : Floors) (e : List ℤ) (n : ℕ) (order : List ℕ) (ring out : ℕ) : Type 0 where
  pub few : n ≤ 65533
  pub room : 3 * (n + 3) ≤ length e
  pub ring-room : length order + 4 ≤ ring
  pub out-room : 3 * (length order + 3) ≤ out
  pub floors : floors_in_range f ≡ true
  pub rules : every rule_in_range (entries e 2 n) ≡ true
  pub ordered : every (is_rule n) order ≡ true

pub fit : (f : Floors) (e : List ℤ) (n : ℕ) (order : List ℕ) (ring out : ℕ) → taken f e n order ring out ≡ true → Fit f e n order ring out
fit f e n order ring out h =
    let r = roomy (length e) n (length order) ring out in
    let a = leb n 65533 in
    let b = leb (3 * (n + 3)) (length e) in
    let c = leb (length order + 4) ring in
    let d = leb (3 * (length order + 3)) out in
    let t7 = both (r && floors_in_range f && every rule_in_range (entries e 2 n)) (every (is_rule n) order) h in
    let t6 = both (r && floors_in_range f) (every rule_in_range (entries e 2 n)) t7.0 in
    let t5 = both r (floors_in_range f) t6.0 in
    let t4 = both (a && b && c) d t5.0 in
    let t3 = both (a && b) c t4.0 in
    let t2 = both a b t3.0 in
    record {
      few = leb-true n 65533 t2.0;
      room = leb-true (3 * (n + 3)) (length e) t2.1;
      ring-room = leb-true (length order + 4) ring t3.1;
      out-room = leb-true (3 * (length order + 3)) out t4.1;
      floors = t5.1;
      rules = t6.1;
      ordered = t7.1;
    }

-- and back, for callers
pub fit-taken :
    (f : Floors) (e : List ℤ) (n : ℕ) (order : List ℕ) (ring out : ℕ) →
    Fit f e n order ring out →
    taken f e n order ring out ≡ true
fit-taken f e n order ring out h =
    λ i.
    le-leb n 65533 h.few i
    && le-leb (3 * (n + 3)) (length e) h.room i
    && le-leb (length order + 4) ring h.ring-room i
    && le-leb (3 * (length order + 3)) out h.out-room i
    && h.floors i
    && h.rules i
    && h.ordered i

module _ (f : Floors) (e : List ℤ) (n : ℕ) (order ring : List ℕ) (out : List ℤ) {t : Bool}
    (told : t ≡ taken f e n order (length ring) (length out)) where
  pub outside : t ≡ false → Lists f e n order ring out None e ring out
  outside not =
      record {
        answer = ap (λ b. cond b (Some (length (corners_of f e order))) None) (sym not ∙ told);
        listed = ap (λ b. cond b (put_points out 0 (corners_of f e order)) out) (sym not ∙ told);
        run = ap (λ b. cond b (framed f e n) e) (sym not ∙ told);
        scratch = refl;
      }

  module _ (so : t ≡ true) where
    fits : Fit f e n order (length ring) (length out)
    fits = fit f e n order (length ring) (length out) (sym told ∙ so)

    pub few-rules : n ≤ 65533
    few-rules = fits.few

    pub framing : Framing f e n
    framing =
        record { floors-small = floors-small {f = f} fits.floors; room = fits.room; few = omega (arith, fits.few) }

    framed-entries : Entries (framed f e n) (n + 3)
    framed-entries = record { room = omega (arith, fits.room, framed-length f e n); small = small }
      where
        rule : (k : ℕ) → 2 ≤ k → k < n + 2 → SmallConstraint (entry (framed f e n) k)
        rule k a b =
            subst SmallConstraint (sym (framed-rule f e n k a b))
            (subst (λ (j : ℕ). SmallConstraint (entry e j)) over
            (rule-small (rules-at e 2 n (k - 2) (omega arith) fits.rules)))
          where
            over : 2 + (k - 2) ≡ k
            over = omega arith

        last : (k : ℕ) → k ≡ n + 2 → SmallConstraint (entry (framed f e n) k)
        last k at =
            subst SmallConstraint (sym (ap (entry (framed f e n)) at ∙ framed-horizon f e n fits.room)) horizon-small

        small : (k : ℕ) → k < n + 3 → SmallConstraint (entry (framed f e n) k)
        small zero b =
            subst SmallConstraint (sym (framed-x f e n (omega (arith, fits.room))))
            (floorX-small {f = f} (floors-small {f = f} fits.floors))
        small (suc zero) b =
            subst SmallConstraint (sym (framed-y f e n (omega (arith, fits.room))))
            (floorY-small {f = f} (floors-small {f = f} fits.floors))
        small (suc (suc k)) b = go (ltb k n) refl
          where
            go : (s : Bool) → ltb k n ≡ s → SmallConstraint (entry (framed f e n) (suc (suc k)))
            go true x = rule (suc (suc k)) (omega arith) (omega (arith, ltb-true k n x))
            go false x = last (suc (suc k)) (omega (arith, ltb-false k n x))

    module _ {e' : List ℤ} (ee : e' ≡ framed f e n) where
      pub growing : Growing e' f order ring (n + 3)
      growing = subst (λ (l : List ℤ). Growing l f order ring (n + 3)) (sym ee) at-framed
        where
          last : n + 3 - 1 ≡ n + 2
          last = omega arith

          at-framed : Growing (framed f e n) f order ring (n + 3)
          at-framed =
              record {
                entries = framed-entries;
                some = omega arith;
                few = omega (arith, fits.few);
                floors-small = floors-small {f = f} fits.floors;
                first = framed-x f e n (omega (arith, fits.room));
                second = framed-y f e n (omega (arith, fits.room));
                third = ap (entry (framed f e n)) last ∙ framed-horizon f e n fits.room;
                ordered = named;
                room = fits.ring-room;
              }
            where
              named : Named (n + 3) order 0 (length order)
              named k b =
                  subst (λ (j : ℕ). get_or order j 0 < n + 3) over
                  (omega (arith, (named_rule n (get_or order k 0) (order-at n order fits.ordered k b)).1))
                where
                  over : k ≡ 0 + k
                  over = omega arith

      module _ {o : Option Arc} {ring' : List ℕ} (g : Grown e' f order ring (n + 3) o ring') where
        the_ring : row_of e' ring' o ≡ grown f (chosen e order)
        the_ring =
            g.row
            ∙ ap (grown f) (ap (λ (l : List ℤ). edges l order 0 (length order)) ee
            ∙ edges-chosen (framed f e n) order
            ∙ chosen-framed f e n order fits.ordered)

        -- k corners of the ring are listed
        listed :
            {k : ℕ} {out' : List ℤ} →
            k ≡ length (corners (row_of e' ring' o)) →
            out' ≡ put_points out 0 (corners (row_of e' ring' o)) →
            Lists f e n order ring out (Some k) e' ring' out'
        listed count put =
            record {
              answer =
                  ap Some (count ∙ ap (λ r. length (corners r)) the_ring)
                  ∙ ap (λ b. cond b (Some (length (corners_of f e order))) None) (sym so ∙ told);
              listed =
                  put
                  ∙ ap (λ r. put_points out 0 (corners r)) the_ring
                  ∙ ap (λ b. cond b (put_points out 0 (corners_of f e order)) out) (sym so ∙ told);
              run = ee ∙ ap (λ b. cond b (framed f e n) e) (sym so ∙ told);
              scratch = g.same;
            }

        -- no ring is left, and no corner
        pub lists-none : o ≡ None → Lists f e n order ring out (Some 0) e' ring' out
        lists-none en =
            listed (sym (ap (λ (o : Option Arc). length (corners (row_of e' ring' o))) en))
            (sym (ap (λ (o : Option Arc). put_points out 0 (corners (row_of e' ring' o))) en))

        module _ {a : Arc} (ea : o ≡ Some a) where
          grows : Grows (n + 3) a ring'
          grows = given (λ (b : Arc). Grows (n + 3) b ring') ea g.grows

          here : edges e' ring' a.lo a.n ≡ row_of e' ring' o
          here = sym (ap (row_of e' ring') ea)

          pub listing : Listing e' ring' a out
          listing =
              record {
                ring =
                    record {
                      count = n + 3;
                      entries = subst (λ (l : List ℤ). Entries l (n + 3)) (sym ee) framed-entries;
                      fits = grows.fits;
                      named = grows.named;
                    };
                some = omega (arith, grows.two);
                room = enough (sym (edges-length e' ring' a.lo a.n) ∙ ap length (here ∙ the_ring))
                    (edges-at-most f (chosen e order)) (chosen-length e order) fits.out-room;
              }
            where
              enough : {k l c : ℕ} → k ≡ l → l ≤ c + 3 → c ≡ length order → 3 * (length order + 3) ≤ length out → 3 * k ≤ length out
              enough x y z w = omega arith

          pub lists :
              {k : ℕ} {out' : List ℤ} →
              CornersPut e' ring' a out k out' →
              Lists f e n order ring out (Some k) e' ring' out'
          lists l =
              listed (l.count ∙ ap (λ r. length (corners r)) here) (l.put ∙ ap (λ r. put_points out 0 (corners r)) here)

-- ---- as the code frames it

pub framed-by :
    (f : Floors) (e : List ℤ) (n : ℕ) →
    {l₁ l₂ : List ℤ} →
    l₁ ≡ laid f e →
    l₂ ≡ put_entry l₁ (n + 2) horizon →
    l₂ ≡ framed f e n
framed-by f e n a b = b ∙ ap (λ (l : List ℤ). put_entry l (n + 2) horizon) a
