-- The corners of a ring put into a run of numbers, one after the other.
use mathlib.Core.Path.{◌≡◌, refl, sym, ◌∙◌, ap, subst}
use mathlib.Core.List.{List, [], ◌∷◌}
use mathlib.Core.Bool.{Bool, true, false}
use Prim.Native.Nat.{ℕ, suc, ◌+◌, ◌-◌, ◌≤◌, ◌<◌}
use native.Mathlib.Omega.{arith}
use native.Mathlib.Numerals.{add-one}
use lib.ListN.{length, length-set}
use lib.IntN.{ℤ, pos}
use lib.Signed.{lt_z}
use Rattle.lp.specs.declared.Constraint.{Constraint}
use Rattle.lp.specs.declared.Point.{Point}
use Rattle.lp.specs.Outcome.{det, meet, reduce}
use Rattle.lp.specs.Range.{SmallConstraint}
use Rattle.boundary.specs.Ring.{listed, corners_from, corners}
use Rattle.boundary.specs.declared.Arc.{Arc}
use Rattle.region.specs.Row.{edge, edges}
use Rattle.region.specs.Listing.{put_point, put_points}
use Rattle.region.specs.Asked.{At, Noting, Noted, Listing, CornersPut}
use Rattle.region.proofs.Rows.{ring-at, ring-small}

pub put-length : (l : List ℤ) (k : ℕ) (v : Point) → length (put_point l k v) ≡ length l
put-length l k v = simp length-set

-- ---- one corner

-- whether it is a point
at-corner : (p q : Constraint) {v : Point} → v ≡ meet p q → {b : Bool} → lt_z (pos 0) v.d ≡ b → lt_z (pos 0) (det p q) ≡ b
at-corner p q is t = sym (ap (λ (w : Point). lt_z (pos 0) w.d) is) ∙ t

module _ {out : List ℤ} {p q : Constraint} {k : ℕ} {v : Point} (is : v ≡ meet p q) where
  pub noted-point :
      lt_z (pos 0) v.d ≡ true →
      {w : Point} →
      w ≡ reduce v →
      {after : List ℤ} →
      after ≡ put_point out k w →
      Noted out p q k (k + 1) after
  noted-point t {w} er {after} ea =
      record {
        same = ap length ea ∙ put-length out k w;
        fewer = omega arith;
        put = λ vs.
            (λ i. put_points (whole i) (add-one k i) vs)
            ∙ sym (ap (λ b. put_points out k (elim b [ true ↦ reduce (meet p q) ∷ vs | false ↦ vs ])) (at-corner p q is t));
        counted = λ vs.
            more (length vs)
            ∙ sym (ap (λ b. k + length {A = Point} (elim b [ true ↦ reduce (meet p q) ∷ vs | false ↦ vs ])) (at-corner p q is t));
      }
    where
      whole : after ≡ put_point out k (reduce (meet p q))
      whole = ea ∙ ap (put_point out k) (er ∙ ap reduce is)

      more : (n : ℕ) → k + 1 + n ≡ k + suc n
      more n = omega arith

  pub noted-none : lt_z (pos 0) v.d ≡ false → Noted out p q k k out
  noted-none t =
      record {
        same = refl;
        fewer = omega arith;
        put = λ vs. sym (ap (λ b. put_points out k (elim b [ true ↦ reduce (meet p q) ∷ vs | false ↦ vs ])) (at-corner p q is t));
        counted = λ vs. sym (ap (λ b. k + length {A = Point} (elim b [ true ↦ reduce (meet p q) ∷ vs | false ↦ vs ])) (at-corner p q is t));
      }

-- ---- all of them

pub record Walk (e : List ℤ) (run : List ℕ) (a : Arc) (before now : List ℤ) (k i : ℕ) : Type 0 where
  pub begun : 1 ≤ i
  pub inside : i ≤ a.n
  pub few : k < i
  pub same : length now ≡ length before
  pub put :
      put_points now k (corners_from (edge e run a.lo) (edge e run (a.lo + i - 1)) (edges e run (a.lo + i) (a.n - i)))
      ≡ put_points before 0 (corners (edges e run a.lo a.n))
  pub counted :
      k + length (corners_from (edge e run a.lo) (edge e run (a.lo + i - 1)) (edges e run (a.lo + i) (a.n - i)))
      ≡ length (corners (edges e run a.lo a.n))

module _ {e : List ℤ} {run : List ℕ} {a : Arc} {before : List ℤ} (s : Listing e run a before) where
  pub walk_start : Walk e run a before before 0 1
  walk_start =
      record {
        begun = omega arith;
        inside = s.some;
        few = omega arith;
        same = refl;
        put = ap (put_points before 0) whole;
        counted = ap (λ (vs : List Point). 0 + length vs) whole ∙ none (length (corners (edges e run a.lo a.n)));
      }
    where
      none : (n : ℕ) → 0 + n ≡ n
      none n = omega arith

      here : a.lo + 1 - 1 ≡ a.lo
      here = omega arith

      next : a.lo + 1 ≡ suc a.lo
      next = omega arith

      some : a.n ≡ suc (a.n - 1)
      some = omega (arith, s.some)

      whole :
          corners_from (edge e run a.lo) (edge e run (a.lo + 1 - 1)) (edges e run (a.lo + 1) (a.n - 1))
          ≡ corners (edges e run a.lo a.n)
      whole =
          (λ i. corners_from (edge e run a.lo) (edge e run (here i)) (edges e run (next i) (a.n - 1)))
          ∙ sym (ap (λ (n : ℕ). corners (edges e run a.lo n)) some)

  module _ {now : List ℤ} {k i : ℕ} (t : Walk e run a before now k i) where
    pub walk_at : a.lo + i - 1 < a.lo + a.n → At e run (a.lo + i - 1)
    walk_at b = ring-at s.ring (a.lo + i - 1) (omega (arith, t.begun)) b

    pub walk-noting : i < a.n → {p q : Constraint} → p ≡ edge e run (a.lo + i - 1) → q ≡ edge e run (a.lo + i) → Noting now p q k
    walk-noting b ep eq =
        record {
          p-small = subst SmallConstraint (sym ep) (ring-small s.ring (a.lo + i - 1) (omega (arith, t.begun)) (omega arith));
          q-small = subst SmallConstraint (sym eq) (ring-small s.ring (a.lo + i) (omega arith) (omega arith));
          room = omega (arith, s.room, t.few, t.same);
        }

    pub walk_step :
        i < a.n →
        {p q : Constraint} →
        p ≡ edge e run (a.lo + i - 1) →
        q ≡ edge e run (a.lo + i) →
        {next : ℕ} {after : List ℤ} →
        Noted now p q k next after →
        Walk e run a before after next (i + 1)
    walk_step b {p} {q} ep eq {next} {after} u =
        record {
          begun = omega arith;
          inside = omega arith;
          few = omega (arith, u.fewer, t.few);
          same = u.same ∙ t.same;
          put = u.put (rest (i + 1)) ∙ ap (put_points now k) more ∙ t.put;
          counted = u.counted (rest (i + 1)) ∙ ap (λ (vs : List Point). k + length vs) more ∙ t.counted;
        }
      where
        rest : ℕ → List Point
        rest j = corners_from (edge e run a.lo) (edge e run (a.lo + j - 1)) (edges e run (a.lo + j) (a.n - j))

        here : a.lo + (i + 1) - 1 ≡ a.lo + i
        here = omega arith

        on : a.lo + (i + 1) ≡ suc (a.lo + i)
        on = omega arith

        fewer : a.n - i ≡ suc (a.n - (i + 1))
        fewer = omega arith

        more :
            listed p q
            (corners_from (edge e run a.lo) (edge e run (a.lo + (i + 1) - 1)) (edges e run (a.lo + (i + 1)) (a.n - (i + 1))))
            ≡ corners_from (edge e run a.lo) (edge e run (a.lo + i - 1)) (edges e run (a.lo + i) (a.n - i))
        more =
            (λ j. listed (ep j) (eq j) (corners_from (edge e run a.lo) (edge e run (here j)) (edges e run (on j) (a.n - (i + 1)))))
            ∙ sym (ap (λ (n : ℕ). corners_from (edge e run a.lo) (edge e run (a.lo + i - 1)) (edges e run (a.lo + i) n)) fewer)

    pub walk-last : a.n ≤ i → At e run (a.lo + a.n - 1)
    walk-last b = ring-at s.ring (a.lo + a.n - 1) (omega (arith, t.begun, t.inside)) (omega (arith, t.begun, t.inside))

    pub walk_first : a.n ≤ i → At e run a.lo
    walk_first b = ring-at s.ring a.lo (omega arith) (omega (arith, t.begun, t.inside))

    pub walk-closing :
        a.n ≤ i →
        {p q : Constraint} →
        p ≡ edge e run (a.lo + a.n - 1) →
        q ≡ edge e run a.lo →
        Noting now p q k
    walk-closing b ep eq =
        record {
          p-small = subst SmallConstraint (sym ep)
              (ring-small s.ring (a.lo + a.n - 1) (omega (arith, t.begun, t.inside)) (omega (arith, t.begun, t.inside)));
          q-small = subst SmallConstraint (sym eq)
              (ring-small s.ring a.lo (omega arith) (omega (arith, t.begun, t.inside)));
          room = omega (arith, s.room, t.few, t.same, t.inside);
        }

    pub walk_end :
        a.n ≤ i →
        {p q : Constraint} →
        p ≡ edge e run (a.lo + a.n - 1) →
        q ≡ edge e run a.lo →
        {next : ℕ} {after : List ℤ} →
        Noted now p q k next after →
        CornersPut e run a before next after
    walk_end b {p} {q} ep eq {next} {after} u =
        record {
          count = none next ∙ u.counted [] ∙ ap (λ (vs : List Point). k + length vs) more ∙ t.counted;
          put = u.put [] ∙ ap (put_points now k) more ∙ t.put;
        }
      where
        none : (n : ℕ) → n ≡ n + 0
        none n = omega arith

        zero_left : a.n - i ≡ 0
        zero_left = omega arith

        here : a.lo + a.n - 1 ≡ a.lo + i - 1
        here = omega (arith, t.inside)

        more :
            listed p q []
            ≡ corners_from (edge e run a.lo) (edge e run (a.lo + i - 1)) (edges e run (a.lo + i) (a.n - i))
        more =
            (λ j. listed (ep j) (eq j) [])
            ∙ (λ j. corners_from (edge e run a.lo) (edge e run (here j)) [])
            ∙ sym (ap (λ (n : ℕ). corners_from (edge e run a.lo) (edge e run (a.lo + i - 1)) (edges e run (a.lo + i) n)) zero_left)
