-- The passes over the rules, for their rays, and over the corners, for the first of them: what is left of a pass gives, with what is held
-- so far, the answer of the whole. One record says so for each loop, with its start, its step and its end.
use Rattle.std.specs.Prelude.{Option}
use mathlib.Core.Path.{◌≡◌, sym, ◌∙◌, ap, subst}
use mathlib.Core.List.{List, ◌∷◌}
use mathlib.Core.Bool.{Bool, true, false}
use Prim.Native.Nat.{ℕ, suc, ◌+◌, ◌-◌, ◌≤◌, ◌<◌}
use native.Mathlib.Omega.{arith}
use native.Mathlib.Numerals.{add-one}
use lib.IntN.{ℤ}
use Rattle.lp.specs.declared.Constraint.{Constraint}
use Rattle.lp.specs.declared.Functional.{Functional}
use Rattle.lp.specs.declared.Point.{Point}
use Rattle.lp.specs.Outcome.{pick, better}
use Rattle.lp.specs.Range.{SmallConstraint, SmallSystem}
use Rattle.lp.specs.declared.Ray.{Ray}
use Rattle.model.specs.Step.{narrow}
use Rattle.model.specs.Bounds.{SmallPoint, SmallCone}
use Rattle.model.proofs.Bounds.{narrow-small, axes-small}
use Rattle.engine.specs.Entries.{entry, entries}
use Rattle.engine.specs.Sizes.{Room}
use Rattle.exact.specs.Sizes.{Narrowing}
use Rattle.engine.proofs.Passes.{entries-more, entries_none}
use Rattle.batch_theory.specs.Rays.{narrow_all, axes, rays_of}
use Rattle.offering.specs.Listed.{point_at, points_from, chosen_of, first_by, nowhere}
use Rattle.offering.specs.Asked.{Ruled, Points}

-- ---- the rays

pub record Narrowed (l : List ℤ) (n : ℕ) (cone : Option (Ray × Ray)) (i : ℕ) : Type 0 where
  pub inside : i ≤ n + 2
  pub rays : SmallCone cone
  pub left-small : SmallSystem (entries l i (n + 2 - i))
  pub rest : narrow_all (entries l i (n + 2 - i)) cone ≡ rays_of (entries l 2 n)

pub narrowed-start : {l : List ℤ} {n : ℕ} → Ruled n l → Narrowed l n axes 2
narrowed-start {l} {n} h =
    record {
      inside = omega arith;
      rays = axes-small;
      left-small = subst (λ (m : ℕ). SmallSystem (entries l 2 m)) (sym all) h.rules-small;
      rest = ap (λ (m : ℕ). rays_of (entries l 2 m)) all;
    }
  where
    all : n + 2 - 2 ≡ n
    all = omega arith

module _ {l : List ℤ} {n : ℕ} {cone : Option (Ray × Ray)} {i : ℕ} (t : Narrowed l n cone i) where
  module _ (b : i < n + 2) where
    pub narrowed-room : Ruled n l → Room l i
    narrowed-room h = record { room = omega (arith, h.room) }

    both_small : SmallSystem (entry l i ∷ entries l (suc i) (n + 2 - suc i))
    both_small = subst SmallSystem (entries-more l (n + 2) i b) t.left-small

    module _ {h : Constraint} (eh : h ≡ entry l i) where
      pub narrowing : Narrowing h cone
      narrowing = record { constraint = subst SmallConstraint (sym eh) both_small.0; rays = t.rays }

      pub narrowed-step : {r : Option (Ray × Ray)} → r ≡ narrow h cone → Narrowed l n r (i + 1)
      narrowed-step {r} er =
          subst (λ (j : ℕ). Narrowed l n r j) (sym (add-one i))
          (record {
            inside = omega arith;
            rays = subst SmallCone (sym er) (narrow-small narrowing.constraint cone t.rays);
            left-small = both_small.1;
            rest =
                ap (narrow_all (entries l (suc i) (n + 2 - suc i))) (er ∙ ap (λ (k : Constraint). narrow k cone) eh)
                ∙ sym (ap (λ (s : List Constraint). narrow_all s cone) (entries-more l (n + 2) i b))
                ∙ t.rest;
          })

  pub narrowed-end : n + 2 ≤ i → cone ≡ rays_of (entries l 2 n)
  narrowed-end over = sym (ap (λ (s : List Constraint). narrow_all s cone) (entries_none l (n + 2) i over)) ∙ t.rest

-- ---- the first corner

pub point-room : {l : List ℤ} {n : ℕ} → Points l n → {k : ℕ} → k < n → Room l k
point-room h {k} b = record { room = omega (arith, h.room) }

module _ (fs : List Functional) where
  pub record Picked (l : List ℤ) (n : ℕ) (v : Point) (i : ℕ) : Type 0 where
    pub inside : i ≤ n
    pub small : SmallPoint v
    pub rest : pick (better fs) v (points_from l i (n - i)) ≡ first_by fs (points_from l 0 n)

  pub picked-start : {l : List ℤ} {n : ℕ} → Points l n → 0 < n → {v : Point} → v ≡ point_at l 0 → Picked l n v 1
  picked-start {l} {n} h some {v} ev =
      record {
        inside = omega arith;
        small = subst SmallPoint (sym ev) (h.small 0 some);
        rest =
            ap (λ (w : Point). pick (better fs) w (points_from l 1 (n - 1))) ev
            ∙ ap (λ (m : ℕ). first_by fs (points_from l 0 m)) (sym more);
      }
    where
      more : n ≡ suc (n - 1)
      more = omega arith

  chosen-small : (w v : Point) → SmallPoint w → SmallPoint v → SmallPoint (chosen_of fs w v)
  chosen-small w v hw hv = go (better fs w v)
    where
      go : (b : Bool) → SmallPoint (elim b [ true ↦ w | false ↦ v ])
      go true = hw
      go false = hv

  module _ {l : List ℤ} {n : ℕ} {v : Point} {i : ℕ} (t : Picked l n v i) where
    pub picked-step : Points l n → i < n → {w : Point} → w ≡ point_at l i → {r : Point} → r ≡ chosen_of fs w v → Picked l n r (i + 1)
    picked-step h b {w} ew {r} er =
        subst (λ (j : ℕ). Picked l n r j) (sym (add-one i))
        (record {
          inside = omega arith;
          small = subst SmallPoint (sym er) (chosen-small w v (subst SmallPoint (sym ew) (h.small i b)) t.small);
          rest =
              ap (λ (u : Point). pick (better fs) u (points_from l (suc i) (n - suc i))) (er ∙ ap (λ (u : Point). chosen_of fs u v) ew)
              ∙ sym (ap (λ (m : ℕ). pick (better fs) v (points_from l i m)) more)
              ∙ t.rest;
        })
      where
        more : n - i ≡ suc (n - suc i)
        more = omega arith

    pub picked-end : n ≤ i → v ≡ first_by fs (points_from l 0 n)
    picked-end over = sym (ap (λ (m : ℕ). pick (better fs) v (points_from l i m)) none) ∙ t.rest
      where
        none : n - i ≡ 0
        none = omega arith

  pub none-picked : (l : List ℤ) {n : ℕ} → n ≡ 0 → nowhere ≡ first_by fs (points_from l 0 n)
  none-picked l e = sym (ap (λ (m : ℕ). first_by fs (points_from l 0 m)) e)
