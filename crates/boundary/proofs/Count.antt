-- How many edges and corners a ring has. Weights are summed over the edges: each insertion adds the weight of the new edge at most. With
-- weight 1 for all that counts the edges; with weight 0 for those without a direction, like the horizon, it bounds the corners, since
-- each corner begins an edge that has one.
use mathlib.Core.Path.{◌≡◌, refl, ◌∙◌, ap₂}
use mathlib.Core.List.{List, [], ◌∷◌, ◌++◌}
use mathlib.Core.Bool.{Bool, true, false, not, ◌&&◌}
use Prim.Native.Nat.{ℕ, zero, suc, ◌+◌, ◌≤◌}
use native.Mathlib.Omega.{arith}
use lib.Dec.{T}
use lib.ListN.{length}
use lib.IntN.{pos, ◌*ℤ◌, ◌-ℤ◌}
use lib.Signed.{lt_z, lt_z_yes, clash_ℤ}
use Rattle.ints.specs.Order.{◌<ᶻ◌}
use Rattle.ints.proofs.Ring.{ring, con, ◌⊖◌, ◌⊗◌, ◌≐◌}
use Rattle.ints.proofs.Order.{le_of_eq}
use Rattle.lp.specs.declared.Constraint.{Constraint}
use Rattle.lp.specs.declared.Floors.{Floors}
use Rattle.lp.specs.declared.Point.{Point}
use Rattle.lp.specs.Outcome.{det, meet, reduce}
use Rattle.lp.specs.Prefixes.{one_if}
use Rattle.lp.specs.Certificate.{is_zero}
use Rattle.theory.proofs.Lists.{and_left, and_right}
use Rattle.theory.proofs.Farkas.{is-zero}
use Rattle.boundary.specs.Size.{size}
use Rattle.boundary.specs.Ring.{at_place, sought, keeps_at, front, joined, back, closed, entered, insert, triangle, grown_from, grown}
use Rattle.boundary.specs.Ring.{listed, corners_from, corners}

-- ---- the weight of a list of edges

module _ (w : Constraint → ℕ) where
  abbrev pub weigh : List Constraint → ℕ
  weigh [] = 0
  weigh (r ∷ l) = w r + weigh l

  weigh-on : (l : List Constraint) (k : Constraint) → weigh (l ++ (k ∷ [])) ≡ w k + weigh l
  weigh-on [] k = refl
  weigh-on (r ∷ l) k = go (weigh-on l k)
    where
      go : weigh (l ++ (k ∷ [])) ≡ w k + weigh l → w r + weigh (l ++ (k ∷ [])) ≡ w k + (w r + weigh l)
      go e = omega arith

  sought-weight : (D h : Constraint) (n : ℕ) (k : Constraint) (l : List Constraint) → weigh (sought D h n k l) ≡ w k + weigh l
  sought-weight D h zero k l = refl
  sought-weight D h (suc n) k [] = refl
  sought-weight D h (suc n) k (e ∷ l) = go (at_place D h k e) (sought-weight D h n e (l ++ (k ∷ []))) (weigh-on l k)
    where
      go :
          (b : Bool) →
          weigh (sought D h n e (l ++ (k ∷ []))) ≡ w e + weigh (l ++ (k ∷ [])) →
          weigh (l ++ (k ∷ [])) ≡ w k + weigh l →
          weigh (elim b [ true ↦ k ∷ e ∷ l | false ↦ sought D h n e (l ++ (k ∷ [])) ]) ≡ w k + (w e + weigh l)
      go true p q = refl
      go false p q = omega arith

  front-weight : (h p : Constraint) (l : List Constraint) → weigh (front h p l) ≤ w p + weigh l
  front-weight h p [] = omega arith
  front-weight h p (q ∷ l) = go (keeps_at h p q) (front-weight h q l)
    where
      go :
          (b : Bool) →
          weigh (front h q l) ≤ w q + weigh l →
          weigh (elim b [ true ↦ p ∷ q ∷ l | false ↦ front h q l ]) ≤ w p + (w q + weigh l)
      go true f = omega arith
      go false f = omega arith

  joined-weight : (p : Constraint) (b : Bool) (l : List Constraint) → weigh (joined p b l) ≤ w p + weigh l
  joined-weight p b [] = omega arith
  joined-weight p true (q ∷ l) = omega arith
  joined-weight p false (q ∷ []) = omega arith
  joined-weight p false (q ∷ r ∷ l) = omega arith

  back-weight : (h p : Constraint) (l : List Constraint) → weigh (back h p l) ≤ w p + weigh l
  back-weight h p [] = omega arith
  back-weight h p (q ∷ l) = go (joined-weight p (keeps_at h p q) (back h q l)) (back-weight h q l)
    where
      go :
          weigh (joined p (keeps_at h p q) (back h q l)) ≤ w p + weigh (back h q l) →
          weigh (back h q l) ≤ w q + weigh l →
          weigh (joined p (keeps_at h p q) (back h q l)) ≤ w p + (w q + weigh l)
      go f g = omega arith

  closed-weight : (h : Constraint) (l : List Constraint) → weigh (closed h l) ≤ w h + weigh l
  closed-weight h [] = omega arith
  closed-weight h (p ∷ []) = omega arith
  closed-weight h (p ∷ q ∷ l) = go (back-weight h p (q ∷ l))
    where
      go : weigh (back h p (q ∷ l)) ≤ w p + (w q + weigh l) → w h + weigh (back h p (q ∷ l)) ≤ w h + (w p + (w q + weigh l))
      go f = omega arith

  entered-weight : (h : Constraint) (l : List Constraint) → weigh (entered h l) ≤ w h + weigh l
  entered-weight h [] = omega arith
  entered-weight h (k ∷ []) = omega arith
  entered-weight h (k ∷ e ∷ l) =
      go (keeps_at h k e) (closed-weight h (front h e (l ++ (k ∷ [])))) (front-weight h e (l ++ (k ∷ []))) (weigh-on l k)
    where
      go :
          (b : Bool) →
          weigh (closed h (front h e (l ++ (k ∷ [])))) ≤ w h + weigh (front h e (l ++ (k ∷ []))) →
          weigh (front h e (l ++ (k ∷ []))) ≤ w e + weigh (l ++ (k ∷ [])) →
          weigh (l ++ (k ∷ [])) ≡ w k + weigh l →
          weigh (elim b [ true ↦ k ∷ e ∷ l | false ↦ closed h (front h e (l ++ (k ∷ []))) ]) ≤ w h + (w k + (w e + weigh l))
      go true f g q = omega arith
      go false f g q = omega arith

  insert-weight : (D h : Constraint) (l : List Constraint) → weigh (insert D h l) ≤ w h + weigh l
  insert-weight D h [] = omega arith
  insert-weight D h (k ∷ l) = go (entered-weight h (sought D h (suc (length l)) k l)) (sought-weight D h (suc (length l)) k l)
    where
      go :
          weigh (entered h (sought D h (suc (length l)) k l)) ≤ w h + weigh (sought D h (suc (length l)) k l) →
          weigh (sought D h (suc (length l)) k l) ≡ w k + weigh l →
          weigh (entered h (sought D h (suc (length l)) k l)) ≤ w h + (w k + weigh l)
      go f e = omega arith

  pub grown-weight : (D : Constraint) (l rules : List Constraint) → weigh (grown_from D l rules) ≤ weigh rules + weigh l
  grown-weight D l [] = omega arith
  grown-weight D l (h ∷ rules) = go (grown-weight D (insert D h l) rules) (insert-weight D h l)
    where
      go :
          weigh (grown_from D (insert D h l) rules) ≤ weigh rules + weigh (insert D h l) →
          weigh (insert D h l) ≤ w h + weigh l →
          weigh (grown_from D (insert D h l) rules) ≤ w h + weigh rules + weigh l
      go f g = omega arith

-- ---- edges

weigh-length : (l : List Constraint) → weigh (λ r. 1) l ≡ length l
weigh-length [] = refl
weigh-length (r ∷ l) = go (weigh-length l)
  where
    go : weigh (λ r. 1) l ≡ length l → 1 + weigh (λ r. 1) l ≡ suc (length l)
    go e = omega arith

-- a ring has at most n + 3 edges
pub edges-at-most : (f : Floors) (rules : List Constraint) → length (grown f rules) ≤ length rules + 3
edges-at-most f rules =
    go (grown-weight (λ r. 1) (size f) (triangle f) rules) (weigh-length (grown f rules)) (weigh-length rules)
  where
    go :
        weigh (λ r. 1) (grown f rules) ≤ weigh (λ r. 1) rules + 3 →
        weigh (λ r. 1) (grown f rules) ≡ length (grown f rules) →
        weigh (λ r. 1) rules ≡ length rules →
        length (grown f rules) ≤ length rules + 3
    go a b c = omega arith

-- ---- corners

-- 0 for a constraint without a direction
abbrev sloped : Constraint → ℕ
sloped r = one_if (not (is_zero r.a && is_zero r.b))

at_most_one : (b : Bool) → one_if b ≤ 1
at_most_one true = omega arith
at_most_one false = omega arith

crossing-sloped : (p q : Constraint) → pos 0 <ᶻ det p q → sloped p ≡ 1
crossing-sloped p q c = go (is_zero p.a && is_zero p.b) flat
  where
    flat : T (is_zero p.a && is_zero p.b) → det p q ≡ pos 0
    flat t =
        ap₂ (λ a b. a *ℤ q.b -ℤ q.a *ℤ b) (is-zero p.a (and_left (is_zero p.a) (is_zero p.b) t))
        (is-zero p.b (and_right (is_zero p.a) (is_zero p.b) t))
        ∙ ring 2 (λ a b. con (pos 0) ⊗ b ⊖ a ⊗ con (pos 0) ≐ con (pos 0)) refl q.a q.b

    go : (b : Bool) → (T b → det p q ≡ pos 0) → one_if (not b) ≡ 1
    go true n = clash_ℤ c (le_of_eq (n tt))
    go false n = refl

listed-count : (p q : Constraint) (vs : List Point) → length (listed p q vs) ≤ sloped p + length vs
listed-count p q vs = go (lt_z (pos 0) (det p q)) (λ t. crossing-sloped p q (lt_z_yes t))
  where
    go :
        (b : Bool) →
        (T b → sloped p ≡ 1) →
        length {A = Point} (elim b [ true ↦ reduce (meet p q) ∷ vs | false ↦ vs ]) ≤ sloped p + length vs
    go true y = omega (arith, y tt)
    go false y = omega arith

corners-count : (e p : Constraint) (l : List Constraint) → length (corners_from e p l) ≤ sloped p + weigh sloped l
corners-count e p [] = listed-count p e []
corners-count e p (q ∷ l) = go (listed-count p q (corners_from e q l)) (corners-count e q l)
  where
    go :
        length (listed p q (corners_from e q l)) ≤ sloped p + length (corners_from e q l) →
        length (corners_from e q l) ≤ sloped q + weigh sloped l →
        length (listed p q (corners_from e q l)) ≤ sloped p + (sloped q + weigh sloped l)
    go a b = omega arith

ring-count : (l : List Constraint) → length (corners l) ≤ weigh sloped l
ring-count [] = omega arith
ring-count (k ∷ l) = corners-count k k l

sloped-length : (l : List Constraint) → weigh sloped l ≤ length l
sloped-length [] = omega arith
sloped-length (r ∷ l) = go (sloped-length l) (at_most_one (not (is_zero r.a && is_zero r.b)))
  where
    go : weigh sloped l ≤ length l → sloped r ≤ 1 → sloped r + weigh sloped l ≤ suc (length l)
    go a b = omega arith

-- a ring has at most n + 2 corners
pub corners-at-most : (f : Floors) (rules : List Constraint) → length (corners (grown f rules)) ≤ length rules + 2
corners-at-most f rules =
    go (ring-count (grown f rules)) (grown-weight sloped (size f) (triangle f) rules) (sloped-length rules)
  where
    go :
        length (corners (grown f rules)) ≤ weigh sloped (grown f rules) →
        weigh sloped (grown f rules) ≤ weigh sloped rules + 2 →
        weigh sloped rules ≤ length rules →
        length (corners (grown f rules)) ≤ length rules + 2
    go a b c = omega arith
