-- Gains with and without a top: a feasible point and a ray that gains make gains without top, a peak in the gains' order is a top, and no
-- system has both.
use mathlib.Core.Path.{◌≡◌, refl, ◌∙◌, ap, subst}
use mathlib.Core.List.{List, [], ◌∷◌}
use mathlib.Core.Logic.{inl, inr}
use Prim.Native.Nat.{ℕ, suc, ◌+◌}
use native.Mathlib.Nat.{le_refl}
use native.Mathlib.Omega.{arith}
use lib.Dec.{le→leb}
use lib.IntN.{ℤ, pos, nat_abs, ◌+ℤ◌, ◌-ℤ◌, ◌*ℤ◌}
use lib.Signed.{le_z_yes, clash_ℤ}
use Rattle.ints.specs.Order.{◌≤ᶻ◌, ◌<ᶻ◌}
use Rattle.ints.proofs.Ring.{◌⊕◌, ◌⊖◌, ◌⊗◌, ⊝◌, ◌≐◌, con}
use Rattle.ints.proofs.Order.{nn_add, nn_mul, nn_sub, nn_cancel, nn_zero, sub_nn, sub-pos, pos-sub, pos_nn, pos_nat, pos-elim, pos-add_nn}
use Rattle.ints.proofs.Order.{neg_nn}
use Rattle.ints.proofs.Machine.{within_le}
use Rattle.lp.specs.declared.Constraint.{Constraint}
use Rattle.lp.specs.declared.Functional.{Functional}
use Rattle.lp.specs.declared.Point.{Point}
use Rattle.lp.specs.declared.Ray.{Ray}
use Rattle.lp.specs.declared.Tie.{Tie}
use Rattle.lp.specs.Program.{point, Feasible, gain, along, between}
use Rattle.lp.specs.Outcome.{gain_order}
use Rattle.lp.specs.Textbook.{NoTop, Top}
use Rattle.theory.proofs.Solver.{equal, nn_by, pos-by, C, F, P, R, Z, slackᵖ, gainᵖ, alongᵖ, riseᵖ, betweenᵖ}
use Rattle.theory.proofs.Lexicographic.{Up}
use Rattle.theory.proofs.Cone.{Recedes}

-- k steps of the ray d from s
abbrev beyond : Point → Ray → ℤ → Point
beyond s d k = point (s.x +ℤ k *ℤ d.dx) (s.y +ℤ k *ℤ d.dy) s.d

-- a number is below one more than its magnitude
below-magnitude : (z : ℤ) → z <ᶻ pos (suc (nat_abs z))
below-magnitude z =
    pos-sub (subst (λ y. pos 0 <ᶻ y)
    (equal (Z ∷ Z ∷ []) (λ m z. con (pos 1) ⊕ (m ⊖ z) ≐ con (pos 1) ⊕ m ⊖ z) refl (pos (nat_abs z)) z
    ∙ ap (λ y. y -ℤ z) (one_more (nat_abs z)))
    (pos-add_nn (pos_nat 0) (sub_nn (within_le {n = nat_abs z} {z = z} (record { small = le_refl (nat_abs z) })))))
  where
    one_more : (n : ℕ) → pos 1 +ℤ pos n ≡ pos (suc n)
    one_more n = ap pos (first n)
      where
        first : (n : ℕ) → 1 + n ≡ suc n
        first n = omega arith

pub ray_no_top :
    (S : List Constraint) (f : Functional) (s : Point) (d : Ray) →
    Feasible S s →
    Recedes S d →
    pos 0 <ᶻ along f d →
    NoTop S f
ray_no_top S f s d h r g m = (beyond s d k, feasible, more)
  where
    short : ℤ
    short = m *ℤ s.d -ℤ gain f s

    k : ℤ
    k = pos (suc (nat_abs short))

    k-positive : pos 0 <ᶻ k
    k-positive = pos_nat (nat_abs short)

    feasible : Feasible S (beyond s d k)
    feasible =
        record {
          proper = h.proper;
          kept =
              λ c i. nn_by (C ∷ P ∷ R ∷ Z ∷ [])
              (λ c s d k. c.c ⊗ s.d ⊖ (c.a ⊗ (s.x ⊕ k ⊗ d.dx) ⊕ c.b ⊗ (s.y ⊕ k ⊗ d.dy)) ≐ slackᵖ c s ⊕ k ⊗ ⊝ riseᵖ c d) refl c s d
              k (nn_add (h.kept c i) (nn_mul (pos_nn k-positive) (neg_nn (r c i))));
        }

    -- each step gains at least 1
    at_least_one : pos 0 ≤ᶻ along f d -ℤ pos 1
    at_least_one =
        pos-elim (λ z. pos 0 ≤ᶻ z -ℤ pos 1) (λ n. sub_nn {a = pos 1} {b = pos (suc n)} (le_z_yes (le→leb 1 (suc n) (omega arith)))) g

    more : m *ℤ s.d <ᶻ gain f (beyond s d k)
    more =
        pos-sub
        (pos-by (F ∷ P ∷ R ∷ Z ∷ Z ∷ [])
        (λ f s d k m. f.p ⊗ (s.x ⊕ k ⊗ d.dx) ⊕ f.q ⊗ (s.y ⊕ k ⊗ d.dy) ⊖ m ⊗ s.d
        ≐ k ⊖ (m ⊗ s.d ⊖ gainᵖ f s) ⊕ k ⊗ (alongᵖ f d ⊖ con (pos 1))) refl f s d k m
        (pos-add_nn (sub-pos (below-magnitude short)) (nn_mul (pos_nn k-positive) at_least_one)))

-- no feasible point gains more than v, per unit of denominator
pub gains-at-most :
    (f : Functional) (t : Tie) (v w : Point) →
    Up (gain_order f t) (between w v) →
    gain f w *ℤ v.d ≤ᶻ gain f v *ℤ w.d
gains-at-most f t v w (inl h) =
    nn_sub (nn_by (F ∷ P ∷ P ∷ []) (λ f v w. gainᵖ f v ⊗ w.d ⊖ gainᵖ f w ⊗ v.d ≐ alongᵖ f (betweenᵖ w v)) refl f v w (pos_nn h))
gains-at-most f t v w (inr h) =
    nn_sub (nn_by (F ∷ P ∷ P ∷ []) (λ f v w. gainᵖ f v ⊗ w.d ⊖ gainᵖ f w ⊗ v.d ≐ alongᵖ f (betweenᵖ w v)) refl f v w (nn_zero h.0))

pub peak-top :
    (S : List Constraint) (f : Functional) (v : Point) →
    Feasible S v →
    ((w : Point) → Feasible S w → gain f w *ℤ v.d ≤ᶻ gain f v *ℤ w.d) →
    Top S f
peak-top S f v h best = (m, bound)
  where
    m : ℤ
    m = pos (suc (nat_abs (gain f v)))

    -- m is at least the gain, and so is m·d
    enough : pos 0 ≤ᶻ m *ℤ v.d -ℤ gain f v
    enough =
        nn_by (Z ∷ Z ∷ Z ∷ []) (λ m d g. m ⊗ d ⊖ g ≐ m ⊖ g ⊕ m ⊗ (d ⊖ con (pos 1))) refl m v.d (gain f v)
        (nn_add (pos_nn (sub-pos (below-magnitude (gain f v))))
        (nn_mul (pos_nn (pos_nat (nat_abs (gain f v))))
        (pos-elim (λ z. pos 0 ≤ᶻ z -ℤ pos 1) (λ n. sub_nn {a = pos 1} {b = pos (suc n)} (le_z_yes (le→leb 1 (suc n) (omega arith))))
        h.proper)))

    bound : (w : Point) → Feasible S w → gain f w ≤ᶻ m *ℤ w.d
    bound w k =
        nn_sub
        (nn_cancel h.proper
        (nn_by (F ∷ P ∷ P ∷ Z ∷ [])
        (λ f v w m. v.d ⊗ (m ⊗ w.d ⊖ gainᵖ f w) ≐ (m ⊗ v.d ⊖ gainᵖ f v) ⊗ w.d ⊕ (gainᵖ f v ⊗ w.d ⊖ gainᵖ f w ⊗ v.d)) refl f v w m
        (nn_add (nn_mul enough (pos_nn k.proper)) (sub_nn (best w k)))))

pub top_or_not : (S : List Constraint) (f : Functional) → NoTop S f → Top S f → ⊥
top_or_not S f none (m, bound) = go (none m)
  where
    go : (v : Point) × Feasible S v × (m *ℤ v.d <ᶻ gain f v) → ⊥
    go (v, h, more) = clash_ℤ more (bound v h)
