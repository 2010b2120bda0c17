-- Certificates. A weighted sum of constraints in which a and b cancel and c falls below 0 excludes every point, whatever its size; and
-- where the tightest point P on the line of h, the meeting with k, breaks m, three determinants are the weights of such a sum.
use mathlib.Core.Path.{◌≡◌, refl, ◌∙◌, ap}
use mathlib.Core.List.{List, [], ◌∷◌, Memᴰ}
use mathlib.Core.Bool.{Bool, true, false, ◌&&◌}
use Prim.Native.Nat.{◌<◌}
use lib.Dec.{T, ltb, leb, ltb→lt}
use lib.ListN.{length, get_or}
use lib.IntN.{ℤ, pos, neg_ℤ, ◌+ℤ◌, ◌-ℤ◌, ◌*ℤ◌, zero-*ℤ}
use lib.Signed.{le_z, lt_z, le_z_yes, lt_z_yes, <ℤ-≤ℤ_trans}
use Rattle.ints.specs.Order.{◌≤ᶻ◌, ◌<ᶻ◌}
use Rattle.ints.proofs.Ring.{◌⊕◌, ◌⊖◌, ◌⊗◌, ⊝◌, ◌≐◌, con}
use Rattle.ints.proofs.Order.{nn_nat, nn_add, nn_mul, nn_zero, pos_nn, pos-mul, nn_add_pos, neg_pos, pos-cancel, antisymmetric}
use Rattle.lp.specs.declared.Constraint.{Constraint}
use Rattle.lp.specs.declared.Point.{Point}
use Rattle.lp.specs.Program.{constraint, slack, Keeps, Feasible}
use Rattle.lp.specs.Textbook.{Infeasible}
use Rattle.lp.specs.Outcome.{det, meet, every}
use Rattle.lp.specs.Certificate.{Weighted, total, distinct, greatest_weight, is_zero, certifies}
use Rattle.model.specs.Scan.{reversed, facing}
use Rattle.model.specs.Step.{line_weight}
use Rattle.theory.proofs.Solver.{equal, nn_by, pos-by, clash-by, C, P, Z, slackᵖ, detᵖ, meetᵖ}
use Rattle.theory.proofs.Lists.{and_left, and_right, every-at, get_or-member}
use Rattle.theory.proofs.Line.{reversedᵖ}

-- ---- a valid certificate excludes every point

abbrev part_a : Constraint → ℤ
part_a r = r.a

abbrev part_b : Constraint → ℤ
part_b r = r.b

abbrev part_c : Constraint → ℤ
part_c r = r.c

-- weights and entries, one by one
pub record Sound (S : List Constraint) (w : Weighted) : Type 0 where
  pub positive : pos 0 <ᶻ w.weight
  pub entered : w.entry < length S

module _ (S : List Constraint) (v : Point) (feasible : Feasible S v) where
  -- the weighted sum of slacks is not negative
  weighted-slack :
      (l : List Weighted) →
      ((w : Weighted) → Memᴰ w l → Sound S w) →
      pos 0 ≤ᶻ total part_c S l *ℤ v.d -ℤ (total part_a S l *ℤ v.x +ℤ total part_b S l *ℤ v.y)
  weighted-slack [] sound =
      nn_by (P ∷ []) (λ v. con (pos 0) ⊗ v.d ⊖ (con (pos 0) ⊗ v.x ⊕ con (pos 0) ⊗ v.y) ≐ con (pos 0)) refl v (nn_nat 0)
  weighted-slack (w ∷ l) sound =
      nn_by (C ∷ P ∷ Z ∷ Z ∷ Z ∷ Z ∷ [])
      (λ r v u a b c. (u ⊗ r.c ⊕ c) ⊗ v.d ⊖ ((u ⊗ r.a ⊕ a) ⊗ v.x ⊕ (u ⊗ r.b ⊕ b) ⊗ v.y)
      ≐ u ⊗ slackᵖ r v ⊕ (c ⊗ v.d ⊖ (a ⊗ v.x ⊕ b ⊗ v.y))) refl
      (get_or S w.entry (constraint (pos 0) (pos 0) (pos 0))) v w.weight (total part_a S l) (total part_b S l) (total part_c S l)
      (nn_add
      (nn_mul (pos_nn here.positive)
      (feasible.kept (get_or S w.entry (constraint (pos 0) (pos 0) (pos 0)))
      (get_or-member S w.entry (constraint (pos 0) (pos 0) (pos 0)) here.entered)))
      (weighted-slack l (λ u i. sound u (Memᴰ.tail i))))
    where
      here : Sound S w
      here = sound w (Memᴰ.head refl)

-- a sum in which a and b cancel and c falls below 0
pub record Refutes (S : List Constraint) (l : List Weighted) : Type 0 where
  pub sound : (w : Weighted) → Memᴰ w l → Sound S w
  pub cancels_a : total part_a S l ≡ pos 0
  pub cancels_b : total part_b S l ≡ pos 0
  pub falls : total part_c S l <ᶻ pos 0

pub refutation_excludes : (S : List Constraint) (l : List Weighted) → Refutes S l → Infeasible S
refutation_excludes S l r v h =
    clash-by (P ∷ Z ∷ Z ∷ Z ∷ [])
    (λ v a b c. c ⊗ v.d ⊖ (a ⊗ v.x ⊕ b ⊗ v.y) ⊕ a ⊗ v.x ⊕ b ⊗ v.y ⊕ ⊝ c ⊗ v.d) refl v (total part_a S l) (total part_b S l)
    (total part_c S l)
    (nn_add_pos
    (nn_add
    (nn_add (weighted-slack S v h l r.sound) (nn_zero (ap (λ z. z *ℤ v.x) r.cancels_a ∙ zero-*ℤ v.x)))
    (nn_zero (ap (λ z. z *ℤ v.y) r.cancels_b ∙ zero-*ℤ v.y)))
    (pos-mul (neg_pos r.falls) h.proper))

pub is-zero : (z : ℤ) → T (is_zero z) → z ≡ pos 0
is-zero z t = antisymmetric (le_z_yes (and_left (le_z z (pos 0)) (le_z (pos 0) z) t)) (le_z_yes (and_right (le_z z (pos 0)) (le_z (pos 0) z) t))

-- ---- three weights

module _ (h k m : Constraint) (v : Point) (proper : pos 0 <ᶻ v.d) (breaks : slack h v <ᶻ pos 0) (keeps-k : Keeps k v)
    (keeps-m : Keeps m v) where
  -- what v says of the sum of slacks: all but h's part is positive
  others :
      (l : Constraint) →
      pos 0 <ᶻ det k l →
      pos 0 ≤ᶻ det l m →
      slack m (meet k l) <ᶻ pos 0 →
      pos 0 <ᶻ det k l *ℤ slack m v +ℤ det l m *ℤ slack k v +ℤ neg_ℤ (slack m (meet k l)) *ℤ v.d
  others l crosses away broken =
      nn_add_pos (nn_add (nn_mul (pos_nn crosses) keeps-m) (nn_mul away keeps-k)) (pos-mul (neg_pos broken) proper)

  pub line-weight-positive :
      (side : Bool) →
      pos 0 <ᶻ det k (facing side h) →
      pos 0 ≤ᶻ det (facing side h) m →
      slack m (meet k (facing side h)) <ᶻ pos 0 →
      pos 0 <ᶻ line_weight side k m
  line-weight-positive true crosses away broken =
      pos-cancel (neg_pos breaks)
      (pos-by (C ∷ C ∷ C ∷ P ∷ [])
      (λ l k m v. ⊝ slackᵖ l v ⊗ detᵖ m k ≐ detᵖ k l ⊗ slackᵖ m v ⊕ detᵖ l m ⊗ slackᵖ k v ⊕ ⊝ slackᵖ m (meetᵖ k l) ⊗ v.d) refl h k m v
      (others h crosses away broken))
  line-weight-positive false crosses away broken =
      pos-cancel (neg_pos breaks)
      (pos-by (C ∷ C ∷ C ∷ P ∷ [])
      (λ h k m v. ⊝ slackᵖ h v ⊗ detᵖ k m
      ≐ detᵖ k (reversedᵖ h) ⊗ slackᵖ m v ⊕ detᵖ (reversedᵖ h) m ⊗ slackᵖ k v ⊕ ⊝ slackᵖ m (meetᵖ k (reversedᵖ h)) ⊗ v.d) refl h k m v
      (others (reversed h) crosses away broken))

-- with these weights a and b cancel, and c sums to the slack of m at the meeting point
pub weights-cancel-a :
    (side : Bool) (h k m : Constraint) →
    line_weight side k m *ℤ h.a +ℤ (det (facing side h) m *ℤ k.a +ℤ (det k (facing side h) *ℤ m.a +ℤ pos 0)) ≡ pos 0
weights-cancel-a true =
    equal (C ∷ C ∷ C ∷ []) (λ h k m. detᵖ m k ⊗ h.a ⊕ (detᵖ h m ⊗ k.a ⊕ (detᵖ k h ⊗ m.a ⊕ con (pos 0))) ≐ con (pos 0)) refl
weights-cancel-a false =
    equal (C ∷ C ∷ C ∷ []) (λ h k m. detᵖ k m ⊗ h.a ⊕ (detᵖ (reversedᵖ h) m ⊗ k.a ⊕ (detᵖ k (reversedᵖ h) ⊗ m.a ⊕ con (pos 0)))
    ≐ con (pos 0)) refl

pub weights-cancel-b :
    (side : Bool) (h k m : Constraint) →
    line_weight side k m *ℤ h.b +ℤ (det (facing side h) m *ℤ k.b +ℤ (det k (facing side h) *ℤ m.b +ℤ pos 0)) ≡ pos 0
weights-cancel-b true =
    equal (C ∷ C ∷ C ∷ []) (λ h k m. detᵖ m k ⊗ h.b ⊕ (detᵖ h m ⊗ k.b ⊕ (detᵖ k h ⊗ m.b ⊕ con (pos 0))) ≐ con (pos 0)) refl
weights-cancel-b false =
    equal (C ∷ C ∷ C ∷ []) (λ h k m. detᵖ k m ⊗ h.b ⊕ (detᵖ (reversedᵖ h) m ⊗ k.b ⊕ (detᵖ k (reversedᵖ h) ⊗ m.b ⊕ con (pos 0)))
    ≐ con (pos 0)) refl

pub weights-sum-c :
    (side : Bool) (h k m : Constraint) →
    line_weight side k m *ℤ h.c +ℤ (det (facing side h) m *ℤ k.c +ℤ (det k (facing side h) *ℤ m.c +ℤ pos 0))
    ≡ slack m (meet k (facing side h))
weights-sum-c true =
    equal (C ∷ C ∷ C ∷ []) (λ h k m. detᵖ m k ⊗ h.c ⊕ (detᵖ h m ⊗ k.c ⊕ (detᵖ k h ⊗ m.c ⊕ con (pos 0))) ≐ slackᵖ m (meetᵖ k h)) refl
weights-sum-c false =
    equal (C ∷ C ∷ C ∷ []) (λ h k m. detᵖ k m ⊗ h.c ⊕ (detᵖ (reversedᵖ h) m ⊗ k.c ⊕ (detᵖ k (reversedᵖ h) ⊗ m.c ⊕ con (pos 0)))
    ≐ slackᵖ m (meetᵖ k (reversedᵖ h))) refl

-- ---- the test of `lp` says so

module _ (S : List Constraint) (l : List Weighted) where
  abbrev entered : Bool
  entered = every (λ w. ltb w.entry (length S)) l

  abbrev sized : Bool
  sized = every (λ w. le_z (pos 1) w.weight && le_z w.weight greatest_weight) l

  abbrev shaped : Bool
  shaped = ltb 0 (length l) && leb (length l) 3 && distinct l

  module _ (t : T (certifies S l)) where
    to-b : T (shaped && entered && sized && is_zero (total part_a S l) && is_zero (total part_b S l))
    to-b = and_left (shaped && entered && sized && is_zero (total part_a S l) && is_zero (total part_b S l)) (lt_z (total part_c S l) (pos 0)) t

    to-a : T (shaped && entered && sized && is_zero (total part_a S l))
    to-a = and_left (shaped && entered && sized && is_zero (total part_a S l)) (is_zero (total part_b S l)) to-b

    to-weights : T (shaped && entered && sized)
    to-weights = and_left (shaped && entered && sized) (is_zero (total part_a S l)) to-a

    entries : T entered
    entries = and_right shaped entered (and_left (shaped && entered) sized to-weights)

    -- weights are from 1 to document 01's greatest
    pub certificate-weights :
        (w : Weighted) →
        Memᴰ w l →
        (pos 1 ≤ᶻ w.weight) × (w.weight ≤ᶻ greatest_weight)
    certificate-weights w i = (
      le_z_yes (and_left (le_z (pos 1) w.weight) (le_z w.weight greatest_weight) both),
      le_z_yes
          (and_right (le_z (pos 1) w.weight) (le_z w.weight greatest_weight) both),
    )
      where
        both : T (le_z (pos 1) w.weight && le_z w.weight greatest_weight)
        both =
            every-at (λ w. le_z (pos 1) w.weight && le_z w.weight greatest_weight) l (and_right (shaped && entered) sized to-weights) w
            i

    pub certificate-refutes : Refutes S l
    certificate-refutes =
        record {
          sound =
              λ w i. record {
                positive = <ℤ-≤ℤ_trans {b = pos 1} (lt_z_yes tt) (certificate-weights w i).0;
                entered = ltb→lt w.entry
                    (length S) (every-at (λ w. ltb w.entry (length S)) l entries w i);
              };
          cancels_a = is-zero (total part_a S l) (and_right (shaped && entered && sized) (is_zero (total part_a S l)) to-a);
          cancels_b =
              is-zero (total part_b S l)
              (and_right (shaped && entered && sized && is_zero (total part_a S l)) (is_zero (total part_b S l)) to-b);
          falls =
              lt_z_yes (and_right (shaped && entered && sized && is_zero (total part_a S l) && is_zero (total part_b S l))
              (lt_z (total part_c S l) (pos 0)) t);
        }

  -- a valid certificate excludes every point, whatever its size
  pub certificate_excludes : T (certifies S l) → Infeasible S
  certificate_excludes t = refutation_excludes S l (certificate-refutes t)
