-- At a best pair the pass finds the entries that prove it. Of the entries that are tight there, the nearest normals on either side of the
-- objective f enclose it, or one has its direction; else a direction would gain that leaves none of them, and a small step along it would
-- be allowed and gain more.
use mathlib.Core.Path.{◌≡◌, refl, sym, subst}
use mathlib.Core.List.Memᴰ
use mathlib.Core.List.{List, [], ◌∷◌, Memᴰ}
use Prim.Native.Nat.{ℕ, ◌≤◌}
use native.Mathlib.Omega.{arith}
use lib.IntN.{ℤ, pos, nat_abs, ◌+ℤ◌, ◌-ℤ◌, ◌*ℤ◌}
use lib.Signed.{clash_ℤ}
use Rattle.ints.specs.Order.{◌≤ᶻ◌, ◌<ᶻ◌}
use Rattle.ints.proofs.Ring.{◌⊕◌, ◌⊖◌, ◌⊗◌, ⊝◌, ◌≐◌, con}
use Rattle.ints.proofs.Order.{Sign, minus, nought, plus, sign, nn_nat, pos_nat}
use Rattle.ints.proofs.Order.{nn_add, nn_mul, pos_nn, pos-mul, pos-add_nn}
use Rattle.ints.proofs.Order.{pos-elim, neg_nn}
use Rattle.ints.proofs.Order.{sub_nn, pos-sub}
use Rattle.ints.proofs.Machine.{within_le, one_le}
use Rattle.lp.specs.declared.Constraint.{Constraint}
use Rattle.lp.specs.declared.Functional.{Functional}
use Rattle.lp.specs.declared.Point.{Point}
use Rattle.lp.specs.declared.Ray.{Ray}
use Rattle.lp.specs.Program.{point, slack, Feasible, gain, along, rise}
use Rattle.theory.proofs.Solver.{nn_by, pos-by, C, F, P, R, Z, slackᵖ, gainᵖ, alongᵖ, riseᵖ}
use Rattle.theory.proofs.Lists.{for-members}

-- ---- a direction that leaves no tight entry and gains cannot be where no allowed pair gains more

-- v with M times its numbers, and the ray added
abbrev beyond : ℤ → Point → Ray → Point
beyond m v d = point (m *ℤ v.x +ℤ d.dx) (m *ℤ v.y +ℤ d.dy) (m *ℤ v.d)

module _ (v : Point) (d : Ray) where
  -- a multiple from which on every entry is kept
  pub record Enough (S : List Constraint) : Type 0 where
    pub from : ℤ
    pub positive : pos 0 <ᶻ from
    pub kept : (k : ℤ) → pos 0 ≤ᶻ k → (r : Constraint) → Memᴰ r S → pos 0 ≤ᶻ (from +ℤ k) *ℤ slack r v -ℤ rise r d

  abbrev size : Constraint → ℤ
  size r = pos (nat_abs (rise r d))

  size_above : (r : Constraint) → pos 0 ≤ᶻ size r -ℤ rise r d
  size_above r = sub_nn {a = rise r d} {b = size r} (within_le {z = rise r d} (record { small = le_refl (nat_abs (rise r d)) }))
    where
      le_refl : (n : ℕ) → n ≤ n
      le_refl n = omega arith

  less : {k : ℤ} → pos 0 <ᶻ k → pos 0 ≤ᶻ k -ℤ pos 1
  less p = pos-elim (λ z. pos 0 ≤ᶻ z -ℤ pos 1) (λ n. sub_nn (one_le n)) p

  -- one entry: tight and not left, or not tight
  one_kept : (r : Constraint) →
      pos 0 ≤ᶻ slack r v →
      (slack r v ≡ pos 0 → rise r d ≤ᶻ pos 0) →
      (m : ℤ) →
      pos 0 ≤ᶻ m →
      pos 0 ≤ᶻ (m +ℤ size r) *ℤ slack r v -ℤ rise r d
  one_kept r h stays m hm = go (sign (slack r v))
    where
      go : Sign (slack r v) → pos 0 ≤ᶻ (m +ℤ size r) *ℤ slack r v -ℤ rise r d
      go (minus n) = clash_ℤ n h
      go (nought e) =
          subst (λ z. pos 0 ≤ᶻ (m +ℤ size r) *ℤ z -ℤ rise r d) (sym e)
          (nn_by (Z ∷ Z ∷ Z ∷ []) (λ m s z. (m ⊕ s) ⊗ con (pos 0) ⊖ z ≐ ⊝ z) refl m (size r) (rise r d) (neg_nn (stays e)))
      go (plus p) =
          nn_by (Z ∷ Z ∷ Z ∷ Z ∷ []) (λ m s z k. (m ⊕ s) ⊗ k ⊖ z ≐ m ⊗ k ⊕ (s ⊗ (k ⊖ con (pos 1)) ⊕ (s ⊖ z))) refl m (size r) (rise r d)
          (slack r v)
          (nn_add (nn_mul hm (pos_nn p)) (nn_add (nn_mul (nn_nat (nat_abs (rise r d))) (less p)) (size_above r)))

  enough : (S : List Constraint) →
      ((r : Constraint) → Memᴰ r S → pos 0 ≤ᶻ slack r v) →
      ((r : Constraint) → Memᴰ r S → slack r v ≡ pos 0 → rise r d ≤ᶻ pos 0) →
      Enough S
  enough [] h stays =
      record { from = pos 1; positive = pos_nat 0; kept = λ k hk r i. absurd (Memᴰ.not-nil i) }
  enough (r ∷ S) h stays = step (enough S (λ s i. h s (Memᴰ.tail i)) (λ s i. stays s (Memᴰ.tail i)))
    where
      here : pos 0 ≤ᶻ slack r v
      here = h r (Memᴰ.head refl)

      step : Enough S → Enough (r ∷ S)
      step e =
          record {
            from = e.from +ℤ size r;
            positive = pos-add_nn e.positive (nn_nat (nat_abs (rise r d)));
            kept = λ k hk. for-members (λ s. pos 0 ≤ᶻ (e.from +ℤ size r +ℤ k) *ℤ slack s v -ℤ rise s d) r S
                (nn_by (Z ∷ Z ∷ Z ∷ Z ∷ Z ∷ []) (λ m s k x z. (m ⊕ s ⊕ k) ⊗ x ⊖ z ≐ (m ⊕ k ⊕ s) ⊗ x ⊖ z) refl e.from (size r) k
                (slack r v)
                (rise r d)
                (one_kept r here (stays r (Memᴰ.head refl)) (e.from +ℤ k) (nn_add (pos_nn e.positive) hk)))
                (λ s i. nn_by (Z ∷ Z ∷ Z ∷ Z ∷ Z ∷ []) (λ m s k x z. (m ⊕ s ⊕ k) ⊗ x ⊖ z ≐ (m ⊕ (s ⊕ k)) ⊗ x ⊖ z) refl e.from (size r) k
                (slack s v) (rise s d) (e.kept (size r +ℤ k) (nn_add (nn_nat (nat_abs (rise r d))) hk) s i));
          }

pub no_gaining_direction :
    (S : List Constraint) (f : Functional) (v : Point) →
    Feasible S v →
    ((w : Point) → Feasible S w → gain f w *ℤ v.d ≤ᶻ gain f v *ℤ w.d) →
    (d : Ray) →
    ((r : Constraint) → Memᴰ r S → slack r v ≡ pos 0 → rise r d ≤ᶻ pos 0) →
    pos 0 <ᶻ along f d →
    ⊥
no_gaining_direction S f v feasible no_more d stays gains =
    clash_ℤ (pos-sub (pos-by (F ∷ P ∷ R ∷ Z ∷ [])
    (λ f v d m. (f.p ⊗ (m ⊗ v.x ⊕ d.dx) ⊕ f.q ⊗ (m ⊗ v.y ⊕ d.dy)) ⊗ v.d ⊖ gainᵖ f v ⊗ (m ⊗ v.d) ≐ alongᵖ f d ⊗ v.d) refl f v d m
    (pos-mul gains feasible.proper)))
    (no_more (beyond m v d) allowed)
  where
    e : Enough v d S
    e = enough v d S feasible.kept stays

    m : ℤ
    m = e.from

    allowed : Feasible S (beyond m v d)
    allowed =
        record {
          proper = pos-mul e.positive feasible.proper;
          kept = λ r i. nn_by (C ∷ P ∷ R ∷ Z ∷ [])
              (λ r v d m. r.c ⊗ (m ⊗ v.d) ⊖ (r.a ⊗ (m ⊗ v.x ⊕ d.dx) ⊕ r.b ⊗ (m ⊗ v.y ⊕ d.dy))
              ≐ (m ⊕ con (pos 0)) ⊗ slackᵖ r v ⊖ riseᵖ r d) refl r v d m (e.kept (pos 0) (nn_nat 0) r i);
        }
