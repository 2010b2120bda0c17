-- The order of points by x and then y. It is decided by cross products with the denominators, which are positive; it goes on from point to
-- point, no two points come before each other, and of two points in lowest terms one comes before the other unless they are the same.
use mathlib.Core.Path.{◌≡◌, refl, sym, ◌∙◌, ap, subst}
use mathlib.Core.Bool.{Bool, true, false, not}
use mathlib.Core.Logic.{◌⊎◌, inl, inr}
use lib.Dec.{T}
use lib.IntN.{ℤ, pos, ◌+ℤ◌, ◌-ℤ◌, ◌*ℤ◌, +ℤ_invr}
use lib.Signed.{lt_z, lt_z_yes, lt_z_no, clash_ℤ}
use Rattle.ints.specs.Order.{◌≤ᶻ◌, ◌<ᶻ◌}
use Rattle.ints.proofs.Ring.{ring, ◌⊕◌, ◌⊖◌, ◌⊗◌, ◌≐◌}
use Rattle.ints.proofs.Order.{nn_add, nn_add_pos, nn_mul, pos-mul, pos_nn, pos-add_nn, nn_cancel, pos-cancel}
use Rattle.ints.proofs.Order.{sub_nn, sub-pos, pos-sub, nn_sub}
use Rattle.ints.proofs.Order.{lt_le, le_of_eq, antisymmetric, le_or_lt}
use Rattle.lp.specs.declared.Point.{Point}
use Rattle.lp.specs.Program.{between}
use Rattle.lp.specs.Corners.{less, before}
use Rattle.theory.proofs.Lists.{is_true, is_false}
use Rattle.theory.proofs.Direction.{Null}
use Rattle.theory.proofs.Reduction.{LowestTerms, lowest-unique}

-- ---- what the test decides

-- v comes before w: its x is smaller, or it is the same and its y is smaller
abbrev pub Before : Point → Point → Type 0
Before v w =
    (v.x *ℤ w.d <ᶻ w.x *ℤ v.d) ⊎ ((v.x *ℤ w.d ≡ w.x *ℤ v.d) × (v.y *ℤ w.d <ᶻ w.y *ℤ v.d))

module _ (v w : Point) where
  abbrev decided : Bool → Bool → Bool
  decided p q = elim p [ true ↦ true | false ↦ elim q [ true ↦ false | false ↦ less v.y v.d w.y w.d ] ]

  pub before-yes : T (before v w) → Before v w
  before-yes =
      go (less v.x v.d w.x w.d) (less w.x w.d v.x v.d) (λ t. lt_z_yes t) (λ t. lt_z_no t) (λ t. lt_z_no t)
    where
      go :
          (p q : Bool) →
          (T p → v.x *ℤ w.d <ᶻ w.x *ℤ v.d) →
          (T (not p) → w.x *ℤ v.d ≤ᶻ v.x *ℤ w.d) →
          (T (not q) → v.x *ℤ w.d ≤ᶻ w.x *ℤ v.d) →
          T (decided p q) →
          Before v w
      go true q y n m t = inl (y tt)
      go false true y n m t = absurd t
      go false false y n m t = inr (antisymmetric (m tt) (n tt), lt_z_yes t)

  pub before-is : Before v w → T (before v w)
  before-is (inl h) =
      subst (λ p. T (decided p (less w.x w.d v.x v.d))) (sym (is_true (less v.x v.d w.x w.d) h.lt)) tt
  before-is (inr (e, h)) =
      subst (λ p. T (decided p (less w.x w.d v.x v.d)))
      (sym (is_false (less v.x v.d w.x w.d) (λ t. clash_ℤ (lt_z_yes t) (le_of_eq (sym e)))))
      (subst (λ q. T (decided false q)) (sym (is_false (less w.x w.d v.x v.d) (λ t. clash_ℤ (lt_z_yes t) (le_of_eq e)))) h.lt)

  pub asymmetric : Before v w → Before w v → ⊥
  asymmetric (inl h) (inl k) = clash_ℤ h (lt_le k)
  asymmetric (inl h) (inr (e, k)) = clash_ℤ h (le_of_eq e)
  asymmetric (inr (e, h)) (inl k) = clash_ℤ k (le_of_eq e)
  asymmetric (inr (e, h)) (inr (e', k)) = clash_ℤ h (lt_le k)

  -- one comes before the other, or they are level
  pub compared : Before v w ⊎ (Before w v ⊎ Null (between v w))
  compared = go (le_or_lt (v.x *ℤ w.d) (w.x *ℤ v.d)) (le_or_lt (w.x *ℤ v.d) (v.x *ℤ w.d))
    where
      nought : {a b : ℤ} → a ≡ b → b -ℤ a ≡ pos 0
      nought {a} {b} e = ap (λ z. b -ℤ z) e ∙ +ℤ_invr b

      level :
          v.x *ℤ w.d ≡ w.x *ℤ v.d →
          (v.y *ℤ w.d ≤ᶻ w.y *ℤ v.d) ⊎ (w.y *ℤ v.d <ᶻ v.y *ℤ w.d) →
          (w.y *ℤ v.d ≤ᶻ v.y *ℤ w.d) ⊎ (v.y *ℤ w.d <ᶻ w.y *ℤ v.d) →
          Before v w ⊎ (Before w v ⊎ Null (between v w))
      level e (inr h) k = inr (inl (inr (sym e, h)))
      level e (inl h) (inr k) = inl (inr (e, k))
      level e (inl h) (inl k) = inr (inr (record { no_dx = nought e; no_dy = nought (antisymmetric h k) }))

      go :
          (v.x *ℤ w.d ≤ᶻ w.x *ℤ v.d) ⊎ (w.x *ℤ v.d <ᶻ v.x *ℤ w.d) →
          (w.x *ℤ v.d ≤ᶻ v.x *ℤ w.d) ⊎ (v.x *ℤ w.d <ᶻ w.x *ℤ v.d) →
          Before v w ⊎ (Before w v ⊎ Null (between v w))
      go (inr h) k = inr (inl (inl h))
      go (inl h) (inr k) = inl (inl k)
      go (inl h) (inl k) =
          level (antisymmetric h k) (le_or_lt (v.y *ℤ w.d) (w.y *ℤ v.d)) (le_or_lt (w.y *ℤ v.d) (v.y *ℤ w.d))

-- ---- the order goes on: of fractions, and so of points

module _ (x d x' d' x'' d'' : ℤ) (hd : pos 0 <ᶻ d) (hd' : pos 0 <ᶻ d') (hd'' : pos 0 <ᶻ d'') where
  -- d'·(x''·d − x·d'') = d''·(x'·d − x·d') + d·(x''·d' − x'·d'')
  apart : d' *ℤ (x'' *ℤ d -ℤ x *ℤ d'') ≡ d'' *ℤ (x' *ℤ d -ℤ x *ℤ d') +ℤ d *ℤ (x'' *ℤ d' -ℤ x' *ℤ d'')
  apart =
      ring 6 (λ x d x' d' x'' d''. d' ⊗ (x'' ⊗ d ⊖ x ⊗ d'') ≐ d'' ⊗ (x' ⊗ d ⊖ x ⊗ d') ⊕ d ⊗ (x'' ⊗ d' ⊖ x' ⊗ d'')) refl x d x' d' x'' d''

  pub less-less : x *ℤ d' <ᶻ x' *ℤ d → x' *ℤ d'' <ᶻ x'' *ℤ d' → x *ℤ d'' <ᶻ x'' *ℤ d
  less-less h k =
      pos-sub (pos-cancel hd' (subst (λ z. pos 0 <ᶻ z) (sym apart)
      (pos-add_nn (pos-mul hd'' (sub-pos h)) (pos_nn (pos-mul hd (sub-pos k))))))

  pub level-less : x *ℤ d' ≡ x' *ℤ d → x' *ℤ d'' <ᶻ x'' *ℤ d' → x *ℤ d'' <ᶻ x'' *ℤ d
  level-less e k =
      pos-sub (pos-cancel hd' (subst (λ z. pos 0 <ᶻ z) (sym apart)
      (nn_add_pos (nn_mul (pos_nn hd'') (sub_nn (le_of_eq e))) (pos-mul hd (sub-pos k)))))

  pub less-level : x *ℤ d' <ᶻ x' *ℤ d → x' *ℤ d'' ≡ x'' *ℤ d' → x *ℤ d'' <ᶻ x'' *ℤ d
  less-level h e =
      pos-sub (pos-cancel hd' (subst (λ z. pos 0 <ᶻ z) (sym apart)
      (pos-add_nn (pos-mul hd'' (sub-pos h)) (nn_mul (pos_nn hd) (sub_nn (le_of_eq e))))))

  at_most : x *ℤ d' ≤ᶻ x' *ℤ d → x' *ℤ d'' ≤ᶻ x'' *ℤ d' → x *ℤ d'' ≤ᶻ x'' *ℤ d
  at_most h k =
      nn_sub (nn_cancel hd' (subst (λ z. pos 0 ≤ᶻ z) (sym apart)
      (nn_add (nn_mul (pos_nn hd'') (sub_nn h)) (nn_mul (pos_nn hd) (sub_nn k)))))

pub level-level :
    (x d x' d' x'' d'' : ℤ) →
    pos 0 <ᶻ d →
    pos 0 <ᶻ d' →
    pos 0 <ᶻ d'' →
    x *ℤ d' ≡ x' *ℤ d →
    x' *ℤ d'' ≡ x'' *ℤ d' →
    x *ℤ d'' ≡ x'' *ℤ d
level-level x d x' d' x'' d'' hd hd' hd'' e f =
    antisymmetric (at_most x d x' d' x'' d'' hd hd' hd'' (le_of_eq e) (le_of_eq f))
    (at_most x'' d'' x' d' x d hd'' hd' hd (le_of_eq (sym f)) (le_of_eq (sym e)))

pub before_on :
    (u v w : Point) →
    pos 0 <ᶻ u.d →
    pos 0 <ᶻ v.d →
    pos 0 <ᶻ w.d →
    Before u v →
    Before v w →
    Before u w
before_on u v w hu hv hw (inl h) (inl k) = inl (less-less u.x u.d v.x v.d w.x w.d hu hv hw h k)
before_on u v w hu hv hw (inl h) (inr (e, k)) = inl (less-level u.x u.d v.x v.d w.x w.d hu hv hw h e)
before_on u v w hu hv hw (inr (e, h)) (inl k) = inl (level-less u.x u.d v.x v.d w.x w.d hu hv hw e k)
before_on u v w hu hv hw (inr (e, h)) (inr (f, k)) =
    inr (
      level-level u.x u.d v.x v.d w.x w.d hu hv hw e f,
      less-less u.y u.d v.y v.d w.y w.d hu hv hw h k,
    )

-- ---- points in lowest terms

pub record Proper (v : Point) : Type 0 where
  pub positive : pos 0 <ᶻ v.d
  pub lowest : LowestTerms v

pub same_point : (v w : Point) → Proper v → Proper w → Null (between v w) → v ≡ w
same_point v w p q n = lowest-unique v w p.positive q.positive p.lowest q.lowest n

-- neither comes before the other
pub neither-same :
    (v w : Point) →
    Proper v →
    Proper w →
    (T (before v w) → ⊥) →
    (T (before w v) → ⊥) →
    v ≡ w
neither-same v w p q f g = go (compared v w)
  where
    go : Before v w ⊎ (Before w v ⊎ Null (between v w)) → v ≡ w
    go (inl h) = absurd (f (before-is v w h))
    go (inr (inl h)) = absurd (g (before-is w v h))
    go (inr (inr n)) = same_point v w p q n
