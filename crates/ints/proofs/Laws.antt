-- The ring laws of ℤ that the library lacks: the product distributes over the sum and is associative, negation moves out of a product.
-- Each is by recursion on the first factor, through the library's successor and predecessor laws.
use mathlib.Core.Path.{◌≡◌, sym, ◌∙◌, ap, ap₂}
use Prim.Native.Nat.{zero, suc}
use lib.IntN.{ℤ, pos, negsuc, pred_ℤ, neg_ℤ, ◌+ℤ◌, ◌-ℤ◌, ◌*ℤ◌, +ℤ_assoc, +ℤ_comm, +ℤ_idl, +ℤ_idr, +ℤ_invr, +ℤ_invl, suc_ℤ-+ℤ, pred_ℤ-+ℤ}
use lib.IntN.{zero-*ℤ, suc_ℤ-*ℤ, pred_ℤ-*ℤ, *ℤ_comm}

pub add-swap-last : (x y z : ℤ) → x +ℤ y +ℤ z ≡ x +ℤ z +ℤ y
add-swap-last x y z = +ℤ_assoc x y z ∙ ap (λ t. x +ℤ t) (+ℤ_comm y z) ∙ sym (+ℤ_assoc x z y)

pub add-swap-middle : (a b c d : ℤ) → (a +ℤ b) +ℤ (c +ℤ d) ≡ (a +ℤ c) +ℤ (b +ℤ d)
add-swap-middle a b c d =
    sym (+ℤ_assoc (a +ℤ b) c d) ∙ ap (λ t. t +ℤ d) (add-swap-last a b c) ∙ +ℤ_assoc (a +ℤ c) b d

pub mul_distrib_right : (m k c : ℤ) → (m +ℤ k) *ℤ c ≡ m *ℤ c +ℤ k *ℤ c
mul_distrib_right (pos zero) k c =
    ap (λ t. t *ℤ c) (+ℤ_idl k) ∙ sym (ap (λ t. t +ℤ k *ℤ c) (zero-*ℤ c) ∙ +ℤ_idl (k *ℤ c))
mul_distrib_right (pos (suc n)) k c =
    ap (λ t. t *ℤ c) (suc_ℤ-+ℤ (pos n) k)
    ∙ suc_ℤ-*ℤ (pos n +ℤ k) c
    ∙ ap (λ t. t +ℤ c) (mul_distrib_right (pos n) k c)
    ∙ add-swap-last (pos n *ℤ c) (k *ℤ c) c
    ∙ ap (λ t. t +ℤ k *ℤ c) (sym (suc_ℤ-*ℤ (pos n) c))
mul_distrib_right (negsuc zero) k c =
    ap (λ t. t *ℤ c) (pred_ℤ-+ℤ (pos zero) k ∙ ap pred_ℤ (+ℤ_idl k))
    ∙ pred_ℤ-*ℤ k c
    ∙ +ℤ_comm (k *ℤ c) (neg_ℤ c)
    ∙ ap (λ t. t +ℤ k *ℤ c) (sym (pred_ℤ-*ℤ (pos zero) c ∙ ap (λ t. t -ℤ c) (zero-*ℤ c) ∙ +ℤ_idl (neg_ℤ c)))
mul_distrib_right (negsuc (suc n)) k c =
    ap (λ t. t *ℤ c) (pred_ℤ-+ℤ (negsuc n) k)
    ∙ pred_ℤ-*ℤ (negsuc n +ℤ k) c
    ∙ ap (λ t. t -ℤ c) (mul_distrib_right (negsuc n) k c)
    ∙ add-swap-last (negsuc n *ℤ c) (k *ℤ c) (neg_ℤ c)
    ∙ ap (λ t. t +ℤ k *ℤ c) (sym (pred_ℤ-*ℤ (negsuc n) c))

pub mul_distrib_left : (m a b : ℤ) → m *ℤ (a +ℤ b) ≡ m *ℤ a +ℤ m *ℤ b
mul_distrib_left m a b = *ℤ_comm m (a +ℤ b) ∙ mul_distrib_right a b m ∙ ap₂ (λ s t. s +ℤ t) (*ℤ_comm a m) (*ℤ_comm b m)

-- two numbers whose sum is 0 are each other's negation
pub neg_unique : (x y : ℤ) → x +ℤ y ≡ pos zero → x ≡ neg_ℤ y
neg_unique x y e =
    sym (+ℤ_idr x)
    ∙ ap (λ t. x +ℤ t) (sym (+ℤ_invr y))
    ∙ sym (+ℤ_assoc x y (neg_ℤ y))
    ∙ ap (λ t. t +ℤ neg_ℤ y) e
    ∙ +ℤ_idl (neg_ℤ y)

pub neg_mul : (m k : ℤ) → neg_ℤ m *ℤ k ≡ neg_ℤ (m *ℤ k)
neg_mul m k =
    neg_unique (neg_ℤ m *ℤ k) (m *ℤ k) (sym (mul_distrib_right (neg_ℤ m) m k) ∙ ap (λ t. t *ℤ k) (+ℤ_invl m) ∙ zero-*ℤ k)

pub mul_neg : (m k : ℤ) → m *ℤ neg_ℤ k ≡ neg_ℤ (m *ℤ k)
mul_neg m k = *ℤ_comm m (neg_ℤ k) ∙ neg_mul k m ∙ ap neg_ℤ (*ℤ_comm k m)

pub one-mul : (k : ℤ) → pos 1 *ℤ k ≡ k
one-mul k = suc_ℤ-*ℤ (pos zero) k ∙ ap (λ t. t +ℤ k) (zero-*ℤ k) ∙ +ℤ_idl k

pub mul-one : (k : ℤ) → k *ℤ pos 1 ≡ k
mul-one k = *ℤ_comm k (pos 1) ∙ one-mul k

pub mul_assoc : (a b c : ℤ) → (a *ℤ b) *ℤ c ≡ a *ℤ (b *ℤ c)
mul_assoc (pos zero) b c = ap (λ t. t *ℤ c) (zero-*ℤ b) ∙ zero-*ℤ c ∙ sym (zero-*ℤ (b *ℤ c))
mul_assoc (pos (suc n)) b c =
    ap (λ t. t *ℤ c) (suc_ℤ-*ℤ (pos n) b)
    ∙ mul_distrib_right (pos n *ℤ b) b c
    ∙ ap (λ t. t +ℤ b *ℤ c) (mul_assoc (pos n) b c)
    ∙ sym (suc_ℤ-*ℤ (pos n) (b *ℤ c))
mul_assoc (negsuc zero) b c =
    ap (λ t. t *ℤ c) (neg_mul (pos 1) b)
    ∙ neg_mul (pos 1 *ℤ b) c
    ∙ ap neg_ℤ (ap (λ t. t *ℤ c) (one-mul b) ∙ sym (one-mul (b *ℤ c)))
    ∙ sym (neg_mul (pos 1) (b *ℤ c))
mul_assoc (negsuc (suc n)) b c =
    ap (λ t. t *ℤ c) (pred_ℤ-*ℤ (negsuc n) b)
    ∙ mul_distrib_right (negsuc n *ℤ b) (neg_ℤ b) c
    ∙ ap₂ (λ s t. s +ℤ t) (mul_assoc (negsuc n) b c) (neg_mul b c)
    ∙ sym (pred_ℤ-*ℤ (negsuc n) (b *ℤ c))
