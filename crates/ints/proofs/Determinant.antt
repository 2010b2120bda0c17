-- The largest determinant of three rows (a, x, k): 4·m·n·l where every a is within m, x within n and k within l, and not the 6·m·n·l of
-- its six terms. Three points in a box of 2m by 2n span a triangle of at most half of it, `turn_small`; with the points turned to face
-- the signs of the minors this says that the three minors' magnitudes together are at most 4·m·n, `minors-small`.
use mathlib.Core.Path.{◌≡◌, refl, ◌∙◌, ap, subst}
use mathlib.Core.Logic.{◌⊎◌, inl, inr}
use Prim.Native.Nat.{ℕ, ◌+◌, ◌*◌, ◌≤◌}
use native.Mathlib.Nat.{le_trans, mul-le-mul_right, add-mul}
use native.Mathlib.Omega.{arith}
use lib.Dec.{leb→le}
use lib.IntN.{ℤ, pos, negsuc, nat_abs, neg_ℤ, ◌+ℤ◌, ◌-ℤ◌, ◌*ℤ◌}
use Rattle.ints.specs.Order.{◌≤ᶻ◌, ◌<ᶻ◌}
use Rattle.ints.specs.Within.{Within}
use Rattle.ints.proofs.Laws.{one-mul, neg_mul}
use Rattle.ints.proofs.Ring.{ring, ◌⊕◌, ◌⊖◌, ◌⊗◌, ⊝◌, ◌≐◌, con}
use Rattle.ints.proofs.Order as order
use Rattle.ints.proofs.Order.{nn_add, nn_mul, nn_nat, sub_nn, lt_le, le_or_lt}
use Rattle.ints.proofs.Combine.{by_le, ◌≼◌by◌}
use Rattle.ints.proofs.Machine.{within_le, within_neg, within-add, within-mul}

-- ---- three points in a box

pub record Boxed (m n : ℕ) (a x : ℤ) : Type 0 where
  pub across : Within m a
  pub up : Within n x

-- twice the triangle's area, with the sign of the way round
abbrev turn : ℤ → ℤ → ℤ → ℤ → ℤ → ℤ → ℤ
turn a x b y c z = a *ℤ (y -ℤ z) +ℤ b *ℤ (z -ℤ x) +ℤ c *ℤ (x -ℤ y)

rotate : (a x b y c z : ℤ) → turn b y c z a x ≡ turn a x b y c z
rotate = ring 6 (λ a x b y c z. b ⊗ (z ⊖ x) ⊕ c ⊗ (x ⊖ y) ⊕ a ⊗ (y ⊖ z) ≐ a ⊗ (y ⊖ z) ⊕ b ⊗ (z ⊖ x) ⊕ c ⊗ (x ⊖ y)) refl

below : {m : ℕ} {z : ℤ} → Within m z → pos 0 ≤ᶻ pos m -ℤ z
below h = sub_nn (within_le h)

above : {m : ℕ} {z : ℤ} → Within m z → pos 0 ≤ᶻ pos m -ℤ neg_ℤ z
above h = sub_nn (within_le (within_neg h))

module _ {m n : ℕ} {a x b y c z : ℤ} (A : Boxed m n a x) (B : Boxed m n b y) (C : Boxed m n c z) where
  -- z is between the other two
  rising : x ≤ᶻ z → z ≤ᶻ y → turn a x b y c z ≤ᶻ pos 4 *ℤ pos m *ℤ pos n
  rising h k =
      by_le 8
      (λ m n a x b y c z. a ⊗ (y ⊖ z) ⊕ b ⊗ (z ⊖ x) ⊕ c ⊗ (x ⊖ y)
      ≼ con (pos 4) ⊗ m ⊗ n by (m ⊖ a) ⊗ (y ⊖ z) ⊕ (m ⊖ b) ⊗ (z ⊖ x) ⊕ (m ⊖ ⊝ c) ⊗ (y ⊖ x) ⊕ (m ⊕ m) ⊗ (n ⊖ y ⊕ (n ⊖ ⊝ x)))
      refl (pos m) (pos n) a x b y c z
      (nn_add (nn_add (nn_add (nn_mul (below A.across) (sub_nn k)) (nn_mul (below B.across) (sub_nn h)))
      (nn_mul (above C.across) (sub_nn (order.le_trans h k)))) (nn_mul (nn_nat (m + m)) (nn_add (below B.up) (above A.up))))

  falling : y ≤ᶻ z → z ≤ᶻ x → turn a x b y c z ≤ᶻ pos 4 *ℤ pos m *ℤ pos n
  falling h k =
      by_le 8
      (λ m n a x b y c z. a ⊗ (y ⊖ z) ⊕ b ⊗ (z ⊖ x) ⊕ c ⊗ (x ⊖ y)
      ≼ con (pos 4) ⊗ m ⊗ n by (m ⊖ ⊝ a) ⊗ (z ⊖ y) ⊕ (m ⊖ ⊝ b) ⊗ (x ⊖ z) ⊕ (m ⊖ c) ⊗ (x ⊖ y) ⊕ (m ⊕ m) ⊗ (n ⊖ x ⊕ (n ⊖ ⊝ y)))
      refl (pos m) (pos n) a x b y c z
      (nn_add (nn_add (nn_add (nn_mul (above A.across) (sub_nn h)) (nn_mul (above B.across) (sub_nn k)))
      (nn_mul (below C.across) (sub_nn (order.le_trans h k)))) (nn_mul (nn_nat (m + m)) (nn_add (below A.up) (above B.up))))

module _ {m n : ℕ} {a x b y c z : ℤ} (A : Boxed m n a x) (B : Boxed m n b y) (C : Boxed m n c z) where
  pub turn_small : turn a x b y c z ≤ᶻ pos 4 *ℤ pos m *ℤ pos n
  turn_small = go (le_or_lt x z) (le_or_lt z y) (le_or_lt y x)
    where
      Small : ℤ → Type 0
      Small t = t ≤ᶻ pos 4 *ℤ pos m *ℤ pos n

      once : Small (turn b y c z a x) → Small (turn a x b y c z)
      once h = subst Small (rotate a x b y c z) h

      twice : Small (turn c z a x b y) → Small (turn a x b y c z)
      twice h = once (subst Small (rotate b y c z a x) h)

      -- which of the three is between the others
      go : (x ≤ᶻ z) ⊎ (z <ᶻ x) → (z ≤ᶻ y) ⊎ (y <ᶻ z) → (y ≤ᶻ x) ⊎ (x <ᶻ y) → Small (turn a x b y c z)
      go (inl h) (inl k) l = rising A B C h k
      go (inl h) (inr k) (inl l) = once (rising B C A l h)
      go (inl h) (inr k) (inr l) = twice (falling C A B (lt_le l) (lt_le k))
      go (inr h) (inl k) (inl l) = twice (rising C A B k l)
      go (inr h) (inl k) (inr l) = once (falling B C A (lt_le h) (lt_le l))
      go (inr h) (inr k) l = falling A B C (lt_le k) (lt_le h)

-- ---- the three minors

-- 1 or −1, which makes z's magnitude of z
record Facing (z : ℤ) : Type 0 where
  unit : ℤ
  small : Within 1 unit
  square : unit *ℤ unit ≡ pos 1
  whole : unit *ℤ z ≡ pos (nat_abs z)

facing : (z : ℤ) → Facing z
facing (pos n) = record { unit = pos 1; small = record { small = omega arith }; square = refl; whole = one-mul (pos n) }
facing (negsuc n) =
    record {
      unit = negsuc 0;
      small = record { small = omega arith };
      square = refl;
      whole = neg_mul (pos 1) (negsuc n)
          ∙ ap neg_ℤ (one-mul (negsuc n));
    }

turned : {m : ℕ} {e a : ℤ} → Within 1 e → Within m a → Within m (e *ℤ a)
turned h k = record { small = omega (arith, (within-mul h k).small) }

abbrev pub minor : ℤ → ℤ → ℤ → ℤ → ℤ
minor a x b y = a *ℤ y -ℤ b *ℤ x

-- the points turned by e, f and g, and their heights by e·f·g, span the minors' magnitudes
turned-points :
    (e f g a x b y c z : ℤ) →
    turn (e *ℤ a) (e *ℤ f *ℤ g *ℤ (e *ℤ x)) (f *ℤ b) (e *ℤ f *ℤ g *ℤ (f *ℤ y)) (g *ℤ c) (e *ℤ f *ℤ g *ℤ (g *ℤ z))
    ≡ f *ℤ f *ℤ (g *ℤ g) *ℤ (e *ℤ minor b y c z) +ℤ e *ℤ e *ℤ (g *ℤ g) *ℤ (f *ℤ minor c z a x)
    +ℤ e *ℤ e *ℤ (f *ℤ f) *ℤ (g *ℤ minor a x b y)
turned-points =
    ring 9
    (λ e f g a x b y c z. e ⊗ a ⊗ (e ⊗ f ⊗ g ⊗ (f ⊗ y) ⊖ e ⊗ f ⊗ g ⊗ (g ⊗ z)) ⊕ f ⊗ b ⊗ (e ⊗ f ⊗ g ⊗ (g ⊗ z) ⊖ e ⊗ f ⊗ g ⊗ (e ⊗ x))
    ⊕ g ⊗ c ⊗ (e ⊗ f ⊗ g ⊗ (e ⊗ x) ⊖ e ⊗ f ⊗ g ⊗ (f ⊗ y))
    ≐ f ⊗ f ⊗ (g ⊗ g) ⊗ (e ⊗ (b ⊗ z ⊖ c ⊗ y)) ⊕ e ⊗ e ⊗ (g ⊗ g) ⊗ (f ⊗ (c ⊗ x ⊖ a ⊗ z)) ⊕ e ⊗ e ⊗ (f ⊗ f) ⊗ (g ⊗ (a ⊗ y ⊖ b ⊗ x)))
    refl

module _ {m n : ℕ} {a x b y c z : ℤ} (A : Boxed m n a x) (B : Boxed m n b y) (C : Boxed m n c z) where
  pub minors_small : nat_abs (minor b y c z) + nat_abs (minor c z a x) + nat_abs (minor a x b y) ≤ 4 * m * n
  minors_small =
      leb→le (nat_abs (minor b y c z) + nat_abs (minor c z a x) + nat_abs (minor a x b y)) (4 * m * n)
      (subst (λ t. t ≤ᶻ pos 4 *ℤ pos m *ℤ pos n) magnitudes (turn_small (box E A) (box F B) (box G C))).le
    where
      E : Facing (minor b y c z)
      E = facing (minor b y c z)

      F : Facing (minor c z a x)
      F = facing (minor c z a x)

      G : Facing (minor a x b y)
      G = facing (minor a x b y)

      k : ℤ
      k = E.unit *ℤ F.unit *ℤ G.unit

      box : {u a x : ℤ} → (U : Facing u) → Boxed m n a x → Boxed m n (U.unit *ℤ a) (k *ℤ (U.unit *ℤ x))
      box U A =
          record {
            across = turned U.small A.across;
            up = turned (turned (turned E.small F.small) G.small)
                (turned U.small A.up);
          }

      magnitudes :
          turn (E.unit *ℤ a) (k *ℤ (E.unit *ℤ x)) (F.unit *ℤ b) (k *ℤ (F.unit *ℤ y)) (G.unit *ℤ c) (k *ℤ (G.unit *ℤ z))
          ≡ pos (nat_abs (minor b y c z)) +ℤ pos (nat_abs (minor c z a x)) +ℤ pos (nat_abs (minor a x b y))
      magnitudes =
          turned-points E.unit F.unit G.unit a x b y c z
          ∙ (λ i. F.square i *ℤ G.square i *ℤ E.whole i +ℤ E.square i *ℤ G.square i *ℤ F.whole i
          +ℤ E.square i *ℤ F.square i *ℤ G.whole i)
          ∙ ring 3 (λ p q r. con (pos 1) ⊗ con (pos 1) ⊗ p ⊕ con (pos 1) ⊗ con (pos 1) ⊗ q ⊕ con (pos 1) ⊗ con (pos 1) ⊗ r
          ≐ p ⊕ q ⊕ r) refl (pos (nat_abs (minor b y c z))) (pos (nat_abs (minor c z a x))) (pos (nat_abs (minor a x b y)))

-- ---- the determinant

spread : (p q r s l : ℕ) → p + q + r ≤ s → p * l + q * l + r * l ≤ s * l
spread p q r s l h = omega (arith, mul-le-mul_right l h, add-mul (p + q) r l, add-mul p q l)

self : (z : ℤ) → Within (nat_abs z) z
self z = record { small = omega arith }

module _ {m n l : ℕ} {a x i b y j c z k : ℤ} (A : Boxed m n a x) (B : Boxed m n b y) (C : Boxed m n c z) (hi : Within l i)
    (hj : Within l j) (hk : Within l k) where
  pub determinant-small : Within (4 * m * n * l) (minor b y c z *ℤ i +ℤ minor c z a x *ℤ j +ℤ minor a x b y *ℤ k)
  determinant-small =
      record {
        small =
            le_trans (within-add (within-add (within-mul (self (minor b y c z)) hi) (within-mul (self (minor c z a x)) hj))
            (within-mul (self (minor a x b y)) hk)).small
            (spread (nat_abs (minor b y c z)) (nat_abs (minor c z a x)) (nat_abs (minor a x b y)) (4 * m * n) l (minors_small A B C));
      }
