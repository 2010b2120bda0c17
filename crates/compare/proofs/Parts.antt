-- A number is its quotient by d times d, and its remainder, which has its sign and is smaller than d. So of two fractions the one with
-- the smaller quotient is the smaller one, and where the quotients are the same, the remainders decide.
use mathlib.Core.Path.{◌≡◌, refl, sym, ◌∙◌, ap, subst}
use mathlib.Core.Bool.{Bool, true, false}
use mathlib.Core.Logic.{◌⊎◌, inl, inr}
use Prim.Native.Nat.{ℕ, suc, ◌+◌, ◌*◌, ◌/◌, ◌%◌, ◌<◌}
use native.Mathlib.Nat.{mod-lt, div-add-mod}
use native.Mathlib.Omega.{arith}
use lib.Dec.{T, lt→ltb, le→leb}
use lib.IntN.{ℤ, pos, negsuc, neg_ℤ, ◌+ℤ◌, ◌-ℤ◌, ◌*ℤ◌}
use lib.Signed.{lt_z, lt_z_yes, le_z_yes, quot_z, rem_z, clash_ℤ}
use Rattle.ints.specs.Order.{◌≤ᶻ◌, ◌<ᶻ◌}
use Rattle.ints.proofs.Ring.{ring, ◌⊕◌, ◌⊖◌, ◌⊗◌, ⊝◌, ◌≐◌, con}
use Rattle.ints.proofs.Order.{nn_nat, nn_add, nn_mul, pos-mul, pos_nn, pos-add_nn, nn_add_pos, pos-elim, neg_nn, nn_neg}
use Rattle.ints.proofs.Order.{sub-pos, pos-sub, sub_nn, nn_sub, lt_le, le_trans}
use Rattle.lp.specs.Corners.{less}

-- ---- quotient and remainder

-- what is not negative, and what is not positive
pub record Upper (d q r : ℤ) : Type 0 where
  pub quotient : pos 0 ≤ᶻ q
  pub remainder : pos 0 ≤ᶻ r
  pub smaller : r <ᶻ d

pub record Lower (d q r : ℤ) : Type 0 where
  pub quotient : q ≤ᶻ pos 0
  pub remainder : r ≤ᶻ pos 0
  pub smaller : pos 0 <ᶻ d +ℤ r

pub record Parts (z d q r : ℤ) : Type 0 where
  pub whole : z ≡ q *ℤ d +ℤ r
  pub side : Upper d q r ⊎ Lower d q r

less_nat : {m n : ℕ} → m < n → pos m <ᶻ pos n
less_nat {m} {n} h = lt_z_yes (lt→ltb m n h)

parts-by : (n : ℕ) (z : ℤ) → Parts z (pos (suc n)) (quot_z z (pos (suc n))) (rem_z z (pos (suc n)))
parts-by n (pos a) =
    record {
      whole = ap pos (together a);
      side =
          inl
          (record {
            quotient = nn_nat (a / suc n);
            remainder = nn_nat (a % suc n);
            smaller = less_nat (mod-lt a {m = suc n}
                (omega arith));
          });
    }
  where
    together : (a : ℕ) → a ≡ a / suc n * suc n + a % suc n
    together a = omega (arith, div-add-mod a (suc n))
parts-by n (negsuc a) =
    record {
      whole =
          ap (λ (k : ℕ). neg_ℤ (pos k)) (together (suc a))
          ∙ ring 3 (λ q d r. ⊝ (q ⊗ d ⊕ r) ≐ (⊝ q) ⊗ d ⊕ (⊝ r)) refl (pos (suc a / suc n)) (pos (suc n)) (pos (suc a % suc n));
      side =
          inr
          (record {
            quotient = down (suc a / suc n);
            remainder = down (suc a % suc n);
            smaller = sub-pos (less_nat (mod-lt (suc a) {m = suc n} (omega arith)));
          });
    }
  where
    together : (a : ℕ) → a ≡ a / suc n * suc n + a % suc n
    together a = omega (arith, div-add-mod a (suc n))

    down : (k : ℕ) → neg_ℤ (pos k) ≤ᶻ pos 0
    down k = nn_neg (subst (λ z. pos 0 ≤ᶻ z) (ring 1 (λ k. k ≐ ⊝ (⊝ k)) refl (pos k)) (nn_nat k))

pub parts : (z : ℤ) {d : ℤ} → pos 0 <ᶻ d → Parts z d (quot_z z d) (rem_z z d)
parts z h = pos-elim (λ d. Parts z d (quot_z z d) (rem_z z d)) (λ n. parts-by n z) h

-- ---- the order of two fractions

module _ (x d x' d' q r q' r' : ℤ) (hd : pos 0 <ᶻ d) (hd' : pos 0 <ᶻ d') (p : Parts x d q r) (p' : Parts x' d' q' r') where
  -- x'·d − x·d' by the parts
  apart : x' *ℤ d -ℤ x *ℤ d' ≡ (q' -ℤ q) *ℤ (d *ℤ d') +ℤ (r' *ℤ d -ℤ r *ℤ d')
  apart =
      (λ i. p'.whole i *ℤ d -ℤ p.whole i *ℤ d')
      ∙ ring 6 (λ d d' q r q' r'. (q' ⊗ d' ⊕ r') ⊗ d ⊖ (q ⊗ d ⊕ r) ⊗ d' ≐ (q' ⊖ q) ⊗ (d ⊗ d') ⊕ (r' ⊗ d ⊖ r ⊗ d')) refl d d' q r q' r'

  below : Upper d q r ⊎ Lower d q r → pos 0 <ᶻ d -ℤ r
  below (inl u) = sub-pos u.smaller
  below (inr l) = nn_sub_pos l
    where
      nn_sub_pos : Lower d q r → pos 0 <ᶻ d -ℤ r
      nn_sub_pos l = pos-add_nn hd (neg_nn l.remainder)

  -- a remainder never makes up for a quotient
  rest : q <ᶻ q' → Upper d q r ⊎ Lower d q r → Upper d' q' r' ⊎ Lower d' q' r' → pos 0 <ᶻ d *ℤ d' +ℤ (r' *ℤ d -ℤ r *ℤ d')
  rest h s (inl u) =
      subst (λ z. pos 0 <ᶻ z) (ring 4 (λ d d' r r'. d' ⊗ (d ⊖ r) ⊕ r' ⊗ d ≐ d ⊗ d' ⊕ (r' ⊗ d ⊖ r ⊗ d')) refl d d' r r')
      (pos-add_nn (pos-mul hd' (below s)) (nn_mul u.remainder (pos_nn hd)))
  rest h (inl u) (inr l) = clash_ℤ h (le_trans l.quotient u.quotient)
  rest h (inr k) (inr l) =
      subst (λ z. pos 0 <ᶻ z) (ring 4 (λ d d' r r'. d ⊗ (d' ⊕ r') ⊕ (⊝ r) ⊗ d' ≐ d ⊗ d' ⊕ (r' ⊗ d ⊖ r ⊗ d')) refl d d' r r')
      (pos-add_nn (pos-mul hd l.smaller) (nn_mul (neg_nn k.remainder) (pos_nn hd')))

  pub smaller-quotient : q <ᶻ q' → x *ℤ d' <ᶻ x' *ℤ d
  smaller-quotient h =
      pos-sub (subst (λ z. pos 0 <ᶻ z)
      (ring 4 (λ q q' m s. (q' ⊖ q ⊖ con (pos 1)) ⊗ m ⊕ (m ⊕ s) ≐ (q' ⊖ q) ⊗ m ⊕ s) refl q q' (d *ℤ d') (r' *ℤ d -ℤ r *ℤ d')
      ∙ sym apart)
      (nn_add_pos (nn_mul (one_less (sub-pos h)) (pos_nn (pos-mul hd hd'))) (rest h p.side p'.side)))
    where
      one_less : {z : ℤ} → pos 0 <ᶻ z → pos 0 ≤ᶻ z -ℤ pos 1
      one_less k =
          pos-elim (λ z. pos 0 ≤ᶻ z -ℤ pos 1) (λ n. sub_nn {a = pos 1} {b = pos (suc n)} (le_z_yes (le→leb 1 (suc n) (omega arith)))) k

  -- with the same quotient, remainders decide
  remainders : q ≡ q' → x' *ℤ d -ℤ x *ℤ d' ≡ r' *ℤ d -ℤ r *ℤ d'
  remainders e =
      apart
      ∙ ap (λ z. (q' -ℤ z) *ℤ (d *ℤ d') +ℤ (r' *ℤ d -ℤ r *ℤ d')) e
      ∙ ring 3 (λ q m s. (q ⊖ q) ⊗ m ⊕ s ≐ s) refl q' (d *ℤ d') (r' *ℤ d -ℤ r *ℤ d')

-- tests of two pairs that lie equally far apart are the same
pub same_test : (a b a' b' : ℤ) → b -ℤ a ≡ b' -ℤ a' → lt_z a b ≡ lt_z a' b'
same_test a b a' b' e = go (lt_z a b) (lt_z a' b') refl refl
  where
    to : T (lt_z a b) → T (lt_z a' b')
    to t = (pos-sub {a = a'} {b = b'} (subst (λ z. pos 0 <ᶻ z) e (sub-pos {a = a} {b = b} (lt_z_yes t)))).lt

    from : T (lt_z a' b') → T (lt_z a b)
    from t = (pos-sub {a = a} {b = b} (subst (λ z. pos 0 <ᶻ z) (sym e) (sub-pos {a = a'} {b = b'} (lt_z_yes t)))).lt

    go : (s t : Bool) → lt_z a b ≡ s → lt_z a' b' ≡ t → s ≡ t
    go true true p q = refl
    go false false p q = refl
    go true false p q = absurd (subst T q (to (subst T (sym p) tt)))
    go false true p q = absurd (subst T p (from (subst T (sym q) tt)))

-- ---- the three answers

module _ (x d x' d' : ℤ) (hd : pos 0 <ᶻ d) (hd' : pos 0 <ᶻ d') where
  is_true : (s : Bool) → T s → true ≡ s
  is_true true t = refl
  is_true false t = absurd t

  is_false : (s : Bool) → (T s → ⊥) → false ≡ s
  is_false true f = absurd (f tt)
  is_false false f = refl

  pub less-by-quotient : quot_z x d <ᶻ quot_z x' d' → true ≡ less x d x' d'
  less-by-quotient h =
      is_true (less x d x' d')
      (smaller-quotient x d x' d' (quot_z x d) (rem_z x d) (quot_z x' d') (rem_z x' d') hd hd' (parts x hd) (parts x' hd') h).lt

  pub not-less-by-quotient : quot_z x' d' <ᶻ quot_z x d → false ≡ less x d x' d'
  not-less-by-quotient h =
      is_false (less x d x' d')
      (λ t. clash_ℤ (lt_z_yes t)
      (lt_le (smaller-quotient x' d' x d (quot_z x' d') (rem_z x' d') (quot_z x d) (rem_z x d) hd' hd (parts x' hd') (parts x hd) h)))

  pub less-by-remainder : quot_z x d ≡ quot_z x' d' → lt_z (rem_z x d *ℤ d') (rem_z x' d' *ℤ d) ≡ less x d x' d'
  less-by-remainder e =
      same_test (rem_z x d *ℤ d') (rem_z x' d' *ℤ d) (x *ℤ d') (x' *ℤ d)
      (sym (remainders x d x' d' (quot_z x d) (rem_z x d) (quot_z x' d') (rem_z x' d') hd hd' (parts x hd) (parts x' hd') e))
