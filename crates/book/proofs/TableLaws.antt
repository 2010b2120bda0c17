-- A table of bits: a bit that is set changes no other bit, so the table says of each number whether it stands in the list of those noted.
use Prim.Native.Nat.{ℕ, zero, suc, ◌+◌, ◌-◌, ◌*◌, ◌/◌, ◌%◌, ◌^◌, ◌≤◌, ◌<◌}
use mathlib.Core.Path.{◌≡◌, refl, sym, ap, ◌∙◌, subst}
use mathlib.Core.Bool.{false}
use mathlib.Core.List.{List, [], ◌∷◌, ◌++◌}
use native.Mathlib.Omega.{arith}
use native.Mathlib.Decide.{ℕ_discrete, dec_lt}
use native.Mathlib.Nat.{pow-suc, div-lt_iff_lt-mul, div-div-eq-div-mul, add-div_right, add-mul-div_right, zero-div, one-mul}
use borrow.Author.Tests.{eq-eqb, ne_eqb, eqb-false}
use lib.ListN.{length, get_or, set, replicate, length-set, length-replicate, get_or-eq_default}
use lib.Seq.{get_or-set_same, get_or-set_other}
use lib.Pow.{pow_pos, pow-add, shl_exact}
use lib.Dec.{eqb, lit<}
use Rattle.book.specs.Reading.{memb}
use Rattle.book.specs.Tables.{is_noted, noting}
use Rattle.book.proofs.Members.{memb_snoc, or_false, or_true}

-- ---- a bit of a word

-- bit k is 0 and becomes 1
module _ (w k : ℕ) (clear : w / 2 ^ k % 2 ≡ 0) where
  up : (w + 2 ^ k) / 2 ^ k ≡ w / 2 ^ k + 1
  up = add-div_right w (pow_pos k)

  bit_set : (w + 2 ^ k) / 2 ^ k % 2 ≡ 1
  bit_set = rw up (omega arith)

  -- no bit above or below it changes
  above_same : (d : ℕ) → (w + 2 ^ k) / 2 ^ (k + suc d) ≡ w / 2 ^ (k + suc d)
  above_same d =
      let p : 2 ^ (k + suc d) ≡ 2 ^ k * (2 * 2 ^ d) = pow-add 2 k (suc d) ∙ ap (λ x. 2 ^ k * x) (pow-suc 2 d ∙ omega arith) in
      let split : (x : ℕ) → x / 2 ^ (k + suc d) ≡ x / 2 ^ k / 2 / 2 ^ d =
      λ x. ap (λ y. x / y) p ∙ sym (div-div-eq-div-mul x (2 ^ k) (2 * 2 ^ d)) ∙ sym (div-div-eq-div-mul (x / 2 ^ k) 2 (2 ^ d)) in
      let half : (w + 2 ^ k) / 2 ^ k / 2 ≡ w / 2 ^ k / 2 = ap (λ x. x / 2) up ∙ omega arith in
      split (w + 2 ^ k) ∙ ap (λ x. x / 2 ^ d) half ∙ sym (split w)

  -- nor does the word outgrow its bits
  word_fits : (d : ℕ) → w < 2 ^ (k + suc d) → w + 2 ^ k < 2 ^ (k + suc d)
  word_fits d h =
      let p : 2 ^ (k + suc d) ≡ 2 * 2 ^ d * 2 ^ k = pow-add 2 k (suc d) ∙ ap (λ x. 2 ^ k * x) (pow-suc 2 d) ∙ swap (2 ^ k) (2 ^ d) in
      let q : w / 2 ^ k < 2 * 2 ^ d = (div-lt_iff_lt-mul {k = 2 ^ k} {x = w} {y = 2 * 2 ^ d} (pow_pos k)).1 (rw p at h) in
      let r : (w + 2 ^ k) / 2 ^ k < 2 * 2 ^ d = rw up (omega arith) in
      rw p ((div-lt_iff_lt-mul {k = 2 ^ k} {x = w + 2 ^ k} {y = 2 * 2 ^ d} (pow_pos k)).0 r)
    where
      swap : (a b : ℕ) → a * (b * 2) ≡ 2 * b * a
      swap a b = omega arith

below-same : (w j d : ℕ) → (w + 2 ^ (j + suc d)) / 2 ^ j % 2 ≡ w / 2 ^ j % 2
below-same w j d =
    let p : 2 ^ (j + suc d) ≡ 2 ^ d * 2 * 2 ^ j = pow-add 2 j (suc d) ∙ ap (λ x. 2 ^ j * x) (pow-suc 2 d) ∙ omega arith in
    let q : (w + 2 ^ (j + suc d)) / 2 ^ j ≡ w / 2 ^ j + 2 ^ d * 2 =
    ap (λ x. (w + x) / 2 ^ j) p ∙ add-mul-div_right w (2 ^ d * 2) (pow_pos j) in
    rw q (omega arith)

bit_other : (w k j : ℕ) → w / 2 ^ k % 2 ≡ 0 → (j ≡ k → ⊥) → (w + 2 ^ k) / 2 ^ j % 2 ≡ w / 2 ^ j % 2
bit_other w k j clear n = go (dec_lt j k)
  where
    go : Dec (j < k) → (w + 2 ^ k) / 2 ^ j % 2 ≡ w / 2 ^ j % 2
    go (yes h) =
        let e : j + suc (k - suc j) ≡ k = omega arith in
        ap (λ x. (w + 2 ^ x) / 2 ^ j % 2) (sym e) ∙ below-same w j (k - suc j)
    go (no h) =
        let e : k + suc (j - suc k) ≡ j = omega arith in
        ap (λ x. (w + 2 ^ k) / 2 ^ x % 2) (sym e) ∙ ap (λ x. x % 2) (above_same w k clear (j - suc k)) ∙ ap (λ x. w / 2 ^ x % 2) e

pub fits_64 : (w k : ℕ) → k < 64 → w / 2 ^ k % 2 ≡ 0 → w < 2 ^ 64 → w + 2 ^ k < 2 ^ 64
fits_64 w k h clear b =
    let e : k + suc (63 - k) ≡ 64 = omega arith in
    subst (λ (n : ℕ). w + 2 ^ k < 2 ^ n) e (word_fits w k clear (63 - k) (subst (λ (n : ℕ). w < 2 ^ n) (sym e) b))

pub one_shifted : (k : ℕ) → k < 64 → 1 * 2 ^ k % 2 ^ 64 ≡ 2 ^ k
one_shifted k h = shl_exact {a = 1} 1 k 64 (lit< tt) (omega arith) ∙ one-mul (2 ^ k)

pub clear_bit : (t : List ℕ) (l : ℕ) → is_noted t l ≡ false → get_or t (l / 64) 0 / 2 ^ (l % 64) % 2 ≡ 0
unfolding is_noted
clear_bit t l e =
    let n = eqb-false (get_or t (l / 64) 0 / 2 ^ (l % 64) % 2) 1 e in
    omega arith

-- ---- the table

no_bit : (k : ℕ) → eqb (0 / 2 ^ k % 2) 1 ≡ false
no_bit k = rw (zero-div (2 ^ k))

-- a number beyond it was not noted
pub noted-out : (t : List ℕ) (l : ℕ) → length t ≤ l / 64 → is_noted t l ≡ false
unfolding is_noted
noted-out t l h = ap (λ w. eqb (w / 2 ^ (l % 64) % 2) 1) (get_or-eq_default t 0 {n = l / 64} h) ∙ no_bit (l % 64)

-- a table of so many words: the numbers noted are those of a list
pub record Noted (words : ℕ) (t : List ℕ) (met : List ℕ) : Type 0 where
  pub size : length t ≡ words
  pub agrees : (l : ℕ) → l < 64 * words → is_noted t l ≡ memb l met

zeros : (n i : ℕ) → ◌≡◌ {A = ℕ} (get_or (replicate n 0) i 0) 0
zeros zero i = refl
zeros (suc n) zero = refl
zeros (suc n) (suc i) = zeros n i

pub noted-start : (words : ℕ) → Noted words (replicate words 0) []
unfolding memb is_noted
noted-start words =
    record {
      size = length-replicate {A = ℕ} words 0;
      agrees = λ l h. ap (λ w. eqb (w / 2 ^ (l % 64) % 2) 1) (zeros words (l / 64)) ∙ no_bit (l % 64);
    }

module _ {words : ℕ} {t met : List ℕ} (n : Noted words t met) (l : ℕ) (h : l < 64 * words) (new : is_noted t l ≡ false) where
  word : ℕ
  word = get_or t (l / 64) 0

  more : ℕ
  more = word + 2 ^ (l % 64)

  inside : l / 64 < length t
  inside = omega (arith, n.size)

  clear : word / 2 ^ (l % 64) % 2 ≡ 0
  unfolding word
  clear = clear_bit t l new

  -- the numbers noted after it
  now_noted : (j : ℕ) → j < 64 * words → is_noted (noting t l) j ≡ memb j (met ++ (l ∷ []))
  unfolding is_noted noting more word
  now_noted j g = go (ℕ_discrete j l) (ℕ_discrete (j / 64) (l / 64))
    where
      before : (j ≡ l → ⊥) → is_noted t j ≡ memb j (met ++ (l ∷ []))
      before m = n.agrees j g ∙ sym (memb_snoc j l met ∙ rw (ne_eqb j l m, or_false))

      go : Dec (j ≡ l) → Dec (j / 64 ≡ l / 64) → is_noted (noting t l) j ≡ memb j (met ++ (l ∷ []))
      go (yes e) d =
          rw e
          (ap (λ w. eqb (w / 2 ^ (l % 64) % 2) 1) (get_or-set_same t (l / 64) more 0 inside)
          ∙ eq-eqb (more / 2 ^ (l % 64) % 2) 1 (bit_set word (l % 64) clear)
          ∙ sym (memb_snoc l l met ∙ rw (eq-eqb l l refl) (or_true (memb l met))))
      go (no m) (yes e) =
          let k : j % 64 ≡ l % 64 → ⊥ = λ q. m (omega arith) in
          ap (λ i. eqb (get_or (set t (l / 64) more) i 0 / 2 ^ (j % 64) % 2) 1) e
          ∙ ap (λ w. eqb (w / 2 ^ (j % 64) % 2) 1) (get_or-set_same t (l / 64) more 0 inside)
          ∙ ap (λ b. eqb b 1) (bit_other word (l % 64) (j % 64) clear k)
          ∙ ap (λ i. eqb (get_or t i 0 / 2 ^ (j % 64) % 2) 1) (sym e)
          ∙ before m
      go (no m) (no d) = ap (λ w. eqb (w / 2 ^ (j % 64) % 2) 1) (get_or-set_other t (l / 64) (j / 64) more 0 d) ∙ before m

  pub noted_step : Noted words (noting t l) (met ++ (l ∷ []))
  unfolding noting more word
  noted_step =
      record {
        size = length-set t (l / 64) more ∙ n.size;
        agrees = now_noted;
      }
