-- The parts of a slip's line, from the tests that the code makes on machine numbers.
use mathlib.Core.Path.{◌≡◌, refl, sym, ◌∙◌, ap, subst}
use mathlib.Core.List.{[], ◌++◌}
use mathlib.Core.Bool.{Bool, true, false, cond, ◌&&◌}
use Prim.Native.Nat.{ℕ, zero, suc, ◌^◌, ◌<◌}
use native.Mathlib.Omega.{arith}
use lib.Dec.{T}
use lib.IntN.{ℤ, pos, negsuc, ◌-ℤ◌, +ℤ_one}
use lib.Signed.{le_z, lt_z, mag}
use mir.Syntax.{w64}
use mir.Val.{SFits}
use mir.Facts.{to_z-of_z}
use Rattle.ints.proofs.Bits.{read}
use Rattle.ints.proofs.Ring.{ring, ◌⊕◌, ◌⊖◌, ◌≐◌, con}
use Rattle.text.specs.Text.{text}
use Rattle.text.specs.Number.{integer}
use Rattle.text.specs.declared.Line.{Line}
use Rattle.text.specs.Line.{Added}
use Rattle.text.proofs.Adding.{followed, spelt}
use Rattle.slip.specs.declared.Weights.{Weights}
use Rattle.slip.proofs.Sizes.{unread}
use Rattle.slip_text.specs.Text.{code_text, slot_text, entries_text}

pub back : (k : ℕ) → pos (suc k) -ℤ pos 1 ≡ pos k
back k =
    ap (λ z. z -ℤ pos 1) (sym (+ℤ_one (pos k))) ∙ ring 1 (λ x. x ⊕ con (pos 1) ⊖ con (pos 1) ≐ x) refl (pos k)

module _ (c : ℤ) (f : SFits w64 c) where
  test_read : (n : ℤ) {b : Bool} → le_z (read c) n ≡ b → le_z c n ≡ b
  test_read n e = ap (λ z. le_z z n) (sym (to_z-of_z {w = w64} f)) ∙ e

  pub code-x : le_z (read c) (pos 0) ≡ true → text " X" ≡ code_text c
  unfolding code_text
  code-x e =
      sym (ap (λ b. elim b [ true ↦ text " X" | false ↦ elim (le_z c (pos 1)) [ true ↦ text " Y" | false ↦ integer (c -ℤ pos 1) ] ])
      (test_read (pos 0) e))

  pub code-y : le_z (read c) (pos 0) ≡ false → le_z (read c) (pos 1) ≡ true → text " Y" ≡ code_text c
  unfolding code_text
  code-y e d =
      sym (λ i. elim (test_read (pos 0) e i) [
        | true ↦ text " X"
        | false ↦ elim (test_read (pos 1) d i) [ true ↦ text " Y" | false ↦ integer (c -ℤ pos 1) ]
      ])

  -- a code of 2 or more
  positive : le_z (read c) (pos 0) ≡ false → (k : ℕ) × (c ≡ pos (suc k))
  positive e = go c (test_read (pos 0) e)
    where
      go : (z : ℤ) → le_z z (pos 0) ≡ false → (k : ℕ) × (z ≡ pos (suc k))
      go (pos zero) e = absurd (subst T e tt)
      go (pos (suc k)) e = (k, refl)
      go (negsuc k) e = absurd (subst T e tt)

  less-fits : le_z (read c) (pos 0) ≡ false → le_z (read c) (pos 1) ≡ false → SFits w64 (read c -ℤ pos 1)
  less-fits e d =
      let p = positive e in
      subst (λ z. SFits w64 (z -ℤ pos 1)) (sym (to_z-of_z {w = w64} f ∙ p.1)) (small p.0 p.1)
    where
      small : (k : ℕ) → c ≡ pos (suc k) → SFits w64 (pos (suc k) -ℤ pos 1)
      small k q = subst (λ z. SFits w64 z) (sym (back k)) (record { sfits = omega (arith, ap mag q, f.sfits) })

  pub code-record : le_z (read c) (pos 0) ≡ false → le_z (read c) (pos 1) ≡ false → integer (read (read c -ℤ pos 1)) ≡ code_text c
  unfolding code_text
  code-record e d =
      ap integer (to_z-of_z {w = w64} (less-fits e d) ∙ ap (λ z. z -ℤ pos 1) (to_z-of_z {w = w64} f))
      ∙ sym (λ i. elim (test_read (pos 0) e i) [
        | true ↦ text " X"
        | false ↦ elim (test_read (pos 1) d i) [ true ↦ text " Y" | false ↦ integer (c -ℤ pos 1) ]
      ])

  pub code_read : code_text (read c) ≡ code_text c
  code_read = ap code_text (to_z-of_z {w = w64} f)

module _ (code weight : ℤ) where
  pub slot_counts : {b : Bool} → b ≡ true → code_text code ++ integer weight ≡ slot_text b code weight
  unfolding slot_text
  slot_counts e = sym (ap (λ b. cond b (code_text code ++ integer weight) []) e)

  pub slot_none : {b : Bool} → b ≡ false → [] ≡ slot_text b code weight
  unfolding slot_text
  slot_none e = sym (ap (λ b. cond b (code_text code ++ integer weight) []) e)

-- the count and the three slots, each number read back from its bits
pub entries-parts : (w : Weights) →
    mag w.count < 2 ^ 63 →
    mag w.first < 2 ^ 63 →
    mag w.first_weight < 2 ^ 63 →
    mag w.second < 2 ^ 63 →
    mag w.second_weight < 2 ^ 63 →
    mag w.third < 2 ^ 63 →
    mag w.third_weight < 2 ^ 63 →
    {l₀ l₁ l₂ l₃ l₄ : Line} →
    Added l₀ (integer (read w.count)) 21 l₁ →
    Added l₁ (slot_text (lt_z (pos 0) (read w.count)) (read w.first) (read w.first_weight)) 42 l₂ →
    Added l₂
    (slot_text (lt_z (pos 0) (read w.count) && lt_z (pos 1) (read w.count)) (read w.second) (read w.second_weight)) 42 l₃ →
    Added l₃
    (slot_text (lt_z (pos 0) (read w.count) && lt_z (pos 1) (read w.count) && lt_z (pos 2) (read w.count)) (read w.third)
    (read w.third_weight)) 42 l₄ →
    Added l₀ (entries_text w) 147 l₄
unfolding entries_text
entries-parts w hc h₁ g₁ h₂ g₂ h₃ g₃ a b c d =
    followed (spelt (ap integer n) a)
    (followed (spelt (λ i. slot_text (lt_z (pos 0) (n i)) (unread {z = w.first} h₁ i) (unread {z = w.first_weight} g₁ i)) b)
    (followed (spelt (λ i. slot_text (lt_z (pos 0) (n i) && lt_z (pos 1) (n i)) (unread {z = w.second} h₂ i)
    (unread {z = w.second_weight} g₂ i)) c)
    (spelt (λ i. slot_text (lt_z (pos 0) (n i) && lt_z (pos 1) (n i) && lt_z (pos 2) (n i)) (unread {z = w.third} h₃ i)
    (unread {z = w.third_weight} g₃ i)) d)))
  where
    n : read w.count ≡ w.count
    n = unread {z = w.count} hc
