-- Spaces before an item: how many there are, the item's first byte, the text after it, and the lengths.
use mathlib.Core.Path.{◌≡◌, refl, ap, ◌∙◌}
use mathlib.Core.Bool.{false}
use mathlib.Core.List.{List, [], ◌∷◌}
use Prim.Native.Nat.{ℕ, zero, suc, ◌+◌}
use native.Mathlib.Omega.{arith}
use lib.Dec.{eqb}
use lib.ListN.{length}
use Rattle.language.specs.Grammar.{pad}
use Rattle.scanning.specs.Bytes.{first, tail, digit}
use Rattle.language.specs.Parser.{lead, skip, next, beyond}

pub lead-pad : (i : ℕ) (q : List ℕ) → lead q ≡ 0 → lead (pad i q) ≡ i
unfolding lead pad
lead-pad zero q e = e
lead-pad (suc i) q e = ap suc (lead-pad i q e)

pub skip-pad : (i : ℕ) (q : List ℕ) → skip q ≡ q → skip (pad i q) ≡ q
unfolding skip pad
skip-pad zero q e = e
skip-pad (suc i) q e = skip-pad i q e

lead_byte : (b : ℕ) (r : List ℕ) → eqb b 32 ≡ false → lead (b ∷ r) ≡ 0
unfolding lead
lead_byte b r e = rw e

skip_byte : (b : ℕ) (r : List ℕ) → eqb b 32 ≡ false → skip (b ∷ r) ≡ b ∷ r
unfolding skip
skip_byte b r e = rw e

pub skip_nil : skip [] ≡ []
unfolding skip
skip_nil = refl

pub lead_nil : lead [] ≡ 0
unfolding lead
lead_nil = refl

pub first_spaces : (n : ℕ) → digit (first (pad n [])) ≡ false
unfolding pad
first_spaces zero = refl
first_spaces (suc n) = refl

pub lead_in : (i b : ℕ) (r : List ℕ) → eqb b 32 ≡ false → lead (pad i (b ∷ r)) ≡ i
lead_in i b r e = lead-pad i (b ∷ r) (lead_byte b r e)

pub skip_in : (i b : ℕ) (r : List ℕ) → eqb b 32 ≡ false → skip (pad i (b ∷ r)) ≡ b ∷ r
skip_in i b r e = skip-pad i (b ∷ r) (skip_byte b r e)

pub next_in : (i b : ℕ) (r : List ℕ) → eqb b 32 ≡ false → next (pad i (b ∷ r)) ≡ b
next_in i b r e = ap first (skip_in i b r e)

beyond_in : (i b : ℕ) (r : List ℕ) → eqb b 32 ≡ false → beyond (pad i (b ∷ r)) ≡ r
beyond_in i b r e = ap tail (skip_in i b r e)

pub length-pad : (i : ℕ) (q : List ℕ) → length (pad i q) ≡ i + length q
unfolding pad
length-pad zero q = omega arith
length-pad (suc i) q = omega (arith, length-pad i q)

-- after spaces and a byte that is no digit there is no digit at once
pub first-pad : (i b : ℕ) (r : List ℕ) → digit b ≡ false → digit (first (pad i (b ∷ r))) ≡ false
unfolding pad
first-pad zero b r e = e
first-pad (suc i) b r e = refl

-- what is done with both: the number of the spaces, and the text after the byte
pub in_pad : {X : Type 0} (g : ℕ → List ℕ → X) (i b : ℕ) (r : List ℕ) →
    eqb b 32 ≡ false →
    g (lead (pad i (b ∷ r))) (beyond (pad i (b ∷ r))) ≡ g i r
in_pad g i b r e = ap (λ (j : ℕ). g j (beyond (pad i (b ∷ r)))) (lead_in i b r e) ∙ ap (g i) (beyond_in i b r e)

-- the next byte is another
pub not-next : (i b n : ℕ) (r : List ℕ) →
    eqb b 32 ≡ false →
    eqb b n ≡ false →
    eqb (next (pad i (b ∷ r))) n ≡ false
not-next i b n r s e = ap (λ (c : ℕ). eqb c n) (next_in i b r s) ∙ e
