-- Rests of the text: what is next in one, how much of it a reader leaves, that what it read is small, and that less is left for a call
-- after it. The measure of the readers is three for each byte that is left, and one more for a term, two more for a side.
use mathlib.Core.Path.{◌≡◌, ap, sym, ◌∙◌, subst}
use mathlib.Core.Bool.{Bool, true, false, cond}
use mathlib.Core.List.{List, [], ◌∷◌}
use Prim.Native.Nat.{ℕ, suc, ◌+◌, ◌*◌, ◌≤◌, ◌<◌}
use native.Mathlib.Omega.{arith}
use lib.Dec.{eqb}
use lib.ListN.{length}
use borrow.Author.Tests.{ne_eqb}
use Rattle.std.specs.Prelude.{Some, None}
use Rattle.std.specs.Borrow.{Bor}
use Rattle.scanning.specs.Bytes.{first, tail}
use Rattle.language.specs.Parser.{skip, next, beyond}
use Rattle.forms.specs.Value.{Value, held}
use Rattle.forms.specs.Small.{Small}
use Rattle.forms.proofs.Held.{held_both}
use Rattle.typed_rules.specs.Promises.{Step, Reached, Moved, Enough}

-- ---- what is next

-- what is left of a text behind its spaces, and the first byte there, 0 at the end
pub record Item (text i : List ℕ) (b : ℕ) : Type 0 where
  pub begins : i ≡ skip text
  pub byte : b ≡ first i

pub item : {text i : List ℕ} {b : ℕ} → i ≡ skip text → b ≡ first i → Item text i b
item s x = record { begins = s; byte = x }

pub skip_short : (s : List ℕ) → length (skip s) ≤ length s
unfolding skip
skip_short [] = omega arith
skip_short (b ∷ s) = go (eqb b 32) (skip_short s)
  where
    go : (t : Bool) → length (skip s) ≤ length s → length (cond t (skip s) (b ∷ s)) ≤ length (b ∷ s)
    go true h = omega (arith, h)
    go false h = omega arith

tail_short : (s : List ℕ) → 0 < first s → length (tail s) < length s
tail_short [] h = absurd (omega (arith, h))
tail_short (b ∷ s) h = omega arith

module _ {text i : List ℕ} {b : ℕ} (x : Item text i b) where
  pub next-is : next text ≡ b
  next-is = sym (x.byte ∙ ap first x.begins)

  -- the next byte is another
  pub other : (n : ℕ) → (b ≡ n → ⊥) → eqb (next text) n ≡ false
  other n h = ap (λ (z : ℕ). eqb z n) next-is ∙ ne_eqb b n h

  pub beyond-is : {l : List ℕ} → l ≡ tail i → l ≡ beyond text
  beyond-is t = t ∙ ap tail x.begins

  pub falls : {l : List ℕ} → l ≡ tail i → 0 < b → length l < length text
  falls t h =
      omega (arith, ap length t, tail_short i (subst (λ (z : ℕ). 0 < z) x.byte h), ap length x.begins, skip_short text)

-- ---- how much is left

pub moved_on : (low high : ℕ) (r : Step) → low ≤ high → Moved low r → Moved high r
moved_on low high (Some (v, l)) h m = record { small = m.small; short = omega (arith, m.short) }
moved_on low high None h m = tt

pub reached : (size : ℕ) {r : Step} {v : Value} {l : Bor (List ℕ)} → r ≡ Some (v, l) → Moved size r → Reached size v l.now
reached size e m = subst (Moved size) e m

-- ---- fuel

pub spent : (text l : List ℕ) (m k : ℕ) →
    length l < length text →
    m ≤ 2 →
    Enough text 0 (suc k) →
    Enough l m k
spent text l m k h i e = omega (arith, h, i, e)

-- ---- what a call asks: the measure falls

pub less : (text l : List ℕ) (m : ℕ) {t : ℕ} →
    3 * length text + 0 ≡ t →
    length l < length text →
    m ≤ 2 →
    3 * length l + m < t
less text l m e h i = omega arith

-- the values of both are within the limit, so that an operation on them is the plain one
pub plainly : {A : Type 0} (op : Value → Value → A) (size : ℕ) {s : Step} {v w : Value} {l : Bor (List ℕ)} {r : A} →
    Small v →
    s ≡ Some (w, l) →
    Moved size s →
    r ≡ op (held v) (held w) →
    r ≡ op v w
plainly op size h e m p = p ∙ held_both op h (reached size e m).small
