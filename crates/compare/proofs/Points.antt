-- The order of two points, from what the comparisons of their numbers said.
use mathlib.Core.Path.{◌≡◌, refl, sym, ◌∙◌, ap}
use mathlib.Core.Bool.{Bool, true, false, cond, ◌&&◌, true≢false}
use Prim.Native.Nat.{◌^◌, ◌<◌}
use lib.IntN.{ℤ}
use lib.Signed.{mag}
use Rattle.ints.proofs.Bits.{read}
use Rattle.fraction.proofs.Quotients.{unread}
use Rattle.lp.specs.declared.Point.{Point}
use Rattle.lp.specs.Corners.{less, before}
use Rattle.compare.specs.Comparing.{is_denominator, less_in, before_in, Denominators}

-- ---- numbers that a call took are read back from their bits

pub less-read :
    (x d x' d' : ℤ) →
    mag x < 2 ^ 63 →
    mag d < 2 ^ 63 →
    mag x' < 2 ^ 63 →
    mag d' < 2 ^ 63 →
    {t : Bool} →
    t ≡ less (read x) (read d) (read x') (read d') →
    t ≡ less x d x' d'
less-read x d x' d' hx hd hx' hd' e =
    e ∙ (λ i. less (unread {z = x} hx i) (unread {z = d} hd i) (unread {z = x'} hx' i) (unread {z = d'} hd' i))

pub denominator-told : (d : ℤ) → mag d < 2 ^ 63 → {t : Bool} → t ≡ is_denominator (read d) → t ≡ is_denominator d
denominator-told d h e = e ∙ ap is_denominator (unread {z = d} h)

-- ---- the three answers

module _ (v w : Point) where
  abbrev chosen : Bool → Bool → Bool
  chosen p q = elim p [ true ↦ true | false ↦ elim q [ true ↦ false | false ↦ less v.y v.d w.y w.d ] ]

  module _ {s t : Bool} (es : s ≡ less v.x v.d w.x w.d) (et : t ≡ less w.x w.d v.x v.d) where
    decided : chosen s t ≡ before v w
    decided = λ i. chosen (es i) (et i)

    pub second-first : s ≡ false → t ≡ true → false ≡ before v w
    second-first p q = sym (λ i. chosen (p i) (q i)) ∙ decided

    pub by-y : s ≡ false → t ≡ false → less v.y v.d w.y w.d ≡ before v w
    by-y p q = sym (λ i. chosen (p i) (q i)) ∙ decided

  pub first-first : {s : Bool} → s ≡ less v.x v.d w.x w.d → s ≡ true → true ≡ before v w
  first-first es p = sym (ap (λ b. chosen b (less w.x w.d v.x v.d)) p) ∙ (λ i. chosen (es i) (less w.x w.d v.x v.d))

-- ---- in range, and out of it

pub both : (s t : Bool) → (s && t) ≡ true → (s ≡ true) × (t ≡ true)
both true t e = (refl, e)
both false t e = absurd (true≢false (sym e))

module _ (d d' : ℤ) {s t : Bool} (es : s ≡ is_denominator d) (et : t ≡ is_denominator d') where
  pub denominators : (s && t) ≡ true → Denominators d d'
  denominators e = let b = both s t e in record { first = sym es ∙ b.0; second = sym et ∙ b.1 }

  tested : {b : Bool} → (s && t) ≡ b → b ≡ (is_denominator d && is_denominator d')
  tested e = sym e ∙ (λ i. es i && et i)

  pub in-range : (a : Bool) → (s && t) ≡ true → a ≡ cond (is_denominator d && is_denominator d') a false
  in-range a e = ap (λ b. cond b a false) (tested e)

  pub out_of_range : (a : Bool) → (s && t) ≡ false → false ≡ cond (is_denominator d && is_denominator d') a false
  out_of_range a e = ap (λ b. cond b a false) (tested e)

-- ---- for the denominators of pairs it is the order of fractions, and of points

in_both : {s t : Bool} → s ≡ true → t ≡ true → (s && t) ≡ true
in_both p q = λ i. p i && q i

pub less-exact : (x d x' d' : ℤ) → Denominators d d' → less_in x d x' d' ≡ less x d x' d'
less-exact x d x' d' h = ap (λ b. cond b (less x d x' d') false) (in_both h.first h.second)

pub before-exact : (v w : Point) → Denominators v.d w.d → before_in v w ≡ before v w
before-exact v w h = ap (λ b. cond b (before v w) false) (in_both h.first h.second)
