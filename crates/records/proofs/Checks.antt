-- The check of a rule, test by test, as the code goes through them.
use Prim.Native.Nat.{ℕ}
use mathlib.Core.Path.{◌≡◌, sym, ap}
use mathlib.Core.Bool.{Bool, true, false, cond}
use mathlib.Core.List.{List}
use native.Mathlib.Omega.{arith}
use lib.Dec.{eqb}
use Rattle.answers.specs.declared.Cause.TheVariants.{Kind, Slope, Bound}
use Rattle.records.specs.declared.Rule.{Rule}
use Rattle.records.specs.declared.Sound.{Sound}
use Rattle.std.specs.Prelude.{Err}
use Rattle.records.specs.Layout.{Layout}
use Rattle.records.specs.Record.{sound_with, decoded_with, decoded_of, rule_of, link_of, pad_of, bad_kind, bad_slope, bad_bound}

module _ (clear : Bool) (r : Rule) (next : ℕ) where
  pub kind-first : bad_kind clear r ≡ true → Err Kind ≡ decoded_with clear r next
  unfolding decoded_with
  kind-first k = rw k

  pub slope-next : bad_kind clear r ≡ false → bad_slope r ≡ true → Err Slope ≡ decoded_with clear r next
  unfolding decoded_with
  slope-next k a = rw (k, a)

  pub bound-last : bad_kind clear r ≡ false → bad_slope r ≡ false → bad_bound r ≡ true → Err Bound ≡ decoded_with clear r next
  unfolding decoded_with
  bound-last k a b = rw (k, a, b)

  pub sound : bad_kind clear r ≡ false → bad_slope r ≡ false → bad_bound r ≡ false → sound_with r next ≡ decoded_with clear r next
  unfolding decoded_with
  sound k a b = rw (k, a, b)

-- ---- what a sound record holds

chosen : (x y z : Bool) (r r' : Rule) (i i' : ℕ) →
    cond x (Err Kind) (cond y (Err Slope) (cond z (Err Bound) (sound_with r i))) ≡ sound_with r' i' →
    (r' ≡ r) × (i' ≡ i)
chosen true y z r r' i i' e = absurd (let n : ◌≡◌ {A = ℕ} 0 1 = cc in let b : ⊥ = omega arith in b)
chosen false true z r r' i i' e = absurd (let n : ◌≡◌ {A = ℕ} 0 1 = cc in let b : ⊥ = omega arith in b)
chosen false false true r r' i i' e = absurd (let n : ◌≡◌ {A = ℕ} 0 1 = cc in let b : ⊥ = omega arith in b)
chosen false false false r r' i i' e =
    let h : ◌≡◌ {A = Sound} (record { rule = r; next = i }) (record { rule = r'; next = i' }) = cc in
    (ap (λ (s : Sound). s.rule) (sym h), ap (λ (s : Sound). s.next) (sym h))

pub sound-holds : (L : Layout) (t : List ℕ) (r : Rule) (i : ℕ) → decoded_of L t ≡ sound_with r i → (r ≡ rule_of L t) × (i ≡ link_of L t)
unfolding decoded_of decoded_with
sound-holds L t r i e =
    chosen (bad_kind (eqb (pad_of L t) 0) (rule_of L t)) (bad_slope (rule_of L t)) (bad_bound (rule_of L t))
    (rule_of L t) r (link_of L t) i e
