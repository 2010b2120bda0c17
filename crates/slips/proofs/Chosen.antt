-- Which weights are chosen, by the tests that the code makes.
use mathlib.Core.Path.{◌≡◌, sym, ap}
use mathlib.Core.Bool.{Bool, true, false}
use Prim.Native.Nat.{ℕ, ◌^◌, ◌<◌}
use lib.IntN.{pos}
use lib.Signed.{lt_z}
use mir.Syntax.{w64}
use mir.Val.{to_z}
use mir.Facts.{to_z-of_z}
use Rattle.lp.specs.declared.Constraint.{Constraint}
use Rattle.lp.specs.declared.Certificate.{Certificate}
use Rattle.lp.specs.Outcome.{det}
use Rattle.lp.specs.Certificate.{is_zero}
use Rattle.slip.specs.declared.Weights.{Weights}
use Rattle.slips.specs.declared.pass.Side.{Side}
use Rattle.slips.specs.declared.pass.Held.{Held}
use Rattle.slips.specs.Pass.{dot}
use Rattle.slip.specs.Weights.{no_weights}
use Rattle.slips.specs.Weights.{weights_with, one_weight, two_weights, weights_of, used_of}

-- a natural number as an i64
pub natural : {n : ℕ} → n < 2 ^ 63 → to_z w64 n ≡ pos n
natural {n} h = to_z-of_z {w = w64} {z = pos n} (record { sfits = h })

module _ (f : Constraint) (r l : Side) where
  abbrev rising : Weights
  rising = weights_with (det r.rule l.rule) (pos 2) r.code (det f l.rule) l.code (det r.rule f) (pos 0) (pos 0)

  abbrev falling : Weights
  falling = weights_with (det r.rule l.rule) (pos 2) l.code (det r.rule f) r.code (det f l.rule) (pos 0) (pos 0)

  pub two-rising : lt_z r.code l.code ≡ true → rising ≡ two_weights f r l
  two-rising e = sym (ap (λ b. elim b [ true ↦ rising | false ↦ falling ]) e)

  pub two-falling : lt_z r.code l.code ≡ false → falling ≡ two_weights f r l
  two-falling e = sym (ap (λ b. elim b [ true ↦ rising | false ↦ falling ]) e)

module _ (f : Constraint) (h : Held) where
  abbrev others : Bool → Weights
  others b = elim b [ true ↦ two_weights f h.right h.left | false ↦ no_weights (pos 1) ]

  pub chosen-level : lt_z (pos 0) (dot f h.level.rule) ≡ true → one_weight f h.level ≡ weights_of f h
  chosen-level e =
      sym (ap (λ b. elim b [ true ↦ one_weight f h.level | false ↦ others (lt_z (pos 0) (det h.right.rule h.left.rule)) ]) e)

  pub chosen-two :
      lt_z (pos 0) (dot f h.level.rule) ≡ false →
      lt_z (pos 0) (det h.right.rule h.left.rule) ≡ true →
      two_weights f h.right h.left ≡ weights_of f h
  chosen-two e d = sym (λ i. elim (e i) [ true ↦ one_weight f h.level | false ↦ others (d i) ])

  pub chosen_none :
      lt_z (pos 0) (dot f h.level.rule) ≡ false →
      lt_z (pos 0) (det h.right.rule h.left.rule) ≡ false →
      no_weights (pos 1) ≡ weights_of f h
  chosen_none e d = sym (λ i. elim (e i) [ true ↦ one_weight f h.level | false ↦ others (d i) ])

module _ (k : Certificate) where
  pub used-one : is_zero k.second_weight ≡ true → pos 1 ≡ used_of k
  used-one e =
      sym (ap (λ b. elim b [ true ↦ pos 1 | false ↦ elim (is_zero k.third_weight) [ true ↦ pos 2 | false ↦ pos 3 ] ]) e)

  pub used-two : is_zero k.second_weight ≡ false → is_zero k.third_weight ≡ true → pos 2 ≡ used_of k
  used-two e d = sym (λ i. elim (e i) [ true ↦ pos 1 | false ↦ elim (d i) [ true ↦ pos 2 | false ↦ pos 3 ] ])

  pub used-three : is_zero k.second_weight ≡ false → is_zero k.third_weight ≡ false → pos 3 ≡ used_of k
  used-three e d = sym (λ i. elim (e i) [ true ↦ pos 1 | false ↦ elim (d i) [ true ↦ pos 2 | false ↦ pos 3 ] ])
