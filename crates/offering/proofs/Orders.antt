-- The order of corners by the comparison of fractions: which of two earns more says on which side of the other it lies.
use mathlib.Core.Path.{◌≡◌, refl, sym, ◌∙◌, ap}
use mathlib.Core.List.{List, [], ◌∷◌}
use mathlib.Core.Bool.{Bool, true, false}
use lib.IntN.{ℤ, pos, ◌*ℤ◌}
use lib.Signed.{lt_z}
use Rattle.ints.proofs.Ring.{ring, ◌⊕◌, ◌⊖◌, ◌⊗◌, ◌≐◌, con}
use Rattle.ints.proofs.Machine.{within-numeral}
use Rattle.lp.specs.declared.Functional.{Functional}
use Rattle.lp.specs.declared.Point.{Point}
use Rattle.lp.specs.declared.Ray.{Ray}
use Rattle.lp.specs.Program.{functional, gain, along, between}
use Rattle.lp.specs.Corners.{less}
use Rattle.lp.specs.Outcome.{above, better, pick, tie_order, gain_order}
use Rattle.lp.specs.Document.{tie}
use Rattle.lp.specs.Range.{SmallFunctional}
use Rattle.compare.proofs.Parts.{same_test}
use Rattle.engine.proofs.Steps.{above-gains, above-loses, above-level, above-last}
use Rattle.offering.specs.Listed.{first_by}

-- ---- two corners

module _ (f : Functional) (w v : Point) where
  -- w earns more
  up : less (gain f v) v.d (gain f w) w.d ≡ lt_z (pos 0) (along f (between v w))
  up =
      same_test (gain f v *ℤ w.d) (gain f w *ℤ v.d) (pos 0) (along f (between v w))
      (ring 8 (λ p q vx vy vd wx wy wd.
      (p ⊗ wx ⊕ q ⊗ wy) ⊗ vd ⊖ (p ⊗ vx ⊕ q ⊗ vy) ⊗ wd
      ≐ (p ⊗ (wx ⊗ vd ⊖ vx ⊗ wd) ⊕ q ⊗ (wy ⊗ vd ⊖ vy ⊗ wd)) ⊖ con (pos 0)) refl
      f.p f.q v.x v.y v.d w.x w.y w.d)

  -- v earns more
  down : less (gain f w) w.d (gain f v) v.d ≡ lt_z (along f (between v w)) (pos 0)
  down =
      same_test (gain f w *ℤ v.d) (gain f v *ℤ w.d) (along f (between v w)) (pos 0)
      (ring 8 (λ p q vx vy vd wx wy wd.
      (p ⊗ vx ⊕ q ⊗ vy) ⊗ wd ⊖ (p ⊗ wx ⊕ q ⊗ wy) ⊗ vd
      ≐ con (pos 0) ⊖ (p ⊗ (wx ⊗ vd ⊖ vx ⊗ wd) ⊕ q ⊗ (wy ⊗ vd ⊖ vy ⊗ wd))) refl
      f.p f.q v.x v.y v.d w.x w.y w.d)

  module _ (fs : List Functional) {s : Bool} (es : s ≡ less (gain f v) v.d (gain f w) w.d) where
    pub more-first : s ≡ true → true ≡ better (f ∷ fs) w v
    more-first e = above-gains f fs (between v w) (sym (es ∙ up) ∙ e)

    module _ {t : Bool} (et : t ≡ less (gain f w) w.d (gain f v) v.d) (e : s ≡ false) where
      pub less-last : t ≡ true → false ≡ better (f ∷ fs) w v
      less-last k = above-loses f fs (between v w) (sym (es ∙ up) ∙ e) (sym (et ∙ down) ∙ k)

      pub level-next : t ≡ false → {u : Bool} → u ≡ better fs w v → u ≡ better (f ∷ fs) w v
      level-next k eu = eu ∙ above-level f fs (between v w) (sym (es ∙ up) ∙ e) (sym (et ∙ down) ∙ k)

  -- the last functional decides alone
  pub more-last : {s : Bool} → s ≡ less (gain f v) v.d (gain f w) w.d → s ≡ better (f ∷ []) w v
  more-last es = es ∙ up ∙ above-last f (between v w)

-- ---- the tie's functionals

pub total-small : SmallFunctional tie.first
total-small = record { p-small = within-numeral tt; q-small = within-numeral tt }

pub least-small : SmallFunctional tie.second
least-small = record { p-small = within-numeral tt; q-small = within-numeral tt }

-- ---- an objective that earns nothing anywhere leaves the tie alone

abbrev pub idle : Functional
idle = functional (pos 0) (pos 0)

pub idle-small : SmallFunctional idle
idle-small = record { p-small = within-numeral tt; q-small = within-numeral tt }

idle-level : (d : Ray) → along idle d ≡ pos 0
idle-level d = ring 2 (λ x y. con (pos 0) ⊗ x ⊕ con (pos 0) ⊗ y ≐ con (pos 0)) refl d.dx d.dy

idle-above : (fs : List Functional) (d : Ray) → above (idle ∷ fs) d ≡ above fs d
idle-above fs d = sym (above-level idle fs d (ap (lt_z (pos 0)) (idle-level d)) (ap (λ (z : ℤ). lt_z z (pos 0)) (idle-level d)))

idle-pick : (fs : List Functional) (v : Point) (vs : List Point) → pick (better (idle ∷ fs)) v vs ≡ pick (better fs) v vs
idle-pick fs v [] = refl
idle-pick fs v (w ∷ vs) =
    ap (λ (b : Bool). pick (better (idle ∷ fs)) (elim b [ true ↦ w | false ↦ v ]) vs) (idle-above fs (between v w))
    ∙ idle-pick fs (elim (better fs w v) [ true ↦ w | false ↦ v ]) vs

pub idle-first : (vs : List Point) → first_by (gain_order idle tie) vs ≡ first_by (tie_order tie) vs
idle-first [] = refl
idle-first (v ∷ vs) = idle-pick (tie_order tie) v vs
