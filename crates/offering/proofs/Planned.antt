-- What an objective is answered from the corners and rays of a region is what a plan would give.
use Rattle.std.specs.Prelude.{Option, None, Some}
use mathlib.Core.Path.{◌≡◌, refl, sym, ◌∙◌, ap, subst}
use mathlib.Core.List.{List, [], ◌∷◌, Memᴰ}
use mathlib.Core.Logic.{◌↔◌}
use Prim.Native.Nat.{ℕ, suc, ◌-◌, ◌<◌}
use native.Mathlib.Omega.{arith}
use lib.IntN.{ℤ}
use Rattle.lp.specs.declared.Constraint.{Constraint}
use Rattle.lp.specs.declared.Functional.{Functional}
use Rattle.lp.specs.declared.Floors.{Floors}
use Rattle.lp.specs.declared.Point.{Point}
use Rattle.lp.specs.declared.Ray.{Ray}
use Rattle.lp.specs.Program.{system}
use Rattle.lp.specs.Outcome.{tie_order, gain_order}
use Rattle.lp.specs.Document.{tie}
use Rattle.model.specs.Step.{gaining}
use Rattle.theory.proofs.Ties.{tie_good}
use Rattle.theory.proofs.Enumeration.{allowed_vertices}
use Rattle.batch_theory.specs.Rays.{rays_of}
use Rattle.batch_theory.proofs.Theorems.{none-impossible, gaining-unlimited, resting_best}
use Rattle.offering.specs.declared.offers.Offer.TheVariants.{Best, Unlimited, Impossible}
use Rattle.offering.specs.Offers.{offer_of, offer_for, answers_for}
use Rattle.offering.specs.Listed.{points_from, first_by, offer_along, offer_in, answers_by}
use Rattle.offering.proofs.Written.{answers-planned}

-- ---- with corners in a run

module _ (cone : Option (Ray × Ray)) (l : List ℤ) (f : Functional) where
  pub offer-none : {n : ℕ} → n ≡ 0 → Impossible ≡ offer_in cone (points_from l 0 n) f
  offer-none e = sym (ap (λ (m : ℕ). offer_in cone (points_from l 0 m) f) e)

  offer-some : {n : ℕ} →
      0 < n →
      offer_along (gaining f cone) (first_by (tie_order tie) (points_from l 0 n)) (first_by (gain_order f tie) (points_from l 0 n))
      ≡ offer_in cone (points_from l 0 n) f
  offer-some {n} h =
      subst
      (λ (m : ℕ). offer_along (gaining f cone) (first_by (tie_order tie) (points_from l 0 m)) (first_by (gain_order f tie) (points_from l 0 m))
      ≡ offer_in cone (points_from l 0 m) f)
      (sym more) refl
    where
      more : n ≡ suc (n - 1)
      more = omega arith

  module _ (n : ℕ) (some : 0 < n) {g : Option Ray} (eg : g ≡ gaining f cone) where
    pub offer-unlimited : {d : Ray} →
        g ≡ Some d →
        {start : Point} →
        start ≡ first_by (tie_order tie) (points_from l 0 n) →
        Unlimited start ≡ offer_in cone (points_from l 0 n) f
    offer-unlimited {d} e es =
        ap (λ v. Unlimited v) es
        ∙ ap
        (λ (h : Option Ray). offer_along h (first_by (tie_order tie) (points_from l 0 n)) (first_by (gain_order f tie) (points_from l 0 n)))
        (sym e ∙ eg)
        ∙ offer-some some

    pub offer-best : g ≡ None →
        {best : Point} →
        best ≡ first_by (gain_order f tie) (points_from l 0 n) →
        Best best ≡ offer_in cone (points_from l 0 n) f
    offer-best e eb =
        ap (λ v. Best v) eb
        ∙ ap
        (λ (h : Option Ray). offer_along h (first_by (tie_order tie) (points_from l 0 n)) (first_by (gain_order f tie) (points_from l 0 n)))
        (sym e ∙ eg)
        ∙ offer-some some

-- ---- the theorem

module _ (floors : Floors) (rules : List Constraint) where
  pub offer-planned : (vs : List Point) →
      ((v : Point) → Memᴰ v vs ↔ Memᴰ v (allowed_vertices (system floors rules))) →
      (f : Functional) →
      offer_in (rays_of rules) vs f ≡ offer_for floors rules f
  offer-planned [] exactly f = sym (ap offer_of (none-impossible tie tie_good floors f rules [] exactly refl))
  offer-planned (v ∷ vs) exactly f = go (gaining f (rays_of rules)) refl
    where
      go : (g : Option Ray) →
          gaining f (rays_of rules) ≡ g →
          offer_along g (first_by (tie_order tie) (v ∷ vs)) (first_by (gain_order f tie) (v ∷ vs)) ≡ offer_for floors rules f
      go (Some d) e = sym (ap offer_of (gaining-unlimited tie tie_good floors f rules (v ∷ vs) exactly v vs refl d e).1)
      go None e = sym (ap offer_of (resting_best tie tie_good floors f rules (v ∷ vs) exactly v vs refl e))

  -- all of them, from the corners that were laid out
  pub answers-laid : {cone : Option (Ray × Ray)} →
      cone ≡ rays_of rules →
      (vs : List Point) →
      ((v : Point) → Memᴰ v vs ↔ Memᴰ v (allowed_vertices (system floors rules))) →
      (fs : List Functional) →
      answers_by (offer_in cone vs) fs ≡ answers_for floors rules fs
  answers-laid {cone} e vs exactly =
      answers-planned (offer_in cone vs) floors rules
      (λ f. ap (λ (c : Option (Ray × Ray)). offer_in c vs f) e ∙ offer-planned vs exactly f)
