-- A system with one constraint more, by its members alone, so that it does not matter at which end it grew.
use mathlib.Core.Path.{◌≡◌, refl}
use mathlib.Core.List.Memᴰ
use mathlib.Core.List.{List, [], ◌∷◌, ◌++◌, Memᴰ}
use mathlib.Core.Logic.{◌⊎◌, inl, inr}
use Rattle.lp.specs.declared.Constraint.{Constraint}
use Rattle.lp.specs.declared.Point.{Point}
use Rattle.lp.specs.Program.{Keeps, Feasible}

pub record Extends (S : List Constraint) (h : Constraint) (S' : List Constraint) : Type 0 where
  pub old : (r : Constraint) → Memᴰ r S → Memᴰ r S'
  pub new : Memᴰ h S'
  pub only : (r : Constraint) → Memᴰ r S' → Memᴰ r S ⊎ (r ≡ h)

pub extended : (S : List Constraint) (h : Constraint) → Extends S h (S ++ (h ∷ []))
extended S h =
    record {
      old = λ r i. Memᴰ.append_left (h ∷ []) i;
      new = Memᴰ.append_right S (Memᴰ.head refl);
      only = λ r i. go r (Memᴰ.append_cases S i);
    }
  where
    go : (r : Constraint) → Memᴰ r S ⊎ Memᴰ r (h ∷ []) → Memᴰ r S ⊎ (r ≡ h)
    go r (inl i) = inl i
    go r (inr i) = inr (Memᴰ.eq_of_singleton i)

module _ (S S' : List Constraint) (h : Constraint) (ext : Extends S h S') where
  -- what holds of the old constraints and of the new one holds of all
  pub for-extended {ℓ} :
      (Q : Constraint → Type ℓ) →
      ((r : Constraint) → Memᴰ r S → Q r) →
      Q h →
      (r : Constraint) →
      Memᴰ r S' →
      Q r
  for-extended Q f q r i = go (ext.only r i)
    where
      go : Memᴰ r S ⊎ (r ≡ h) → Q r
      go (inl j) = f r j
      go (inr e) = mathlib.Core.Path.subst Q (mathlib.Core.Path.sym e) q

  pub feasible_shrinks : (v : Point) → Feasible S' v → Feasible S v
  feasible_shrinks v f = record { proper = f.proper; kept = λ r i. f.kept r (ext.old r i) }

  pub feasible-keeps-new : (v : Point) → Feasible S' v → Keeps h v
  feasible-keeps-new v f = f.kept h ext.new

  pub feasible-grows : (v : Point) → Feasible S v → Keeps h v → Feasible S' v
  feasible-grows v f k = record { proper = f.proper; kept = for-extended (λ r. Keeps r v) f.kept k }
