-- What turns objectives back: each cause where it applies, and what it means that none does.
use Rattle.std.specs.Prelude.{Option, Some, None}
use Prim.Native.Nat.{ℕ, ◌*◌, ◌≤◌, ◌<◌}
use mathlib.Core.Path.{◌≡◌, refl, sym, ◌∙◌, ap}
use mathlib.Core.Bool.{Bool, true, false, cond}
use mathlib.Core.List.{List}
use lib.Dec.{ltb}
use lib.ListN.{length}
use borrow.Author.Tests.{lt-ltb, le-ltb, ltb-false}
use Rattle.answers.specs.declared.Cause.{Cause}
use Rattle.answers.specs.declared.Cause.TheVariants as cause
use Rattle.objectives.specs.Objectives.{bad_objectives, cause_of}

some_apart : {k : Cause} → ◌≡◌ {A = Option Cause} (Some k) None → ⊥
some_apart e = cc

module _ (objectives : List ℕ) (room : ℕ) where
  pub cause-sixteen : bad_objectives objectives ≡ true → Some cause.Objectives ≡ cause_of objectives room
  cause-sixteen e = sym (ap (λ b. cond b (Some cause.Objectives) (cond (ltb room (8 * length objectives)) (Some cause.Room) None)) e)

  cause-sound : bad_objectives objectives ≡ false →
      cause_of objectives room ≡ cond (ltb room (8 * length objectives)) (Some cause.Room) None
  cause-sound e = ap (λ b. cond b (Some cause.Objectives) (cond (ltb room (8 * length objectives)) (Some cause.Room) None)) e

  module _ (e : bad_objectives objectives ≡ false) where
    pub cause-eleven : room < 8 * length objectives → Some cause.Room ≡ cause_of objectives room
    cause-eleven h = sym (cause-sound e ∙ ap (λ b. cond b (Some cause.Room) None) (lt-ltb room (8 * length objectives) h))

    pub cause-none : 8 * length objectives ≤ room → None ≡ cause_of objectives room
    cause-none h = sym (cause-sound e ∙ ap (λ b. cond b (Some cause.Room) None) (le-ltb room (8 * length objectives) h))

  -- where there is none, the objectives are sound, and the answers have room
  pub none-sound : cause_of objectives room ≡ None → bad_objectives objectives ≡ false
  none-sound = go (bad_objectives objectives)
    where
      go : (b : Bool) →
          ◌≡◌ {A = Option Cause} (cond b (Some cause.Objectives) (cond (ltb room (8 * length objectives)) (Some cause.Room) None)) None →
          b ≡ false
      go true z = absurd (some_apart z)
      go false z = refl

  pub none-room : cause_of objectives room ≡ None → 8 * length objectives ≤ room
  none-room z = go (ltb room (8 * length objectives)) refl (sym (cause-sound (none-sound z)) ∙ z)
    where
      go : (b : Bool) →
          ltb room (8 * length objectives) ≡ b →
          ◌≡◌ {A = Option Cause} (cond b (Some cause.Room) None) None →
          8 * length objectives ≤ room
      go true t y = absurd (some_apart y)
      go false t y = ltb-false room (8 * length objectives) t
