-- What is handed back of a refusal and of a count, and what a start pair leaves in a lent run.
use mathlib.Core.Path.{◌≡◌, refl, sym, ◌∙◌, ap}
use mathlib.Core.List.{List}
use Prim.Native.Nat.{ℕ, ◌≤◌, ◌<◌}
use native.Mathlib.Omega.{arith}
use lib.ListN.{length}
use lib.IntN.{ℤ}
use Rattle.std.proofs.Common.{Result, Ok, Err}
use Rattle.std.specs.Prelude.{unwrap_or}
use Rattle.answers.specs.declared.Refusal.{Refusal}
use Rattle.handed.specs.Told.{told_of}
use Rattle.handed.specs.Start.{put_point, nowhere, view_told, StartPut}
use Rattle.planner.specs.declared.StartView.{StartView}

enough_or_short : (k : ℕ) → 3 ≤ k → k < 3 → ⊥
enough_or_short k a b = omega arith

module _ {view : Result StartView Refusal} where
  -- a view is of one book, refused or not
  never : {v : StartView} {r : Refusal} → view ≡ Ok v → view ≡ Err r → ⊥
  never e f =
      let z : ◌≡◌ {A = ℕ} 0 1 = cc in
      let b : ⊥ = omega arith in
      b

  pub start-written : {v : StartView} (before after : List ℤ) →
      view ≡ Ok v →
      3 ≤ length before →
      after ≡ put_point before (unwrap_or v.start nowhere) →
      StartPut view before after v.restarts
  start-written {v} before after q room e =
      record {
        written = λ w f long. let inner : v ≡ w = cc in e ∙ ap (λ (x : StartView). put_point before (unwrap_or x.start nowhere)) inner;
        refused-untouched = λ r f. absurd (never q f);
        short-untouched = λ short. absurd (enough_or_short (length before) room short);
        told = sym (ap view_told q);
      }

  pub start_unwritten : {v : StartView} (before : List ℤ) →
      view ≡ Ok v →
      length before < 3 →
      StartPut view before before v.restarts
  start_unwritten before q short =
      record {
        written = λ w f room. absurd (enough_or_short (length before) room short);
        refused-untouched = λ r f. refl;
        short-untouched = λ b. refl;
        told = sym (ap view_told q);
      }

  pub refused_unwritten : {r : Refusal} (before : List ℤ) →
      view ≡ Err r →
      {count : ℕ} →
      count ≡ told_of (Err r) →
      StartPut view before before count
  refused_unwritten before q t =
      record {
        written = λ w f room. absurd (never f q);
        refused-untouched = λ r f. refl;
        short-untouched = λ b. refl;
        told = t ∙ sym (ap view_told q);
      }
