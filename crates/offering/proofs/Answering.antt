-- The promise of `answer` on each of its two ways.
use Rattle.std.specs.Prelude.{Option, None, Some, Result, Ok, Err}
use mathlib.Core.Path.{◌≡◌, refl, sym, ◌∙◌, ap}
use mathlib.Core.List.{List, ◌++◌}
use mathlib.Core.Bool.{Bool, true, false, cond, true≢false}
use Prim.Native.Nat.{ℕ, ◌*◌}
use lib.ListN.{length, drop}
use lib.IntN.{ℤ}
use Rattle.lp.specs.declared.Floors.{Floors}
use Rattle.answers.specs.declared.Cause.{Cause}
use Rattle.engine.specs.Entries.{entries}
use Rattle.laying.specs.Laying.{within, Lays}
use Rattle.laying.proofs.Layouts.{all_listed, rules_stay}
use Rattle.batch_theory.specs.Rays.{rays_of}
use Rattle.objectives.specs.Objectives.{objectives_of, cause_of}
use Rattle.objectives.proofs.Turned.{none-sound, none-room}
use Rattle.offering.specs.declared.Unanswered.{Unanswered}
use Rattle.offering.specs.declared.Unanswered.TheVariants as unanswered
use Rattle.offering.specs.Offers.{answers_for}
use Rattle.offering.specs.Listed.{points_from}
use Rattle.offering.specs.Asked.{Filled, Fills, answered_of, filled_of}
use Rattle.offering.specs.Answering.{Done, Answers}
use Rattle.offering.proofs.Layouts.{all-within, exactly, listing}
use Rattle.offering.proofs.Planned.{answers-laid}

-- ---- the promise

some_apart : {k : Cause} → ◌≡◌ {A = Option Cause} (Some k) None → ⊥
some_apart e = cc

same_cause : {k m : Cause} → ◌≡◌ {A = Option Cause} (Some k) (Some m) → k ≡ m
same_cause e = cc

module _ (f : Floors) (e : List ℤ) (order ring : List ℕ) (corners : List ℤ) (objectives out : List ℕ) where
  pub answers-declined : (k : Cause) →
      cause_of objectives (length out) ≡ Some k →
      Answers f e order ring corners objectives out (Err (unanswered.Declined k)) e order ring corners out
  answers-declined k some =
      record {
        declined =
            λ cause x.
            record {
              answer = ap (λ n. Err (unanswered.Declined n)) (same_cause (sym some ∙ x));
              output = refl;
              run = refl;
              same-order = refl;
              same-ring = refl;
              same-corners = refl;
            };
        done = λ z. absurd (some_apart (sym some ∙ z));
      }

  module _
      (none : cause_of objectives (length out) ≡ None)
      {l : Option ℕ} {e' : List ℤ} {order' ring' : List ℕ} {corners' : List ℤ}
      (h : Lays f e order ring corners l e' order' ring' corners')
      (as_long : length corners' ≡ length corners) where
    abbrev n : ℕ
    n = length order

    abbrev rest : List ℕ
    rest = drop (8 * length objectives) out

    pub filling : Filled l n e' corners' objectives out
    filling =
        record {
          inside = listing f e order ring corners h as_long;
          sound = none-sound objectives (length out) none;
          room = none-room objectives (length out) none;
        }

    module _ {r : Result ℕ Unanswered} {out' : List ℕ} (w : Fills l n e' corners' objectives out r out') where
      abbrev in_range : Bool
      in_range = within f e n (length ring) (length corners)

      abbrev bytes : List ℕ
      bytes = answers_for f (entries e 2 n) (objectives_of objectives)

      finished : in_range ≡ true →
          r ≡ Ok (8 * length objectives) →
          out' ≡ bytes ++ rest →
          Done f e order ring corners objectives out r e' order' ring' corners' out'
      finished so er eo =
          record {
            listed = l;
            laid = h;
            answer = er ∙ sym (ap (λ b. cond b (Ok (8 * length objectives)) (Err unanswered.Outside)) so);
            output = eo ∙ sym (ap (λ b. cond b (bytes ++ rest) out) so);
          }

      outside : in_range ≡ false →
          r ≡ Err unanswered.Outside →
          out' ≡ out →
          Done f e order ring corners objectives out r e' order' ring' corners' out'
      outside not er eo =
          record {
            listed = l;
            laid = h;
            answer = er ∙ sym (ap (λ b. cond b (Ok (8 * length objectives)) (Err unanswered.Outside)) not);
            output = eo ∙ sym (ap (λ b. cond b (bytes ++ rest) out) not);
          }

      answered-by : (k : ℕ) → l ≡ Some k → filled_of (Some k) n e' corners' objectives out ≡ bytes ++ rest
      answered-by k q =
          ap (λ (bs : List ℕ). bs ++ rest)
          (answers-laid f (entries e 2 n)
          (ap rays_of (rules_stay f e order ring corners h (all-within f e order ring corners h as_long k q)))
          (points_from corners' 0 k) (exactly f e order ring corners h as_long k q) (objectives_of objectives))

      abbrev corners-listed : Option ℕ → Bool
      corners-listed None = false
      corners-listed (Some k) = true

      never : (b : Bool) → in_range ≡ b → l ≡ None → b ≡ false
      never true so q = absurd (true≢false (sym (ap corners-listed (all_listed f e order ring corners h so)) ∙ ap corners-listed q))
      never false so q = refl

      finish : (x : Option ℕ) → l ≡ x → Done f e order ring corners objectives out r e' order' ring' corners' out'
      finish None q =
          outside (never in_range refl q) (w.answer ∙ ap (λ (y : Option ℕ). answered_of y (8 * length objectives)) q)
          (w.output ∙ ap (λ (y : Option ℕ). filled_of y n e' corners' objectives out) q)
      finish (Some k) q =
          finished (all-within f e order ring corners h as_long k q)
          (w.answer ∙ ap (λ (y : Option ℕ). answered_of y (8 * length objectives)) q)
          (w.output ∙ ap (λ (y : Option ℕ). filled_of y n e' corners' objectives out) q ∙ answered-by k q)

      pub answers-done : Answers f e order ring corners objectives out r e' order' ring' corners' out'
      answers-done = record { declined = λ cause some. absurd (some_apart (sym some ∙ none)); done = λ z. finish l refl }
