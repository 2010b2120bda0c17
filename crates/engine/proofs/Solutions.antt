-- What a walk comes to, from the state that it holds: each law takes what the calls on one way returned.
use Rattle.std.specs.Prelude.{Option, Some}
use mathlib.Core.Path.{◌≡◌, sym, ◌∙◌, ap}
use Prim.Native.Nat.{ℕ}
use Rattle.lp.specs.declared.Functional.{Functional}
use Rattle.lp.specs.declared.Point.{Point}
use Rattle.lp.specs.declared.Certificate.{Certificate}
use Rattle.lp.specs.declared.Outcome.{Outcome}
use Rattle.witness.specs.Witness.{nobody}
use Rattle.lp.specs.declared.Ray.{Ray}
use Rattle.model.specs.declared.State.{State}
use Rattle.model.specs.declared.State.TheVariants.{Ended, Going}
use Rattle.model.specs.declared.Walk.{Walk}
use Rattle.model.specs.Step.{said, place_of, start_held}
use Rattle.engine.specs.declared.Solution.{Solution}
use Rattle.engine.specs.Solving.{solution_of, certificate_of, start_pair}

module _ (f : Functional) (w : Walk) where
  abbrev of_state : State → Solution
  of_state s =
      record {
        outcome = said f s;
        moves = w.moves;
        opened = w.opened;
        place = place_of s;
        certificate = certificate_of s;
        start = start_pair (start_held s);
        restarts = w.restarts;
      }

  pub solution-ended :
      {p : ℕ} {c : Certificate} →
      w.state ≡ Ended p c →
      of_state (Ended p c) ≡ solution_of f w
  solution-ended e = ap of_state (sym e)

  pub solution-going :
      {s : Point} {cone : Option (Ray × Ray)} {b : Option Point} →
      w.state ≡ Going s cone b →
      {o : Outcome} →
      o ≡ said f (Going s cone b) →
      ◌≡◌ {A = Solution} (record {
        outcome = o;
        moves = w.moves;
        opened = w.opened;
        place = 0;
        certificate = nobody;
        start = Some s;
        restarts = w.restarts;
      })
      (solution_of f w)
  solution-going {s} e eo =
      (λ i. record {
        outcome = eo i;
        moves = w.moves;
        opened = w.opened;
        place = 0;
        certificate = nobody;
        start = Some s;
        restarts = w.restarts;
      })
      ∙ ap of_state (sym e)
