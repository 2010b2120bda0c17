-- The start point after one more constraint h: as it was, or restarted where it breaks h.
use Rattle.std.specs.Prelude.{List, Bool, true, false, ℕ, Result, Ok}
use Rattle.lp.specs.declared.Constraint.{Constraint}
use Rattle.lp.specs.declared.Tie.{Tie}
use Rattle.lp.specs.declared.Point.{Point}
use Rattle.lp.specs.declared.Certificate.{Certificate}
use Rattle.model.specs.Step.{restart}

-- kept says whether it keeps h
abbrev pub kept_or_restarted : Tie → List Constraint → ℕ → Constraint → Point → Bool → Result Point Certificate
kept_or_restarted t S n h s kept = elim kept [ true ↦ Ok s | false ↦ restart t S n h ]
