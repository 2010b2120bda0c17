-- The answer for a line is right by that for its slip, since a text says one slip at most.
use mathlib.Core.Path.{◌≡◌, ap, ◌∙◌}
use mathlib.Core.List.{List}
use Prim.Native.Nat.{ℕ}
use Rattle.records.specs.Layout.{v2}
use Rattle.book.specs.Reading.{read_of}
use Rattle.slip.specs.declared.Slip.{Slip}
use Rattle.slip.specs.declared.Verdict.{Verdict}
use Rattle.slip.specs.Facts.{verdict_of}
use Rattle.slip_numbers.specs.Form.{out_of_range}
use Rattle.slip_reader.specs.Reading.{Says}
use Rattle.slip_reader.proofs.Lines.{says-one}
use Rattle.check_line.specs.Checks.{Checks}

module _ (book l : List ℕ) {r : Verdict} where
  pub checks_none : ((s : Slip) → Says l s → ⊥) → r ≡ verdict_of (read_of v2 book) out_of_range → Checks book l r
  checks_none n e = record { said = λ s h. absurd (n s h); unsaid = λ m. e }

  pub checks_given : (s : Slip) → Says l s → r ≡ verdict_of (read_of v2 book) s → Checks book l r
  checks_given s h e =
      record {
        said = λ t k. e ∙ ap (verdict_of (read_of v2 book)) (says-one l s t h k);
        unsaid = λ m. absurd (m s h);
      }
