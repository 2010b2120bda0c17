-- What a book is planned as: its refusal, or document 01's answer to the chain that it reads as.
use Rattle.std.specs.Prelude.{◌≡◌, List, ℕ, zero, suc, Ok, Err}
use Rattle.lp.specs.declared.Constraint.{Constraint}
use Rattle.lp.specs.declared.Floors.{Floors}
use Rattle.lp.specs.Program.{floor_x, floor_y}
use Rattle.records.specs.Layout.{Layout}
use Rattle.records.specs.Record.{record_at, rule_of}
use Rattle.records.specs.Planned.{planned_rule}
use Rattle.book.specs.Reading.{Reading, refused, accepted, read_of, rules_of, records_of}
use Rattle.answers.specs.Answer.{Answer}
use Rattle.answers.specs.Refusal.{refusal}
use Rattle.plans.specs.Planning.{PlannedAs}

-- the answer to what a book reads as: a rule's name is its record
abbrev pub AnsweredBy : Reading → Answer → Type 0
AnsweredBy (refused n r) a = a ≡ Err (refusal n r)
AnsweredBy (accepted t es) (Err x) = ⊥
AnsweredBy (accepted t es) (Ok p) = PlannedAs t (records_of es) (rules_of es) p

-- the promise of `plan`
pub record Answers (L : Layout) (s : List ℕ) (a : Answer) : Type 0 where
  pub answered : AnsweredBy (read_of L s) a

-- what a code of a witness stands for in a book's bytes: floor x, floor y, or the rule in record r, whose code is r + 1
abbrev pub rule_named : Layout → Floors → List ℕ → ℕ → Constraint
rule_named L floors s zero = floor_x floors
rule_named L floors s (suc zero) = floor_y floors
rule_named L floors s (suc (suc q)) = planned_rule (rule_of L (record_at L s (suc q)))
