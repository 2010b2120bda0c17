-- What is said of a plan and a refusal, if there is one: the refusal, or else the plan.
use Rattle.std.specs.Prelude.{Option, Some, None, Ok, Err}
use Rattle.answers.specs.declared.Plan.{Plan}
use Rattle.answers.specs.declared.Refusal.{Refusal}
use Rattle.answers.specs.Answer.{Answer}

abbrev pub said_of : Option Refusal → Plan → Answer
said_of (Some refusal) plan = Err refusal
said_of None plan = Ok plan
