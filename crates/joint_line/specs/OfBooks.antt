-- What is written to a lent buffer of two books joined: the line of an answer to them.
use Rattle.std.specs.Prelude.{List, ℕ, Result}
use Rattle.answers.specs.declared.Plan.{Plan}
use Rattle.joining.specs.declared.JointRefusal.{JointRefusal}
use Rattle.joining.specs.Joining.{Joins}
use Rattle.joint_line.specs.JointLine.{JointWritten}

-- the promise of the printed line: it is that of an answer to the two books, which is one as `join` promises
pub record JointLine (s u before after : List ℕ) (count : ℕ) : Type 0 where
  pub answer : Result Plan JointRefusal
  pub answers : Joins s u answer
  pub written : JointWritten answer before after count
