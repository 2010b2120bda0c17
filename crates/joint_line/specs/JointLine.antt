-- The printed line of the answer to two books joined: a plan's with a witness's rules named by their books (`report`), or a refusal that
-- names the book before its number. One space stands between fields, one line feed at the end.
use Rattle.std.specs.Prelude.{Bool, true, false, List, ◌++◌, Result, Ok, Err, ℕ}
use Rattle.answers.specs.declared.Plan.{Plan}
use Rattle.answers.specs.declared.Refusal.{Refusal}
use Rattle.text.specs.Text.{text}
use Rattle.text.specs.Number.{field, number}
use Rattle.text.specs.Append.{Fills}
use Rattle.report.specs.declared.Naming.TheVariants.{TwoBooks}
use Rattle.report.specs.Line.{line_named}
use Rattle.joining.specs.declared.JointRefusal.{JointRefusal}
use Rattle.joining.specs.declared.JointRefusal.TheVariants.{Site, Tenant}

unfoldable pub book_name : Bool → List ℕ
book_name true = field (text "tenant")
book_name false = field (text "site")

unfoldable pub turned : Bool → Refusal → List ℕ
turned tenant r = text "refused" ++ (book_name tenant ++ (number r.number ++ number r.at))

unfoldable pub refused_line : Bool → Refusal → List ℕ
refused_line tenant r = turned tenant r ++ text "\n"

unfoldable pub joint_line : Result Plan JointRefusal → List ℕ
joint_line (Err (Site r)) = refused_line false r
joint_line (Err (Tenant r)) = refused_line true r
joint_line (Ok p) = line_named TwoBooks (Ok p)

-- the promise of the line, in a buffer that has room for any
abbrev pub JointWritten : Result Plan JointRefusal → List ℕ → List ℕ → ℕ → Type 0
JointWritten answer = Fills (joint_line answer) 256
