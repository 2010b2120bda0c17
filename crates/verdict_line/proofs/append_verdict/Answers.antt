-- `verdict_line::append_verdict` meets its contract. Each arm of the match is given the verdict that it is for.
use native.Mathlib.Omega.{arith}
use mathlib.Core.Path.{ap, sym}
use Rattle.text.proofs.Adding.{fits, spelt, roomier}
use Rattle.verdict_line.specs.Verdict.{verdict_text}
use Rattle.verdict_line.proofs.append_verdict.Goals as goal

pub returns-in-Refused : goal.returns-in-Refused
unfolding verdict_text
returns-in-Refused c = spelt (ap verdict_text (sym c.in-Refused.is)) (fits (omega arith) c.append_refused.ensures)

pub returns-in-Yes : goal.returns-in-Yes
unfolding verdict_text
returns-in-Yes c = spelt (ap verdict_text (sym c.in-Yes.is)) (roomier (omega arith) (fits (omega arith) c.append_word.ensures))

pub returns-in-No : goal.returns-in-No
unfolding verdict_text
returns-in-No c = spelt (ap verdict_text (sym c.in-No.is)) (roomier (omega arith) (fits (omega arith) c.append_word-in-No.ensures))
